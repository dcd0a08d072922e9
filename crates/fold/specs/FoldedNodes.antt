-- The node of a stack with its records folded in. Document 01: "Tombstone: node gone. Delta on nothing: a node of initial values (parent 1,
-- empty target), then applied. Delta of the node's kind: applied, entries sorted, no empty attribute map. Other kind: nothing."
use Rattle.nodes.specs.declared.node.Node.{Node}
use Rattle.std.specs.Prelude.{◌≡◌, List, [], cond, ℕ, ◌+◌, None, Option, Some}
use Rattle.wire.specs.Orders.{by_bytes}
use Rattle.wire.specs.Maps.{Map, empty}
use Rattle.wire.specs.Number.{number_bytes}
use Rattle.wire.specs.Put.{Put}
use Rattle.image.specs.Meaning as M
use Rattle.image.specs.Meaning.{Entries, Attributes, kind_of, changed_kind, directory}
use Rattle.image.specs.FieldLayout.{attributes, entries}
use Rattle.image.specs.Under.{UnderName}
use Rattle.image.specs.declared.name.Under.{Under}
use Rattle.image.specs.declared.name.Under.TheVariants as U
use Rattle.image.specs.NodeLayout.{body_part, body_part_of, node}
use Rattle.rules.specs.Initial.{usual}
use Rattle.rules.specs.Fold.{fold_record, same_kind, applied}
use Rattle.rules.specs.PlacedStacks.{node_at, unplaced, unplaced_node}
use Rattle.rules.proofs.Folded.{folded}
use Rattle.deltas.specs.Deltas.{attr_of, change_meant, delta_meant, entry_meant}
use Rattle.nodes.specs.Options.{text_at}
use Rattle.nodes.specs.Listed.{list_at, Listed}
use Rattle.nodes.specs.Nodes.{body_meant}
use Rattle.deltas.specs.declared.delta.NodeDelta.{NodeDelta}
use Rattle.deltas.specs.declared.delta.EntryDelta.{EntryDelta}
use Rattle.deltas.specs.declared.delta.EntryDelta.TheVariants as E
use Rattle.nodes.specs.declared.node.NodeKind.{NodeKind}
use Rattle.nodes.specs.declared.node.NodeKind.TheVariants as K
use Rattle.image.specs.FileTypes.{kind_meant}
use Rattle.image.specs.declared.kind.FileType.{FileType}
use Rattle.stack.specs.Stacks.{records_in, node_in, BaseIs}
use Rattle.stack.specs.declared.stack.Stack.{Stack}
use Rattle.apply.specs.Folded.{body_with, node_with, on_attributes, on_entries}
use Rattle.fold.specs.Lists.{attributes_of, entries_of}
use Rattle.fold.specs.declared.folded.Origin.{Origin}
use Rattle.fold.specs.declared.folded.Origin.TheVariants as From
use Rattle.fold.specs.declared.folded.Folded.{Folded}

-- ---- where a list comes from

-- the list stands whole at this part of the image; it is empty; of one that the stack makes nothing is said
abbrev pub Comes : (img : List ℕ) (u : Under) → Origin → Map by_bytes (UnderName u) → Type 0
Comes img u (From.Base p) l = (list_at img u p ≡ l) × Listed img u p (p.start + p.length)
Comes img u From.Nothing l = l ≡ empty by_bytes
Comes img u From.Merged l = Unit {0}

-- after a delta
pub record AttributesAfter (d : NodeDelta) (o r : Origin) : Type 0 where
  pub makes : (img : List ℕ) (vs : Attributes) → Comes img U.Value o vs → Comes img U.Value r (on_attributes img (attr_of d) vs)

pub record EntriesAfter (d : NodeDelta) (o r : Origin) : Type 0 where
  pub makes : (img : List ℕ) (es : Entries) → Comes img U.Inode o es → Comes img U.Inode r (on_entries (change_meant img d) es)

-- in the base: "parent and entries, or size, or target, or device, or nothing, by kind"
abbrev pub entries_from : NodeKind → Origin
entries_from (K.Directory parent p) = From.Base p
entries_from (K.File size) = From.Nothing
entries_from (K.Symlink t) = From.Nothing
entries_from K.Fifo = From.Nothing
entries_from (K.CharDevice rdev) = From.Nothing
entries_from (K.BlockDevice rdev) = From.Nothing
entries_from K.Socket = From.Nothing

-- ---- by value: a node and where its lists come from

-- f is the node m, with these attributes and entries
pub record Shows (img : List ℕ) (f : Folded) (m : M.Node) : Type 0 where
  pub attributes : Attributes
  pub entries : Entries
  pub is : node_with img f.node attributes entries ≡ m
  pub attributes_come : Comes img U.Value f.attributes attributes
  pub entries_come : Comes img U.Inode f.entries entries

abbrev pub ShowsIf : List ℕ → Option Folded → Option M.Node → Type 0
ShowsIf img None None = Unit {0}
ShowsIf img None (Some m) = ⊥
ShowsIf img (Some f) None = ⊥
ShowsIf img (Some f) (Some m) = Shows img f m

-- the base node
pub record FoldsBase (o : Option Node) (r : Option Folded) : Type 0 where
  pub makes : (img : List ℕ) (p : Option ℕ) → BaseIs img p o → ShowsIf img r (unplaced_node (node_at img p))

-- a delta applied
pub record WithDelta (d : NodeDelta) (f r : Folded) : Type 0 where
  pub makes : (img : List ℕ) (m : M.Node) → Shows img f m → Shows img r (applied (delta_meant img d) m)

-- "Delta of the node's kind: applied. Other kind: nothing."
pub record FoldsDelta (d : NodeDelta) (f r : Folded) : Type 0 where
  pub makes : (img : List ℕ) (m : M.Node) → Shows img f m
      → Shows img r (cond (same_kind (changed_kind (change_meant img d)) (kind_of m.body)) (applied (delta_meant img d) m) m)

pub record FoldsRecord (e : EntryDelta) (o r : Option Folded) : Type 0 where
  pub makes : (img : List ℕ) (m : Option M.Node) → ShowsIf img o m → ShowsIf img r (fold_record usual (entry_meant img e) m)

-- "Delta on nothing: a node of initial values, then applied."
abbrev pub StartsNode : NodeDelta → Folded → Type 0
StartsNode d r = FoldsRecord (E.Node d) None (Some r)

-- ---- the node of a stack

abbrev pub folded_in : Stack → Option M.Node
folded_in s = folded usual (unplaced (records_in s.img.now s.places)) (unplaced_node (node_in s.img.now s.places))

-- the stack has this node
abbrev pub FoldsTo : Stack → Folded → Type 0
FoldsTo s f = ShowsIf s.img.now (Some f) (folded_in s)

-- ---- what is written

-- of a list: the part of the image; the count 0; what the stack makes
abbrev pub origin_bytes : List ℕ → Origin → List ℕ → List ℕ
origin_bytes img (From.Base p) made = text_at img p
origin_bytes img From.Nothing made = number_bytes 0
origin_bytes img From.Merged made = made

-- "parent and entries, or size, or target, or device, or nothing, by kind"
abbrev pub body_written : List ℕ → NodeKind → Entries → List ℕ
body_written img k es = (body_part (kind_of (body_with img k es))).write (body_part_of (body_with img k es))

-- with entries whose bytes are these
pub record PutsBody (s : Stack) (k : NodeKind) (o : Origin) (old : List ℕ) (at r : ℕ) (new : List ℕ) : Type 0 where
  pub puts : (es : Entries) → (kind_of (body_with s.img.now k es) ≡ directory → origin_bytes s.img.now o (entries.write (entries_of s)) ≡ entries.write es)
      → Put old at (body_written s.img.now k es) r new

abbrev pub bytes_if : Option M.Node → List ℕ
bytes_if None = []
bytes_if (Some m) = node.write m

-- a node with lists whose bytes are these; the stack's attributes are of its own kind
pub record Merged (s : Stack) (f : Folded) (old : List ℕ) (at r : ℕ) (new : List ℕ) : Type 0 where
  pub type : FileType
  pub same : (m : List ℕ) → kind_meant type ≡ kind_of (body_meant m f.node.kind)
  pub puts : (vs : Attributes) (es : Entries) → origin_bytes s.img.now f.attributes (attributes.write (attributes_of s type)) ≡ attributes.write vs
      → (kind_of (body_with s.img.now f.node.kind es) ≡ directory → origin_bytes s.img.now f.entries (entries.write (entries_of s)) ≡ entries.write es)
      → Put old at (node.write (node_with s.img.now f.node vs es)) r new
