-- What fold makes of a node by value; its attributes and entries are lists beside it. Document 01: "Delta on nothing: a node of initial values
-- (parent 1, empty target), then applied. Delta of the node's kind: applied; created time is dropped, device kept."
use Rattle.std.specs.Prelude.{◌≡◌, List, ℕ}
use Rattle.wire.specs.Orders.{by_bytes}
use Rattle.wire.specs.Maps.{meet, empty}
use Rattle.image.specs.Meaning as M
use Rattle.image.specs.Meaning.{Entries, Attributes, Body, Change, directory, file, symlink, special, pipe, character, block, socket, changed_kind}
use Rattle.image.specs.declared.name.Under.TheVariants as U
use Rattle.rules.specs.Initial.{usual}
use Rattle.rules.specs.Fold.{add_all, remove_all, alter_all, on_meta, on_body, applied, first_meta, first_body, first_node}
use Rattle.nodes.specs.Options.{text_at}
use Rattle.nodes.specs.Listed.{list_of}
use Rattle.nodes.specs.Attrs.{fields_meant}
use Rattle.deltas.specs.Deltas.{attr_of, change_meant, delta_meant}
use Rattle.nodes.specs.declared.attr.AttrDelta.{AttrDelta}
use Rattle.deltas.specs.declared.delta.NodeDelta.{NodeDelta}
use Rattle.nodes.specs.declared.node.InodeMeta.{InodeMeta}
use Rattle.nodes.specs.declared.node.NodeKind.{NodeKind}
use Rattle.nodes.specs.declared.node.NodeKind.TheVariants as K
use Rattle.nodes.specs.declared.node.Node.{Node}
use Rattle.writers.specs.Writes.{meta_with}

-- ---- a node with these attributes and entries

module _ (img : List ℕ) where
  abbrev pub body_with : NodeKind → Entries → Body
  body_with (K.Directory parent p) es = directory parent es
  body_with (K.File size) es = file size
  body_with (K.Symlink t) es = symlink (text_at img t)
  body_with K.Fifo es = special pipe
  body_with (K.CharDevice rdev) es = special (character rdev)
  body_with (K.BlockDevice rdev) es = special (block rdev)
  body_with K.Socket es = special socket

  abbrev pub node_with : Node → Attributes → Entries → M.Node
  node_with n vs es = record { meta = meta_with n.meta vs; body = body_with n.kind es }

  -- what a delta makes of attributes
  abbrev pub on_attributes : AttrDelta → Attributes → Attributes
  on_attributes a vs = meet alter_all (list_of img U.Change a.xattrs) vs

-- what it makes of entries
abbrev pub on_entries : Change → Entries → Entries
on_entries (directory p added removed) es = add_all added (remove_all removed es)
on_entries (file n) es = es
on_entries (symlink t) es = es
on_entries (special s device) es = es

-- ---- what it means

-- "Owner, group, size and times are 0"
abbrev pub FirstMeta : NodeDelta → InodeMeta → Type 0
FirstMeta d r = (img : List ℕ) → meta_with r (empty by_bytes) ≡ first_meta usual (changed_kind (change_meant img d))

abbrev pub FirstKind : NodeDelta → NodeKind → Type 0
FirstKind d r = (img : List ℕ) → body_with img r (empty by_bytes) ≡ first_body (change_meant img d)

-- "a node of initial values"
abbrev pub FirstNode : NodeDelta → Node → Type 0
FirstNode d r = (img : List ℕ) → node_with img r (empty by_bytes) (empty by_bytes) ≡ first_node usual (change_meant img d)

abbrev pub AppliesMeta : AttrDelta → InodeMeta → InodeMeta → Type 0
AppliesMeta a m r = (img : List ℕ) (vs : Attributes) → meta_with r (on_attributes img a vs) ≡ on_meta (fields_meant img a) (meta_with m vs)

abbrev pub AppliesKind : NodeDelta → NodeKind → NodeKind → Type 0
AppliesKind d k r = (img : List ℕ) (es : Entries) → body_with img r (on_entries (change_meant img d) es) ≡ on_body (change_meant img d) (body_with img k es)

-- "then applied"
abbrev pub AppliesNode : NodeDelta → Node → Node → Type 0
AppliesNode d n r =
    (img : List ℕ) (vs : Attributes) (es : Entries)
    → node_with img r (on_attributes img (attr_of d) vs) (on_entries (change_meant img d) es) ≡ applied (delta_meant img d) (node_with img n vs es)
