-- The node that the code makes of a stack, and how it is written.
-- Assumes nothing.
use Rattle.std.specs.Prelude.{None, Option, Some}
use mathlib.Core.Path.{◌≡◌, refl, sym, ap, ◌∙◌}
use mathlib.Core.Bool.{Bool, true, false}
use mathlib.Core.List.{List, ◌++◌, append_assoc, append-nil}
use Prim.Native.Nat.{ℕ, ◌+◌, ◌≤◌, ◌<◌}
use native.Mathlib.Omega.{arith}
use Rattle.wire.specs.Orders.{by_bytes}
use Rattle.wire.specs.Maps.{Map, empty}
use Rattle.wire.specs.Number.{number_bytes}
use Rattle.wire.specs.Put.{Put}
use Rattle.wire.proofs.Puts.{put-append}
use Rattle.image.specs.Meaning as M
use Rattle.image.specs.Meaning.{Entries, Attributes, kind_number, kind_of, changed_kind, directory, delta}
use Rattle.image.specs.FieldLayout.{attributes, entries}
use Rattle.image.specs.KindLayout.{kind}
use Rattle.image.specs.NodeLayout.{node}
use Rattle.image.specs.Under.{UnderName}
use Rattle.image.specs.declared.name.Under.{Under}
use Rattle.image.specs.declared.name.Under.TheVariants as U
use Rattle.rules.specs.Initial.{usual}
use Rattle.rules.specs.Fold.{same_kind, applied, fold_record}
use Rattle.rules.specs.PlacedStacks.{records_on, node_at, unplaced, unplaced_node}
use Rattle.rules.specs.Changes.{map_if}
use Rattle.rules.proofs.Folded.{folded}
use Rattle.nodes.specs.Listed.{by_name, list_at, Listed}
use Rattle.deltas.specs.Deltas.{attr_of, change_meant, delta_meant}
use Rattle.nodes.specs.Nodes.{body_meant, EntriesListed}
use Rattle.deltas.specs.declared.delta.NodeDelta.{NodeDelta}
use Rattle.deltas.specs.declared.delta.EntryDelta.{EntryDelta}
use Rattle.deltas.specs.declared.delta.EntryDelta.TheVariants as E
use Rattle.wire.specs.declared.part.Part.{Part}
use Rattle.nodes.specs.declared.node.NodeKind.{NodeKind}
use Rattle.nodes.specs.declared.node.NodeKind.TheVariants as K
use Rattle.nodes.specs.declared.node.Node.{Node}
use Rattle.image.specs.FileTypes.{kind_meant}
use Rattle.image.specs.declared.kind.FileType.{FileType}
use Rattle.writers.specs.Writes.{meta_bytes}
use Rattle.writers.proofs.Written.{meta-with-bytes}
use Rattle.records.specs.Records.{body_bytes}
use Rattle.writers.proofs.Writing.{list_written}
use Rattle.stack.specs.Stacks.{records_under, records_in, node_in, BaseIs}
use Rattle.stack.specs.InStack.{RecordIn, BaseIn}
use Rattle.stack.specs.declared.stack.Stack.{Stack}
use Rattle.stack.proofs.Walks.{records-more}
use Rattle.apply.specs.Folded.{body_with, node_with, on_attributes, on_entries, FirstNode, AppliesNode}
use Rattle.fold.specs.Lists.{attributes_of, entries_of}
use Rattle.fold.specs.FoldedNodes.{Comes, AttributesAfter, EntriesAfter, entries_from, Shows, ShowsIf, WithDelta, FoldsBase, FoldsDelta, FoldsRecord}
use Rattle.fold.specs.FoldedNodes.{folded_in, FoldsTo, origin_bytes, body_written, PutsBody, bytes_if, Merged}
use Rattle.fold.specs.declared.folded.Origin.{Origin}
use Rattle.fold.specs.declared.folded.Origin.TheVariants as From
use Rattle.fold.specs.declared.folded.Folded.{Folded}
use Rattle.fold.proofs.Folds.{attributes-fold, entries-fold, entries_in}

-- ---- the kind of a node, whatever its lists

kind-with : (img : List ℕ) (k : NodeKind) (es : Entries) → kind_of (body_meant img k) ≡ kind_of (body_with img k es)
kind-with img (K.Directory parent p) es = refl
kind-with img (K.File size) es = refl
kind-with img (K.Symlink t) es = refl
kind-with img K.Fifo es = refl
kind-with img (K.CharDevice rdev) es = refl
kind-with img (K.BlockDevice rdev) es = refl
kind-with img K.Socket es = refl

pub shows-kind : {img : List ℕ} {f : Folded} {m : M.Node} → Shows img f m → kind_of (body_meant img f.node.kind) ≡ kind_of m.body
shows-kind {img} {f} h = kind-with img f.node.kind h.entries ∙ ap (λ (x : M.Node). kind_of x.body) h.is

-- ---- a record folded in

pub with-delta : (d : NodeDelta) (n r : Folded) → AppliesNode d n.node r.node → AttributesAfter d n.attributes r.attributes
    → EntriesAfter d n.entries r.entries → WithDelta d n r
with-delta d n r f a b = record {
  makes = λ img m h. record {
    attributes = on_attributes img (attr_of d) h.attributes;
    entries = on_entries (change_meant img d) h.entries;
    is = f img h.attributes h.entries ∙ ap (λ (x : M.Node). applied (delta_meant img d) x) h.is;
    attributes_come = a.makes img h.attributes h.attributes_come;
    entries_come = b.makes img h.entries h.entries_come;
  };
}

module _ (d : NodeDelta) (n : Folded) (t : FileType) {b : Bool} (s : (img : List ℕ) → b ≡ same_kind (changed_kind (change_meant img d)) (kind_meant t))
    (k : (img : List ℕ) → kind_meant t ≡ kind_of (body_meant img n.node.kind)) where
  same-told : {img : List ℕ} {m : M.Node} → Shows img n m → same_kind (changed_kind (change_meant img d)) (kind_of m.body) ≡ b
  same-told {img} {m} h = rw (← (shows-kind h), ← (k img)) (sym (s img))

  pub delta-applied : (r : Folded) → WithDelta d n r → b ≡ true → FoldsDelta d n r
  delta-applied r w e = record { makes = λ img m h. rw (same-told h, e) (w.makes img m h) }

  pub delta-other : b ≡ false → FoldsDelta d n n
  delta-other e = record { makes = λ img m h. rw (same-told h, e) h }

pub record-on : {d : NodeDelta} {n r : Folded} → FoldsDelta d n r → FoldsRecord (E.Node d) (Some n) (Some r)
unfolding fold_record
record-on {d} {n} {r} f = record { makes = go }
  where
    go : (img : List ℕ) (m : Option M.Node) → ShowsIf img (Some n) m → ShowsIf img (Some r) (fold_record usual (delta (delta_meant img d)) m)
    go img None h = absurd h
    go img (Some m) h = f.makes img m h

pub record-first : (d : NodeDelta) (n : Node) (r : Folded) → FirstNode d n
    → WithDelta d (record { node = n; attributes = From.Nothing; entries = From.Nothing }) r → FoldsRecord (E.Node d) None (Some r)
unfolding fold_record
record-first d n r g w = record { makes = go }
  where
    go : (img : List ℕ) (m : Option M.Node) → ShowsIf img None m → ShowsIf img (Some r) (fold_record usual (delta (delta_meant img d)) m)
    go img None h =
        w.makes img _
        (record { attributes = empty by_bytes; entries = empty by_bytes; is = g img; attributes_come = refl; entries_come = refl })
    go img (Some m) h = absurd h

pub record-gone : (o : Option Folded) → FoldsRecord E.Tombstone o None
unfolding fold_record
record-gone o = record { makes = λ img m h. tt }

-- ---- from the bottom

body-shows : (img : List ℕ) (k : NodeKind) → body_with img k (entries_in (body_meant img k)) ≡ body_meant img k
body-shows img (K.Directory parent p) = refl
body-shows img (K.File size) = refl
body-shows img (K.Symlink t) = refl
body-shows img K.Fifo = refl
body-shows img (K.CharDevice rdev) = refl
body-shows img (K.BlockDevice rdev) = refl
body-shows img K.Socket = refl

whole : {img : List ℕ} {u : Under} {p : Part} {end : ℕ} → Listed img u p end → Comes img u (From.Base p) (list_at img u p)
whole h = (refl, rw h.ends h)

base-entries : (img : List ℕ) (k : NodeKind) (end : ℕ) → EntriesListed img k end → Comes img U.Inode (entries_from k) (entries_in (body_meant img k))
base-entries img (K.Directory parent p) end h = whole h
base-entries img (K.File size) end h = refl
base-entries img (K.Symlink t) end h = refl
base-entries img K.Fifo end h = refl
base-entries img (K.CharDevice rdev) end h = refl
base-entries img (K.BlockDevice rdev) end h = refl
base-entries img K.Socket end h = refl

-- a base node, with its lists as they stand
abbrev pub based : Node → Folded
based n = record { node = n; attributes = From.Base n.meta.xattrs; entries = entries_from n.kind }

pub base-folds : (o : Option Node) {r : Option Folded} → r ≡ map_if based o → FoldsBase o r
base-folds o e = rw e (record { makes = go o })
  where
    go : (o : Option Node) (img : List ℕ) (p : Option ℕ) → BaseIs img p o → ShowsIf img (map_if based o) (unplaced_node (node_at img p))
    go None img None b = tt
    go None img (Some p) b = absurd b
    go (Some n) img None b = absurd b
    go (Some n) img (Some p) b = rw b.reads.reads.same (record {
      attributes = list_at img U.Value n.meta.xattrs;
      entries = entries_in (body_meant img n.kind);
      is = rw (body-shows img n.kind);
      attributes_come = whole b.reads.attributes;
      entries_come = base-entries img n.kind b.end b.reads.entries;
    })

-- the node of the lowest i records
pub record Rising (s : Stack) (o : Option Folded) (i : ℕ) : Type 0 where
  pub low : i ≤ s.places.count
  pub shows : ShowsIf s.img.now o (folded usual (unplaced (records_under s.img.now s.places i)) (unplaced_node (node_in s.img.now s.places)))

module _ {s : Stack} {o : Option Folded} where
  pub rising-base : {b : Option Node} → BaseIn s b → FoldsBase b o → Rising s o 0
  unfolding records_on folded
  rising-base b f = record { low = omega arith; shows = f.makes s.img.now s.places.base b }

  pub rising-more : {i : ℕ} → Rising s o i → i < s.places.count → {e : EntryDelta} → RecordIn s i e → {r : Option Folded} → FoldsRecord e o r
      → Rising s r (i + 1)
  unfolding folded
  rising-more {i} w l g f = record { low = omega arith; shows = rw (records-more s.stacked i l g) (f.makes s.img.now _ w.shows) }

-- ---- the bytes of its lists

origin-bytes : (img : List ℕ) (u : Under) (o : Origin) (l made : Map by_bytes (UnderName u)) → Comes img u o l → (o ≡ From.Merged → made ≡ l)
    → origin_bytes img o ((by_name u).write made) ≡ (by_name u).write l
unfolding empty
origin-bytes img u (From.Base p) l made h m = list_written u h.1 ∙ ap (by_name u).write h.0
origin-bytes img u From.Nothing l made h m = rw h (sym (append-nil (number_bytes 0)))
origin-bytes img u From.Merged l made h m = ap (by_name u).write (m refl)

with_entries : (img : List ℕ) (k : NodeKind) (es : Entries) → kind_of (body_with img k es) ≡ directory → entries_in (body_with img k es) ≡ es
with_entries img (K.Directory parent p) es d = refl
with_entries img (K.File size) es d = absurd (let z : ◌≡◌ {A = ℕ} 0 1 = cc in omega arith)
with_entries img (K.Symlink t) es d = absurd (let z : ◌≡◌ {A = ℕ} 0 1 = cc in omega arith)
with_entries img K.Fifo es d = absurd (let z : ◌≡◌ {A = ℕ} 0 1 = cc in omega arith)
with_entries img (K.CharDevice rdev) es d = absurd (let z : ◌≡◌ {A = ℕ} 0 1 = cc in omega arith)
with_entries img (K.BlockDevice rdev) es d = absurd (let z : ◌≡◌ {A = ℕ} 0 1 = cc in omega arith)
with_entries img K.Socket es d = absurd (let z : ◌≡◌ {A = ℕ} 0 1 = cc in omega arith)

module _ (s : Stack) {f : Folded} {m : M.Node} (e : folded_in s ≡ Some m) (h : Shows s.img.now f m) where
  attribute-bytes : (t : FileType) → ((x : List ℕ) → kind_meant t ≡ kind_of (body_meant x f.node.kind))
      → origin_bytes s.img.now f.attributes (attributes.write (attributes_of s t)) ≡ attributes.write h.attributes
  attribute-bytes t k =
      origin-bytes s.img.now U.Value f.attributes h.attributes (attributes_of s t) h.attributes_come (λ o.
      attributes-fold t (records_in s.img.now s.places) (node_in s.img.now s.places) m e (k s.img.now ∙ shows-kind h)
      ∙ ap (λ (x : M.Node). x.meta.attributes) (sym h.is))

  entry-bytes : kind_of (body_with s.img.now f.node.kind h.entries) ≡ directory
      → origin_bytes s.img.now f.entries (entries.write (entries_of s)) ≡ entries.write h.entries
  entry-bytes d =
      origin-bytes s.img.now U.Inode f.entries h.entries (entries_of s) h.entries_come (λ o.
      entries-fold None (records_in s.img.now s.places) (node_in s.img.now s.places) m e (ap (λ (x : M.Node). kind_of x.body) (sym h.is) ∙ d)
      ∙ ap (λ (x : M.Node). entries_in x.body) (sym h.is) ∙ with_entries s.img.now f.node.kind h.entries d)

pub merged-folds : {s : Stack} {f : Folded} {old : List ℕ} {at r : ℕ} {new : List ℕ} → FoldsTo s f → Merged s f old at r new
    → Put old at (bytes_if (folded_in s)) r new
merged-folds {s} {f} {old} {at} {r} {new} g w = go (folded_in s) refl g
  where
    go : (o : Option M.Node) → folded_in s ≡ o → ShowsIf s.img.now (Some f) o → Put old at (bytes_if o) r new
    go None e h = absurd h
    go (Some m) e h = rw h.is at (w.puts h.attributes h.entries (attribute-bytes s e h w.type w.same) (entry-bytes s e h))

-- ---- as it is written

node-with-bytes : (img : List ℕ) (n : Node) (vs : Attributes) (es : Entries)
    → number_bytes (kind_number (kind_of (body_meant img n.kind))) ++ (meta_bytes n.meta ++ (attributes.write vs ++ body_written img n.kind es))
    ≡ node.write (node_with img n vs es)
unfolding node kind
node-with-bytes img n vs es = rw (meta-with-bytes n.meta vs, kind-with img n.kind es) (simp append_assoc)

pub merged-put : (s : Stack) (f : Folded) (t : FileType) → ((x : List ℕ) → kind_meant t ≡ kind_of (body_meant x f.node.kind)) → {k : ℕ}
    → k ≡ kind_number (kind_meant t)
    → {b₀ b₁ b₂ b₃ b₄ : List ℕ} {at q₁ q₂ q₃ r : ℕ} → Put b₀ at (number_bytes k) q₁ b₁ → Put b₁ q₁ (meta_bytes f.node.meta) q₂ b₂
    → Put b₂ q₂ (origin_bytes s.img.now f.attributes (attributes.write (attributes_of s t))) q₃ b₃ → PutsBody s f.node.kind f.entries b₃ q₃ r b₄
    → Merged s f b₀ at r b₄
merged-put s f t e g a b c d = record {
  type = t;
  same = e;
  puts =
      λ vs es u v. rw (← (node-with-bytes s.img.now f.node vs es))
      (put-append (rw (g, e s.img.now) at a) (put-append b (put-append (rw u at c) (d.puts es v))));
}

-- a directory
pub body-directory : {s : Stack} {k : NodeKind} {parent : ℕ} {p : Part} {o : Origin} {b₀ b₁ b₂ : List ℕ} {at q r : ℕ} → k ≡ K.Directory parent p
    → Put b₀ at (number_bytes parent) q b₁
    → Put b₁ q (origin_bytes s.img.now o (entries.write (entries_of s))) r b₂ → PutsBody s k o b₀ at r b₂
body-directory e a b = record { puts = λ es h. rw e (put-append a (rw (h (rw e)) at b)) }

-- all but a directory have no entries
body-other : (img : List ℕ) (es : Entries) (k : NodeKind) → ((parent : ℕ) (p : Part) → k ≡ K.Directory parent p → ⊥) → body_bytes img k ≡ body_written img k es
body-other img es (K.Directory parent p) h = absurd (h parent p refl)
body-other img es (K.File size) h = refl
body-other img es (K.Symlink t) h = refl
body-other img es K.Fifo h = refl
body-other img es (K.CharDevice rdev) h = refl
body-other img es (K.BlockDevice rdev) h = refl
body-other img es K.Socket h = refl

pub body-plain : {s : Stack} (k : NodeKind) {o : Origin} → ((parent : ℕ) (p : Part) → k ≡ K.Directory parent p → ⊥) → {b₀ b₁ : List ℕ} {at r : ℕ}
    → Put b₀ at (body_bytes s.img.now k) r b₁ → PutsBody s k o b₀ at r b₁
body-plain {s} k n a = record { puts = λ es h. rw (body-other s.img.now es k n) at a }
