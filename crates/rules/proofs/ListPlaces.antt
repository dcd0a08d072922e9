-- Where the lists of a node and of a delta stand in the image that they are read in.
use Rattle.std.specs.Prelude.{Option, Some}
use mathlib.Core.Path.{◌≡◌, sym, ap, ◌∙◌}
use mathlib.Core.List.{List, ◌++◌, append_assoc}
use Prim.Native.Nat.{ℕ, ◌+◌, ◌-◌, ◌≤◌}
use native.Mathlib.Omega.{arith}
use lib.ListN.{length, drop, length-append, length-drop}
use lib.Seq.{drop-drop, drop-append_seam}
use Rattle.wire.specs.Parse.{got}
use Rattle.wire.specs.Number.{number_bytes}
use Rattle.wire.specs.Codec.{Codec, OneForm}
use Rattle.wire.specs.Combinators.{opt_write}
use Rattle.std.specs.Prelude.{Ok}
use Rattle.wire.specs.Reading.{Reads}
use Rattle.image.proofs.Numbered.{kind-length, code-length}
use Rattle.image.specs.Meaning.{Entries, Names, Meta, Node, Changes, Fields, Delta, directory, delta, kind_of, changed_kind}
use Rattle.image.specs.Masks.{maybe}
use Rattle.image.specs.FieldLayout.{inode, word, moment, entries, attributes}
use Rattle.image.specs.KindLayout.{kind, code}
use Rattle.image.specs.NodeLayout.{meta, body_part, body_part_of, node}
use Rattle.image.specs.Places.{Ends}
use Rattle.image.specs.RecordLayout.{changes, names, field_parts, flags, fields, change_part, change_part_of, layer_record}
use Rattle.rules.specs.Starts.{attributes_at, entries_at, changes_at, added_at}
use Rattle.image.proofs.OneForm.{node-one, layer_record-one}

module _ (img : List ℕ) where
  -- what follows bytes that stand at a place
  pub on : (p : ℕ) (w t : List ℕ) → drop p img ≡ w ++ t → drop (p + length w) img ≡ t
  on p w t e = sym (drop-drop (length w) p img) ∙ ap (drop (length w)) e ∙ drop-append_seam w t

  -- the place after what was read is as far on as what is written is long
  pub read-place : {A : Type 0} (c : Codec A) → OneForm c → (p q : ℕ) {a : A} → p ≤ length img → Reads img c.read p (Ok (a, q)) → q ≡ p + length (c.write a)
  read-place c one p q {a} h r =
      let f = (one.forth (drop p img) a (drop q img) r.same).0 in
      let l : length (drop p img) ≡ length (c.write a) + length (drop q img) = ap length f ∙ length-append (c.write a) (drop q img) in
      omega (arith, length-drop p img, length-drop q img, r.within)

  pub ends-place : {A : Type 0} (c : Codec A) → OneForm c → (p q : ℕ) {a : A} {r : List ℕ} → p ≤ length img → Ends img c.read p (Ok q) → c.read (drop p img) ≡ got a r
      → q ≡ p + length (c.write a)
  ends-place c one p q {a} {r} h w e =
      let z : r ≡ drop q img = let d = rw e at w.same in cc in
      read-place c one p q h (record { same = e ∙ ap (got a) z; within = w.within })

-- ---- a node and a delta

-- bytes that end with w
abbrev EndsWith : List ℕ → List ℕ → Type 0
EndsWith w s = (front : List ℕ) × (s ≡ front ++ w)

-- attributes are the last of a node's meta, and changes of them the last of a delta's fields
meta-end : (m : Meta) → EndsWith (attributes.write m.attributes) (meta.write m)
unfolding meta
meta-end m = (
  word.write m.perm ++ word.write m.links ++ word.write m.owner ++ word.write m.group ++ moment.write m.atime ++ moment.write m.mtime ++ moment.write m.ctime,
  simp append_assoc,
)

fields-end : (f : Fields) (cs : Changes) → f.attributes ≡ Some cs → EndsWith (changes.write cs) (fields.write f)
unfolding fields
fields-end f cs e = (
  number_bytes (flags.mask (field_parts f)) ++ opt_write word f.mode ++ opt_write word f.owner ++ opt_write word f.group ++ opt_write word f.links
      ++ opt_write moment f.atime ++ opt_write moment f.mtime ++ opt_write moment f.ctime ++ opt_write moment f.created,
  simp (e, append_assoc),
)

module _ (img : List ℕ) (p : ℕ) where
  meta-at : (n : Node) (r : List ℕ) → node.read (drop p img) ≡ got n r
      → drop (p + 1) img ≡ meta.write n.meta ++ ((body_part (kind_of n.body)).write (body_part_of n.body) ++ r)
  unfolding node
  meta-at n r e =
      let k = kind.write (kind_of n.body) in
      let t = meta.write n.meta ++ ((body_part (kind_of n.body)).write (body_part_of n.body) ++ r) in
      let d : drop p img ≡ k ++ t = simp append_assoc at (node-one.forth (drop p img) n r e).0 in
      rw (kind-length (kind_of n.body)) at (on img p k t d)

  fields_at : (d : Delta) (r : List ℕ) → layer_record.read (drop p img) ≡ got (delta d) r
      → drop (p + 1) img ≡ fields.write d.fields ++ ((change_part (changed_kind d.change)).write (change_part_of d.change) ++ r)
  unfolding layer_record
  fields_at d r e =
      let k = code.write (Some (changed_kind d.change)) in
      let t = fields.write d.fields ++ ((change_part (changed_kind d.change)).write (change_part_of d.change) ++ r) in
      let g : drop p img ≡ k ++ t = simp append_assoc at (layer_record-one.forth (drop p img) (delta d) r e).0 in
      rw (code-length (Some (changed_kind d.change))) at (on img p k t g)

  -- what ends at a place, less its own length
  ends_at : {w s : List ℕ} (q : ℕ) (t : List ℕ) → EndsWith w s → drop q img ≡ s ++ t → drop (q + length s - length w) img ≡ w ++ t
  ends_at {w} {s} q t h e =
      let d : drop q img ≡ h.0 ++ (w ++ t) = e ∙ ap (λ (u : List ℕ). u ++ t) h.1 ∙ append_assoc h.0 w t in
      let l : length s ≡ length h.0 + length w = ap length h.1 ∙ length-append h.0 w in
      let z : q + length h.0 ≡ q + length s - length w = omega arith in
      rw z at (on img q h.0 (w ++ t) d)

  pub attributes-at : (n : Node) (r : List ℕ) → node.read (drop p img) ≡ got n r
      → (t : List ℕ) × (drop (attributes_at p n.meta) img ≡ attributes.write n.meta.attributes ++ t)
  attributes-at n r e = let t = (body_part (kind_of n.body)).write (body_part_of n.body) ++ r in
      (t, ends_at (p + 1) t (meta-end n.meta) (meta-at n r e))

  pub changes-at : (d : Delta) (cs : Changes) (r : List ℕ) → layer_record.read (drop p img) ≡ got (delta d) r → d.fields.attributes ≡ Some cs
      → (t : List ℕ) × (drop (changes_at p d.fields cs) img ≡ changes.write cs ++ t)
  changes-at d cs r e h = let t = (change_part (changed_kind d.change)).write (change_part_of d.change) ++ r in
      (t, ends_at (p + 1) t (fields-end d.fields cs h) (fields_at d r e))

  pub entries-at : (m : Meta) (parent : ℕ) (es : Entries) (r : List ℕ) → node.read (drop p img) ≡ got (record { meta = m; body = directory parent es }) r
      → drop (entries_at p m parent) img ≡ entries.write es ++ r
  entries-at m parent es r e =
      let d = meta-at (record { meta = m; body = directory parent es }) r e in
      let q = p + 1 + length (meta.write m) in
      let g = on img (p + 1) (meta.write m) _ d ∙ append_assoc (inode.write parent) (entries.write es) r in
      on img q (inode.write parent) (entries.write es ++ r) g

  pub added-at : (f : Fields) (parent : Option ℕ) (added : Entries) (removed : Names) (r : List ℕ)
      → layer_record.read (drop p img) ≡ got (delta (record { fields = f; change = directory parent added removed })) r
      → drop (added_at p f parent) img ≡ entries.write added ++ (names.write removed ++ r)
  added-at f parent added removed r e =
      let d = fields_at (record { fields = f; change = directory parent added removed }) r e in
      let q = p + 1 + length (fields.write f) in
      let t = entries.write added ++ (names.write removed ++ r) in
      let g =
      on img (p + 1) (fields.write f) _ d ∙ append_assoc ((maybe inode).write parent) (entries.write added ++ names.write removed) r
      ∙ ap (λ (u : List ℕ). (maybe inode).write parent ++ u) (append_assoc (entries.write added) (names.write removed) r) in
      on img q ((maybe inode).write parent) t g
