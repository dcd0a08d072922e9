-- Where names stand in the image. Document 01: "A listing fills a lent row of entries: start of the name in the image, length, inode."
-- A node or record is placed where its kind or code is, after the inode; where its lists and their names stand follows from how much is
-- written before them.
use mathlib.Core.List.{List, [], ◌∷◌, ◌++◌}
use Rattle.std.specs.Prelude.{ℕ, ◌+◌, ◌-◌, length, Option}
use Rattle.wire.specs.Number.{number_bytes}
use Rattle.wire.specs.Codec.{Codec}
use Rattle.wire.specs.Orders.{by_bytes}
use Rattle.wire.specs.Rows.{Under, Rising}
use Rattle.wire.specs.Maps.{Map}
use Rattle.image.specs.Meaning.{Text, Meta, Fields, Changes}
use Rattle.image.specs.Masks.{maybe}
use Rattle.image.specs.FieldLayout.{inode, name, attributes}
use Rattle.image.specs.NodeLayout.{meta}
use Rattle.image.specs.RecordLayout.{fields, changes}

-- a node or record, and its place in the image
pub record Placed (A : Type 0) : Type 0 where
  pub place : ℕ
  pub held : A

-- ---- the names of a list

-- what stands under each name, with the start of the name
abbrev pub Started : Type 0 → Type 0
Started A = Map by_bytes (ℕ × A)

module _ {A : Type 0} (value : Codec A) where
  -- rows of which the first stands at q: a row is the length of its name, the name, and what stands under it
  unfoldable pub start_rows : ℕ → List (Text × A) → List (Text × (ℕ × A))
  start_rows q [] = []
  start_rows q (e ∷ l) =
      (e.0, (q + length (number_bytes (length e.0)), e.1)) ∷ start_rows (q + length (name.write e.0 ++ value.write e.1)) l

  pub starts-under : (k : Text) (q : ℕ) (l : List (Text × A)) → Under by_bytes k l → Under by_bytes k (start_rows q l)
  unfolding start_rows
  starts-under k q [] u = tt
  starts-under k q (e ∷ l) u = (u.0, starts-under k (q + length (name.write e.0 ++ value.write e.1)) l u.1)

  pub starts-rise : (q : ℕ) (l : List (Text × A)) → Rising by_bytes l → Rising by_bytes (start_rows q l)
  unfolding start_rows
  starts-rise q [] r = tt
  starts-rise q (e ∷ l) r =
      let next = q + length (name.write e.0 ++ value.write e.1) in
      (starts-under e.0 next l r.0, starts-rise next l r.1)

  -- a list at p, its count first
  unfoldable pub starts : ℕ → Map by_bytes A → Started A
  starts p m =
      let q = p + length (number_bytes (length m.rows)) in
      record { rows = start_rows q m.rows; rising = starts-rise q m.rows m.rising }

-- ---- the lists of a node at p: "kind; perm, links, owner, group; atime, mtime, ctime; attributes; then parent and entries"; a kind is a byte

abbrev pub attributes_at : ℕ → Meta → ℕ
attributes_at p m = p + 1 + length (meta.write m) - length (attributes.write m.attributes)

abbrev pub entries_at : ℕ → Meta → ℕ → ℕ
entries_at p m parent = p + 1 + length (meta.write m) + length (inode.write parent)

-- ---- the lists of a delta at p: "code; a mask; the fields present, attribute changes. Then directory: 0 or 1 and parent, added, removed"

abbrev pub changes_at : ℕ → Fields → Changes → ℕ
changes_at p f cs = p + 1 + length (fields.write f) - length (changes.write cs)

abbrev pub added_at : ℕ → Fields → Option ℕ → ℕ
added_at p f parent = p + 1 + length (fields.write f) + length ((maybe inode).write parent)
