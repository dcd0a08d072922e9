-- The list at a place, as a source, has the rows of the map that is read there.
-- Assumes nothing.
use Rattle.std.specs.Prelude.{None, Option, Some}
use mathlib.Core.Path.{◌≡◌, refl, ◌∙◌}
use mathlib.Core.List.{List, [], ◌∷◌, ◌++◌, map, append_assoc}
use Prim.Native.Nat.{ℕ, ◌+◌}
use lib.ListN.{length, drop}
use Rattle.wire.specs.Parse.{got}
use Rattle.wire.specs.Combinators.{◌then◌}
use Rattle.wire.specs.Number.{number_bytes, number-back}
use Rattle.wire.specs.Orders.{by_bytes}
use Rattle.wire.specs.Maps.{Map}
use Rattle.wire.specs.Lists.{Every, FitsRow, chain_write, row, onto, last_count}
use Rattle.image.specs.Meaning.{Text}
use Rattle.image.specs.FieldLayout.{name}
use Rattle.image.specs.Under.{UnderName, under}
use Rattle.image.specs.declared.name.Under.{Under}
use Rattle.nodes.specs.Listed.{by_name}
use Rattle.rules.specs.Starts.{start_rows, starts}
use Rattle.rules.proofs.MapValues.{map_row, map_values}
use Rattle.rules.proofs.ListPlaces.{on}
use Rattle.merge.specs.Pile.{Ascend, rows_of, itself}
use Rattle.merge.specs.Sources.{Given, Decided, decided, rows_from, list_rows}
use Rattle.nodes.proofs.OneForm.{by_name-one}

abbrev pub Deciding : Type 0
Deciding = Map by_bytes (Option (ℕ × Given))

abbrev pub pile_rows : List Deciding → List (List Decided)
pile_rows cs = rows_of by_bytes (itself by_bytes) cs

pub pile-ascends : (cs : List Deciding) → Ascend by_bytes (pile_rows cs)
unfolding rows_of
pile-ascends [] = tt
pile-ascends (c ∷ cs) = (c.rising, pile-ascends cs)

pub rows_append : (xs ys : List Deciding) → pile_rows (xs ++ ys) ≡ pile_rows xs ++ pile_rows ys
unfolding rows_of
rows_append [] ys = refl
rows_append (x ∷ xs) ys = rw (rows_append xs ys)

-- a list of the image as a source
abbrev pub source_of : (u : Under) → ℕ → Map by_bytes (UnderName u) → Deciding
source_of u p m = map_values by_bytes (decided u) (starts (under u) p m)

module _ (img : List ℕ) (u : Under) where
  abbrev rows_written : Option Text → List (Text × UnderName u) → List ℕ
  rows_written = chain_write (row by_bytes name (under u)) (onto by_bytes name (under u))

  rows_are : (prev : Option Text) (q : ℕ) (l : List (Text × UnderName u)) (t : List ℕ) → Every (FitsRow by_bytes name (under u)) l
      → drop q img ≡ rows_written prev l ++ t
      → rows_from img u (length l) q ≡ map (map_row by_bytes (decided u)) (start_rows (under u) q l)
  unfolding rows_from start_rows
  rows_are prev q [] t f d = refl
  rows_are prev q (e ∷ l) t f d =
      let w = name.write e.0 ++ (under u).write e.1 in
      let r = rows_written (Some e.0) l ++ t in
      let whole : drop q img ≡ w ++ r = d ∙ append_assoc w (rows_written (Some e.0) l) t in
      rw (whole, (name then under u).back e r f.0, rows_are (Some e.0) (q + length w) l t f.1 (on img q w r whole))

  pub list-are : (p : ℕ) (m : Map by_bytes (UnderName u)) (r : List ℕ) → (by_name u).read (drop p img) ≡ got m r → list_rows img u p ≡ (source_of u p m).rows
  unfolding starts map_values
  list-are p m r e =
      let f = (by_name-one u).forth (drop p img) m r e in
      let n = number_bytes (length m.rows) in
      let t = rows_written None m.rows ++ r in
      let d : drop p img ≡ n ++ t = f.0 ∙ append_assoc n (rows_written None m.rows) r in
      rw (d, number-back last_count refl (length m.rows) t f.1.0) (rows_are None (p + length n) m.rows r f.1.1 (on img p n t d))
