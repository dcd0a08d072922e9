-- How many names sources give at most.
-- Assumes nothing.
use Rattle.std.specs.Prelude.{None, Option, Some}
use mathlib.Core.List.{List, [], ◌∷◌, ◌++◌}
use Prim.Native.Nat.{ℕ, zero, suc, ◌+◌, ◌*◌, ◌≤◌}
use native.Mathlib.Omega.{arith}
use lib.ListN.{length, drop, length-take, length-map}
use Rattle.std.specs.declared.cmp.Ordering.{Ordering}
use Rattle.std.specs.declared.cmp.Ordering.TheVariants.{Less, Equal, Greater}
use Rattle.wire.specs.Order.{Order}
use Rattle.wire.specs.Orders.{by_bytes}
use Rattle.wire.specs.Rows.{choose, place, insert, remove, set, lookup}
use Rattle.wire.specs.Parse.{Parsed, fault, got}
use Rattle.wire.specs.Combinators.{◌then◌}
use Rattle.wire.specs.Number.{edge, number_bytes}
use Rattle.wire.specs.Lists.{Every, last_count}
use Rattle.image.specs.Meaning.{Text}
use Rattle.image.specs.FieldLayout.{name}
use Rattle.image.specs.Under.{UnderName, under}
use Rattle.image.specs.declared.name.Under.{Under}
use Rattle.merge.specs.Pile.{laid, pile, total, itself}
use Rattle.merge.specs.Sources.{Decided, decided, rows_if, rows_from, source_rows, sources_of, Short}
use Rattle.merge.specs.Merges.{listed, given_in}
use Rattle.merge.specs.declared.sources.Sources.{Sources}

module _ {K : Type 0} (O : Order K) {A : Type 0} where
  insert-few : (k : K) (a : A) (l : List (K × A)) → length (insert O k a l) ≤ 1 + length l
  unfolding insert
  insert-few k a [] = omega arith
  insert-few k a (e ∷ l) = go (O.cmp k e.0) (insert-few k a l)
    where
      go : (d : Ordering) → length (insert O k a l) ≤ 1 + length l → length (place O d (k, a) e l (insert O k a l)) ≤ 1 + length (e ∷ l)
      go Less h = omega arith
      go Equal h = omega arith
      go Greater h = omega arith

  remove-few : (k : K) (l : List (K × A)) → length (remove O k l) ≤ length l
  unfolding remove
  remove-few k [] = omega arith
  remove-few k (e ∷ l) = go (O.cmp k e.0) (remove-few k l)
    where
      go : (d : Ordering) → length (remove O k l) ≤ length l → length (choose d (remove O k l) (e ∷ remove O k l)) ≤ length (e ∷ l)
      go Less h = omega arith
      go Equal h = omega arith
      go Greater h = omega arith

  set-few : (k : K) (o : Option A) (l : List (K × A)) → length (set O k o l) ≤ 1 + length l
  unfolding set
  set-few k None l = omega (arith, remove-few k l)
  set-few k (Some a) l = insert-few k a l

  module _ {C : Type 0} (g : K → C → Option A → Option A) where
    laid-few : (s : List (K × C)) (m : List (K × A)) → length (laid O g s m) ≤ length s + length m
    unfolding laid
    laid-few [] m = omega arith
    laid-few (c ∷ s) m = omega (arith, set-few c.0 (g c.0 c.1 (lookup O c.0 (laid O g s m))) (laid O g s m), laid-few s m)

    pub pile-few : (ss : List (List (K × C))) → length (pile O g ss) ≤ total ss
    unfolding pile total
    pile-few [] = omega arith
    pile-few (s ∷ ss) = omega (arith, laid-few s (pile O g ss), pile-few ss)

module _ (img : List ℕ) (u : Under) where
  pub rows_few : (n p : ℕ) → length (rows_from img u n p) ≤ n
  unfolding rows_from
  rows_few zero p = omega arith
  rows_few (suc n) p = go ((name then under u).read (drop p img)) (rows_few n)
    where
      from : Text × UnderName u → List Decided
      from e = (e.0, decided u (p + length (number_bytes (length e.0)), e.1)) ∷ rows_from img u n (p + length (name.write e.0 ++ (under u).write e.1))

      go : (o : Parsed (Text × UnderName u)) → ((q : ℕ) → length (rows_from img u n q) ≤ n) → length (rows_if o from) ≤ suc n
      go (fault f) h = omega arith
      go (got e r) h = omega (arith, h (p + length (name.write e.0 ++ (under u).write e.1)))

-- where no list has more rows than a count can say
total-few : (ss : List (List Decided)) → Every Short ss → total ss ≤ length ss * last_count
unfolding total
total-few [] h = omega arith
total-few (s ∷ ss) h = let few = h.0 in omega (arith, few, total-few ss h.1)

-- a number holds how many names are given
pub given-few : (all : Sources) → Every Short (sources_of all.img.now (listed all)) → length (given_in all) ≤ edge
given-few all short =
    let few = all.lists.few in
    let n : length (listed all) ≤ 35 = rw length-take (omega arith) in
    let ss = sources_of all.img.now (listed all) in
    omega (arith, pile-few by_bytes (itself by_bytes) ss, total-few ss short, length-map (listed all) (source_rows all.img.now), n)
