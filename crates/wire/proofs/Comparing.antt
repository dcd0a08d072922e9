-- The library's order of two texts is theirs: the first byte in which they differ decides.
-- Assumes nothing.
use mathlib.Core.Path.{◌≡◌, refl, sym, ◌∙◌}
use mathlib.Core.Bool.{Bool, true, false, cond}
use mathlib.Core.Logic.{◌≢◌}
use mathlib.Core.List.{List, [], ◌∷◌}
use Prim.Native.Nat.{ℕ, ◌≤◌}
use native.Mathlib.Omega.{arith}
use lib.Dec.{ltb, eqb}
use borrow.Author.Tests.{ltb-true, ltb-false, eqb-true, eqb-false}
use Rattle.std.specs.declared.cmp.Ordering.{Ordering}
use Rattle.std.specs.declared.cmp.Ordering.TheVariants.{Less, Equal, Greater}
use Rattle.std.specs.Ordering.{nat_cmp, ordering_then}
use Rattle.std.specs.Cmp.Lexicographic.{slice_cmp}
use Rattle.wire.specs.Orders.{by_bytes, cmp_n, and_then, less-N, greater-N, equal-N}

same-then : (r s : Ordering) → ordering_then r s ≡ and_then r s
same-then Less s = refl
same-then Equal s = refl
same-then Greater s = refl

same-one : (x y : ℕ) → nat_cmp x y ≡ cmp_n x y
same-one x y = go (ltb x y) refl (eqb x y) refl
  where
    go : (s : Bool) → ltb x y ≡ s → (t : Bool) → eqb x y ≡ t → cond s Less (cond t Equal Greater) ≡ cmp_n x y
    go true p t q = sym (less-N x y (ltb-true x y p))
    go false p true q = let e : x ≡ y = eqb-true x y q in sym (equal-N x y (omega arith) (omega arith))
    go false p false q = let h : y ≤ x = ltb-false x y p in let n : x ≢ y = eqb-false x y q in sym (greater-N x y (omega arith))

pub same-order : (a b : List ℕ) → slice_cmp nat_cmp a b ≡ by_bytes.cmp a b
same-order [] [] = refl
same-order [] (y ∷ b) = refl
same-order (x ∷ a) [] = refl
same-order (x ∷ a) (y ∷ b) = same-then (nat_cmp x y) (slice_cmp nat_cmp a b) ∙ (λ i. and_then (same-one x y i) (same-order a b i))

-- the same, where the second text is written in another way
pub compared : {r : Ordering} (a : List ℕ) {b c : List ℕ} → r ≡ slice_cmp nat_cmp a c → c ≡ b → r ≡ by_bytes.cmp a b
compared a {b} d e = d ∙ rw e (same-order a b)
