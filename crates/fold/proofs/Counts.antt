-- A list whose rows are written after one byte for their count, and again where the count takes more.
-- Assumes nothing.
use mathlib.Core.Path.{◌≡◌, refl, sym, ◌∙◌}
use mathlib.Core.Logic.{⊎_elim}
use mathlib.Core.List.{List, [], ◌∷◌, ◌++◌}
use Prim.Native.Nat.{ℕ, zero, suc, ◌+◌, ◌≤◌, ◌<◌, min}
use native.Mathlib.Omega.{arith}
use lib.ListN.{length, set, length-append}
use lib.Seq.{sets, set-set}
use Rattle.wire.specs.Number.{edge, number_bytes, number_small, number-one, lt-or-ge}
use Rattle.wire.specs.Put.{Put}
use Rattle.wire.proofs.Puts.{sets-out, put-append}

-- ---- bytes stored over and before others

-- two stores at different places
set-swap : (l : List ℕ) (i j a b : ℕ) → i < j → set (set l j b) i a ≡ set (set l i a) j b
set-swap [] i j a b h = refl
set-swap (x ∷ l) zero zero a b h = absurd (omega arith)
set-swap (x ∷ l) zero (suc j) a b h = refl
set-swap (x ∷ l) (suc i) zero a b h = absurd (omega arith)
set-swap (x ∷ l) (suc i) (suc j) a b h = rw (set-swap l i j a b (omega arith))

-- a byte before those that were stored
set_before : (ys l : List ℕ) (i j a : ℕ) → i < j → set (sets l j ys) i a ≡ sets (set l i a) j ys
set_before [] l i j a h = refl
set_before (y ∷ ys) l i j a h = set_before ys (set l j y) i (suc j) a (omega arith) ∙ rw (set-swap l i j a y h)

-- bytes that cover one that was stored, and more
covers_one : (xs l : List ℕ) (i j b : ℕ) → i ≤ j → j < i + length xs → sets (set l j b) i xs ≡ sets l i xs
covers_one [] l i j b h k = absurd (omega arith)
covers_one (x ∷ xs) l i j b h k =
    ⊎_elim
    (λ (e : i < j). rw (set-swap l i j x b e) (covers_one xs (set l i x) (suc i) j b (omega arith) (omega arith)))
    (λ (e : j ≤ i). let z : j ≡ i = omega arith in rw (z, set-set))
    (lt-or-ge i j)

covers : (ys xs l : List ℕ) (i j : ℕ) → i ≤ j → j + length ys ≤ i + length xs → sets (sets l j ys) i xs ≡ sets l i xs
covers [] xs l i j h k = refl
covers (y ∷ ys) xs l i j h k = covers ys xs (set l j y) i (suc j) (omega arith) (omega arith) ∙ covers_one xs l i j y h (omega arith)

-- nothing is stored in an empty buffer
pub measured : {l : List ℕ} {at r : ℕ} {bs : List ℕ} → length l ≡ 0 → r ≡ min (at + length bs) edge → Put l at bs r l
measured {l} {at} {r} {bs} h e = record { to = e; is = sym (sets-out bs l at (omega arith)); short = omega arith }

-- ---- rows after one byte, and their count before them

module _ (k : ℕ) {l m n : List ℕ} {at start end first : ℕ} {ys : List ℕ} (s : start ≡ min (at + 1) edge) (p : Put l start ys end m)
    (q : Put m at (number_bytes k) first n) where
  rows_are : m ≡ sets l (suc at) ys
  rows_are =
      ⊎_elim
      (λ (h : at < edge). let z : start ≡ suc at = omega arith in rw (← z) p.is)
      (λ (h : edge ≤ at). let short = p.short in p.is ∙ sets-out ys l start (omega arith) ∙ sym (sets-out ys l (suc at) (omega arith)))
      (lt-or-ge at edge)

  pub count_small : k < 128 → Put l at (number_bytes k ++ ys) end n
  count_small h =
      let one = number_small k h in
      record {
        to = rw one (omega (arith, p.to));
        is = rw one (rw (one, rows_are) at q.is ∙ set_before ys l at (suc at) k (omega arith));
        short = p.short;
      }

  pub count-wide : {r : ℕ} {o : List ℕ} → Put n first ys r o → Put l at (number_bytes k ++ ys) r o
  count-wide w =
      let both = put-append q w in
      record {
        to = both.to;
        is = both.is ∙ rw rows_are
            (covers ys (number_bytes k ++ ys) l at (suc at) (omega arith) (omega (arith, length-append (number_bytes k) ys, number-one k)));
        short = p.short;
      }
