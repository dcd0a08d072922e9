-- The digits of a number are worth the number.
-- Assumes nothing.
use Rattle.std.proofs.lemmas.Bool.{and_parts}
use mathlib.Core.Path.{◌≡◌, refl, sym, ◌∙◌}
use mathlib.Core.Bool.{Bool, true, false, ◌&&◌, cond}
use mathlib.Core.List.{List, [], ◌∷◌, ◌++◌}
use Prim.Native.Nat.{ℕ, zero, suc, ◌+◌, ◌-◌, ◌*◌, ◌/◌, ◌%◌, ◌^◌, ◌<◌}
use native.Mathlib.Nat.{div-add-mod', div-lt_iff_lt-mul, pow-zero, pow-suc}
use native.Mathlib.Omega.{arith}
use lib.Dec.{eqb}
use borrow.Author.Tests.{eqb-true}
use Rattle.lines.specs.Digits.{glyph, digits, decimal, octal}

-- what digits are worth in a base, after digits that are worth `sum`
abbrev pub worth_after : ℕ → ℕ → List ℕ → ℕ
worth_after base sum [] = sum
worth_after base sum (d ∷ l) = worth_after base (sum * base + (d - 0x30)) l

abbrev pub worth : ℕ → List ℕ → ℕ
worth base l = worth_after base 0 l

worth-last : (base sum d : ℕ) (l : List ℕ) → worth_after base sum (l ++ (d ∷ [])) ≡ worth_after base sum l * base + (d - 0x30)
worth-last base sum d [] = refl
worth-last base sum d (c ∷ l) = worth-last base (sum * base + (c - 0x30)) d l

-- where there is room for all of them
pub digits-worth : (base most least n : ℕ) → 0 < base → n < base ^ most → worth base (digits base most least n) ≡ n
unfolding digits
digits-worth base zero least n z h = omega (arith, pow-zero base)
digits-worth base (suc most) least n z h =
    go (eqb n 0 && eqb least 0) refl
    (digits-worth base most (least - 1) (n / base) z ((div-lt_iff_lt-mul {k = base} {x = n} {y = base ^ most} z).1 (rw (pow-suc base most) at h)))
  where
    go : (b : Bool) → (eqb n 0 && eqb least 0) ≡ b → worth base (digits base most (least - 1) (n / base)) ≡ n / base
        → worth base (cond b [] (digits base most (least - 1) (n / base) ++ (glyph (n % base) ∷ []))) ≡ n
    go true e ih = sym (eqb-true n 0 (and_parts (eqb n 0) (eqb least 0) e).0)
    go false e ih =
        worth-last base 0 (glyph (n % base)) (digits base most (least - 1) (n / base))
        ∙ rw ih (omega (arith, div-add-mod' n base))

-- so of every number of 64 bits
pub decimal-worth : (n : ℕ) → n < 2 ^ 64 → worth 10 (decimal n) ≡ n
decimal-worth n h = digits-worth 10 22 1 n (omega arith) (omega arith)

pub octal-worth : (n : ℕ) → n < 2 ^ 64 → worth 8 (octal n) ≡ n
octal-worth n h = digits-worth 8 22 4 n (omega arith) (omega arith)
