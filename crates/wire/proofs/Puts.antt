-- The laws of writers: one byte, one writer after another, a whole.
-- Assumes nothing.
use mathlib.Core.Path.{◌≡◌, refl, sym, ap, ◌∙◌}
use mathlib.Core.Logic.{⊎_elim}
use mathlib.Core.List.{List, [], ◌∷◌, ◌++◌}
use Prim.Native.Nat.{ℕ, suc, ◌+◌, ◌-◌, ◌/◌, ◌%◌, ◌≤◌, ◌<◌, min}
use native.Mathlib.Nat.{add-zero, suc-add, add-suc}
use native.Mathlib.Numerals.{add-one}
use native.Mathlib.Omega.{arith}
use lib.ListN.{length, take, drop, get_or, set, length-append, length-set, take-append-drop}
use lib.Seq.{sets, sets-eq, length-sets, length-take-le, set_out, take_all, take-suc}
use Rattle.wire.specs.Put.{Put}
use Rattle.wire.specs.Number.{edge, number_bytes, lt-or-ge, number_small, number-big}

sets-append : (xs ys l : List ℕ) (at : ℕ) → sets (sets l at xs) (at + length xs) ys ≡ sets l at (xs ++ ys)
sets-append [] ys l at = rw add-zero
sets-append (x ∷ xs) ys l at = rw (add-suc, ← suc-add) (sets-append xs ys (set l at x) (suc at))

pub sets-out : (xs l : List ℕ) (at : ℕ) → length l ≤ at → sets l at xs ≡ l
sets-out [] l at h = refl
sets-out (x ∷ xs) l at h = rw (set_out l at x h) (sets-out xs l (suc at) (omega arith))

-- a place at the edge, or past it, is past the end
sets-edge : (xs l : List ℕ) (at : ℕ) → length l < edge → sets l (min at edge) xs ≡ sets l at xs
sets-edge xs l at h =
    ⊎_elim
    (λ k. let e : min at edge ≡ at = omega arith in rw e)
    (λ k. sets-out xs l (min at edge) (omega arith) ∙ sym (sets-out xs l at (omega arith)))
    (lt-or-ge at edge)

pub put-append : {l m k : List ℕ} {at q r : ℕ} {xs ys : List ℕ} → Put l at xs q m → Put m q ys r k → Put l at (xs ++ ys) r k
put-append {l} {m} {k} {at} {q} {r} {xs} {ys} p q' = record {
  to = omega (arith, p.to, q'.to, length-append xs ys);
  is = q'.is ∙ rw (p.to, sets-edge ys m (at + length xs) q'.short) (rw p.is (sets-append xs ys l at));
  short = p.short;
}

-- short of the edge the place is what it should be; and where they fit, the buffer has them there and is otherwise as it was
pub put-exact : {l m : List ℕ} {at r : ℕ} {bs : List ℕ} → Put l at bs r m → r < edge → r ≡ at + length bs
put-exact p h = omega (arith, p.to)

pub put_whole : {l m : List ℕ} {at r : ℕ} {bs : List ℕ} → Put l at bs r m → r ≤ length l → m ≡ take at l ++ bs ++ drop r l
put_whole {l} {m} {at} {r} {bs} p h =
    let e : r ≡ at + length bs = put-exact p (omega (arith, p.short)) in
    p.is ∙ rw e (sets-eq bs l at (omega arith))

pub put-length : {l m : List ℕ} {at r : ℕ} {bs : List ℕ} → Put l at bs r m → length m ≡ length l
put-length {l} {m} {at} {r} {bs} p = ap length p.is ∙ length-sets l at bs

-- ---- the loop that copies xs into l from `at` on, when i of them are copied
pub record Copied (l : List ℕ) (at : ℕ) (xs m : List ℕ) (i : ℕ) : Type 0 where
  pub is : m ≡ sets l at (take i xs)
  pub within : i ≤ length xs

pub copied_none : {l : List ℕ} {at : ℕ} {xs : List ℕ} → Copied l at xs l 0
copied_none = record { is = refl; within = omega arith }

module _ {l : List ℕ} {at : ℕ} {xs m : List ℕ} {i : ℕ} (c : Copied l at xs m i) where
  pub copied_more : i < length xs → Copied l at xs (set m (at + i) (get_or xs i 0)) (i + 1)
  copied_more h = record {
    is =
        rw (add-one i, take-suc xs i 0 h, ← (sets-append (take i xs) (get_or xs i 0 ∷ []) l at), length-take-le i xs c.within)
        (ap (λ (k : List ℕ). set k (at + i) (get_or xs i 0)) c.is);
    within = omega arith;
  }

  -- what is not copied is outside
  sets-rest : min (length xs) (length l - at) ≤ i → sets l at (take i xs) ≡ sets l at xs
  sets-rest h = ⊎_elim outside (λ k. ap (sets l at) (take_all i xs k)) (lt-or-ge i (length xs))
    where
      outside : i < length xs → sets l at (take i xs) ≡ sets l at xs
      outside k =
          let past : length (sets l at (take i xs)) ≤ at + length (take i xs) =
          omega (arith, length-sets l at (take i xs), length-take-le i xs c.within) in
          sym (sets-out (drop i xs) (sets l at (take i xs)) (at + length (take i xs)) past)
          ∙ sets-append (take i xs) (drop i xs) l at
          ∙ ap (sets l at) (take-append-drop i xs)

  pub copied_all : {count next : ℕ} → count ≡ min (length xs) (length l - at) → count ≤ i → next ≡ min (at + length xs) edge → length l < edge → Put l at xs
      next m
  copied_all e h n short = record { to = n; is = c.is ∙ sets-rest (omega arith); short = short }

-- ---- the loop that writes a number: from i on, ys is left to write into l, and then xs stands from `at` on in what was l₀
pub record Left (l₀ : List ℕ) (at : ℕ) (xs l : List ℕ) (i : ℕ) (ys : List ℕ) : Type 0 where
  pub to : min (at + length xs) edge ≡ min (i + length ys) edge
  pub is : sets l₀ at xs ≡ sets l i ys
  pub short : length l₀ < edge
  pub low : i ≤ edge

module _ {l₀ : List ℕ} {at : ℕ} {xs l : List ℕ} {i : ℕ} where
  left_step : {b j : ℕ} {ys m : List ℕ} → Left l₀ at xs l i (b ∷ ys) → Put l i (b ∷ []) j m → Left l₀ at xs m j ys
  left_step {b} {j} {ys} {m} h p = record {
    to = omega (arith, h.to, p.to);
    is = h.is ∙ sym (rw (p.to, sets-edge ys m (i + 1) (rw (p.is, length-set) p.short)) (rw (p.is, add-one)));
    short = h.short;
    low = omega (arith, p.to);
  }

  left-put : {ys m : List ℕ} {r : ℕ} → Left l₀ at xs l i ys → Put l i ys r m → Put l₀ at xs r m
  left-put h p = record { to = p.to ∙ sym h.to; is = p.is ∙ sym h.is; short = h.short }

  pub left-digit : {n j : ℕ} {m : List ℕ} → 128 ≤ n → Left l₀ at xs l i (number_bytes n) → Put l i ((n % 128 + 128) ∷ []) j m → Left l₀ at xs m j
      (number_bytes (n / 128))
  left-digit {n} h w p = left_step (rw (number-big n h) at w) p

  pub left-last : {n r : ℕ} {m : List ℕ} → n < 128 → Left l₀ at xs l i (number_bytes n) → Put l i (n ∷ []) r m → Put l₀ at xs r m
  left-last {n} h w p = left-put (rw (number_small n h) at w) p
