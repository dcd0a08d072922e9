-- Digits put into a text from its end.
-- Assumes nothing.
use mathlib.Core.Path.{◌≡◌, refl, sym, ap, ◌∙◌}
use mathlib.Core.Bool.{false, ◌&&◌}
use mathlib.Core.Logic.{◌⊎◌, ⊎_elim}
use borrow.Author.Tests.{ne_eqb}
use mathlib.Core.List.{List, [], ◌∷◌, ◌++◌, append_assoc, append-nil}
use Prim.Native.Nat.{ℕ, zero, suc, ◌+◌, ◌-◌, ◌/◌, ◌%◌, ◌≤◌, ◌<◌}
use native.Mathlib.Omega.{arith}
use lib.Dec.{eqb}
use lib.ListN.{length, take, drop, set, length-set, drop_of_length-le, length-drop}
use lib.Seq.{take_all, drop-cons, get_or-set_same, drop-set-lt}
use Rattle.wire.specs.Put.{Put}
use Rattle.lines.specs.Digits.{glyph, digits}

-- From `start` on the text has the last digits of n; those of `rest` go before them.
pub record Spelled (base n least : ℕ) (text : List ℕ) (start rest left : ℕ) : Type 0 where
  pub is : digits base 22 least n ≡ digits base start left rest ++ drop start text
  pub long : length text ≡ 22
  pub within : start ≤ 22

pub spelled_none : {base n least : ℕ} {text : List ℕ} → length text ≡ 22 → Spelled base n least text 22 n least
spelled_none {base} {n} {least} {text} h = record {
  is = sym (rw (drop_of_length-le text {i = 22} (omega arith)) (append-nil (digits base 22 least n)));
  long = h;
  within = omega arith;
}

drop-set : (l : List ℕ) (k a : ℕ) → k < length l → drop k (set l k a) ≡ a ∷ drop (suc k) l
drop-set l k a h =
    let m : k < length (set l k a) = rw length-set h in
    drop-cons (set l k a) k 0 m ∙ rw (get_or-set_same l k a 0 h, drop-set-lt (suc k) l k a (omega arith))

module _ {base n least : ℕ} {text : List ℕ} where
  pub spelled-more : {start rest left left' : ℕ} → Spelled base n least text start rest left → 0 < start
      → (rest ≡ 0 × (left ≡ 0 → ⊥)) ⊎ (rest ≡ 0 → ⊥) → left' ≡ left - 1
      → Spelled base n least (set text (start - 1) (rest % base + 48)) (start - 1) (rest / base) left'
  unfolding digits
  spelled-more {start} {rest} {left} s h o e = rw e (go start h s)
    where
      t : (eqb rest 0 && eqb left 0) ≡ false
      t = ⊎_elim (λ z. rw (z.0, ne_eqb left 0 z.1)) (λ z. rw (ne_eqb rest 0 z)) o

      go : (k : ℕ) → 0 < k → Spelled base n least text k rest left
          → Spelled base n least (set text (k - 1) (rest % base + 48)) (k - 1) (rest / base) (left - 1)
      go zero h s = absurd (omega arith)
      go (suc k) h s =
          let z : suc k - 1 ≡ k = omega arith in
          let w : k < length text = omega (arith, s.long, s.within) in
          rw z (record {
            is = rw t at s.is ∙ append_assoc (digits base k (left - 1) (rest / base)) (glyph (rest % base) ∷ []) (drop (suc k) text)
                ∙ ap (λ (l : List ℕ). digits base k (left - 1) (rest / base) ++ l) (sym (drop-set text k (rest % base + 48) w));
            long = rw length-set s.long;
            within = omega (arith, s.within);
          })

  -- no digit is left
  spelled-done : {start left : ℕ} → Spelled base n least text start 0 left → left ≡ 0 → take (22 - start) (drop start text) ≡ digits base 22 least n
  unfolding digits
  spelled-done {start} {left} s z =
      let long = s.long in
      take_all (22 - start) (drop start text) (omega (arith, length-drop start text)) ∙ sym (s.is ∙ go start)
    where
      go : (k : ℕ) → digits base k left 0 ++ drop start text ≡ drop start text
      go zero = refl
      go (suc k) = rw z

  -- the same, where `start` is the place after the one at hand
  pub spelled-next : {start rest left : ℕ} → Spelled base n least text start rest left → 0 < start → rest ≡ 0 → left ≡ 0
      → take (22 - (start - 1 + 1)) (drop (start - 1 + 1) text) ≡ digits base 22 least n
  spelled-next {start} s h e z = let y : start - 1 + 1 ≡ start = omega arith in rw y (spelled-done (rw e at s) z)

  -- or no room
  pub spelled-full : {start rest left : ℕ} → Spelled base n least text start rest left → start ≤ 0 → text ≡ digits base 22 least n
  unfolding digits
  spelled-full {start} {rest} {left} s h =
      let z : start ≡ 0 = omega arith in
      sym (rw z at s.is)

-- what was written, of the same bytes to the same buffer
pub put_same : {l m k bs cs : List ℕ} {at r : ℕ} → m ≡ l → bs ≡ cs → Put m at bs r k → Put l at cs r k
put_same e d p = rw (← e, ← d) p
