-- What `compare_part` answers, by its contract, is a total order by bytes. By steps over both texts: their first bytes decide, or, where these are
-- the same, what follows.
-- Assumes nothing.
use mathlib.Core.Path.{◌≡◌, refl, ap, ◌∙◌}
use mathlib.Core.List.{List, [], ◌∷◌}
use Prim.Native.Nat.{ℕ, zero, suc, ◌≤◌, ◌<◌}
use native.Mathlib.Omega.{arith}
use lib.ListN.{length, take, get_or}
use Rattle.wire.specs.Order.{reversed, cmp-reversed}
use Rattle.wire.specs.Orders.{by_bytes, cmp_n, Says, says, less-N, equal-N, and_then}
use Rattle.wire.specs.Reading.{part}
use Rattle.wire.specs.Compared.{Before, TextSays, TotalByBytes}
use Rattle.std.specs.declared.cmp.Ordering.{Ordering}
use Rattle.std.specs.declared.cmp.Ordering.TheVariants.{Less, Equal, Greater}

before-none : (b : ℕ) (y : List ℕ) → Before [] (b ∷ y)
before-none b y = record { at = 0; in_x = omega arith; in_y = omega arith; same = refl; smaller = λ h. absurd (omega (arith, h)) }

before_here : (a b : ℕ) (x y : List ℕ) → a < b → Before (a ∷ x) (b ∷ y)
before_here a b x y h = record { at = 0; in_x = omega arith; in_y = omega arith; same = refl; smaller = λ l. h }

before_on : (a b : ℕ) (x y : List ℕ) → a ≡ b → Before x y → Before (a ∷ x) (b ∷ y)
before_on a b x y e h = record {
  at = suc h.at;
  in_x = omega arith;
  in_y = omega arith;
  same = cc (e, h.same);
  smaller = λ l. h.smaller (omega (arith, l));
}

text_says : (x y : List ℕ) → TextSays x y (by_bytes.cmp x y)
text_says [] [] = refl
text_says [] (b ∷ y) = before-none b y
text_says (a ∷ x) [] = before-none a x
text_says (a ∷ x) (b ∷ y) = go (cmp_n a b) (says a b) (by_bytes.cmp x y) (text_says x y)
  where
    go : (c : Ordering) → Says a b c → (d : Ordering) → TextSays x y d → TextSays (a ∷ x) (b ∷ y) (and_then c d)
    go Less h d t = before_here a b x y h
    go Greater h d t = before_here b a y x h
    go Equal h Less t = before_on a b x y h t
    go Equal h Equal t = cc
    go Equal h Greater t = before_on b a y x (cc) t

before-less : (x y : List ℕ) → Before x y → by_bytes.cmp x y ≡ Less
before-less x [] h = absurd (omega (arith, h.in_y))
before-less [] (b ∷ y) h = refl
before-less (a ∷ x) (b ∷ y) h = go h.at h.in_x h.in_y h.same h.smaller (before-less x y)
  where
    go : (n : ℕ) → n ≤ length (a ∷ x) → n < length (b ∷ y) → take n (a ∷ x) ≡ take n (b ∷ y) → (n < length (a ∷ x) → get_or (a ∷ x) n 0 < get_or (b ∷ y) n 0)
        → (Before x y → by_bytes.cmp x y ≡ Less) → by_bytes.cmp (a ∷ x) (b ∷ y) ≡ Less
    go zero i j s m ih = rw (less-N a b (m (omega arith)))
    go (suc n) i j s m ih =
        let e : a ≡ b = cc in
        let k : Before x y = record { at = n; in_x = omega arith; in_y = omega arith; same = cc; smaller = λ l. m (omega (arith, l)) } in
        rw (equal-N a b (omega arith) (omega arith)) (ih k)

only : (x y : List ℕ) (o : Ordering) → TextSays x y o → by_bytes.cmp x y ≡ o
only x y Less h = before-less x y h
only x y Equal h = rw h (by_bytes.self y)
only x y Greater h = cmp-reversed by_bytes y x ∙ ap reversed (before-less y x h)

pub parts-ordered : TotalByBytes (λ img start size name. by_bytes.cmp (part img start size) name)
parts-ordered = record {
  says = λ img start size name. text_says (part img start size) name;
  only = λ img start size name. only (part img start size) name;
  trans = λ img start size between from many name. by_bytes.trans (part img start size) (part between from many) name;
}
