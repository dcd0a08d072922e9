-- A number read one byte at a time: what each way out of the functions of src/number.rt shows.
-- Assumes nothing.
use mathlib.Core.Path.{◌≡◌, refl, sym, ap, ◌∙◌}
use mathlib.Core.Logic.{⊎_elim}
use mathlib.Core.List.{List}
use Rattle.std.specs.Prelude.{Result, Ok, Err}
use Prim.Native.Nat.{ℕ, zero, suc, ◌+◌, ◌-◌, ◌*◌, ◌^◌, ◌≤◌, ◌<◌}
use native.Mathlib.Nat.{add-mul, mul_assoc, mul_comm, mul-le-mul_right, pow-suc, one-le-pow}
use native.Mathlib.Numerals.{add-one}
use native.Mathlib.Omega.{arith}
use mir.Syntax.{w64}
use mir.Val.{Fits}
use lib.ListN.{length, get_or, drop, drop_of_length-le}
use lib.Seq.{drop-cons}
use borrow.Author.Tests.{lt-ltb, le-ltb, le-leb, lt-leb, ne_eqb}
use Rattle.wire.specs.Parse.{Parsed, fault, got}
use Rattle.wire.specs.Number.{tenth, groups-read, scaled, up_to, number_read, number-rest, lt-or-ge}
use Rattle.wire.specs.Reading.{Reads, Tenth, judged_number, last_group}
use Rattle.wire.specs.declared.fault.Fault.{Fault}
use Rattle.wire.specs.declared.fault.Fault.TheVariants.{Ended, Malformed}

-- ---- the groups at a position, by the byte there

module _ (s : List ℕ) (at : ℕ) where
  groups-end : (k : ℕ) → length s ≤ at → groups-read (drop at s) k ≡ fault Ended
  unfolding groups-read
  groups-end k h = rw (drop_of_length-le s h)

  module _ (h : at < length s) where
    groups-last : (k : ℕ) → get_or s at 0 < 128 → groups-read (drop at s) k ≡ got (get_or s at 0) (drop (at + 1) s)
    unfolding groups-read
    groups-last zero l = rw (add-one, drop-cons s at 0 h) (simp (lt-ltb (get_or s at 0) 128 l))
    groups-last (suc k) l = rw (add-one, drop-cons s at 0 h) (simp (lt-ltb (get_or s at 0) 128 l))

    groups-tenth : 128 ≤ get_or s at 0 → groups-read (drop at s) 0 ≡ fault Malformed
    unfolding groups-read
    groups-tenth l = rw (drop-cons s at 0 h) (simp (le-ltb (get_or s at 0) 128 l))

    groups-more : (k : ℕ) → 128 ≤ get_or s at 0 → get_or s at 0 < 256
        → groups-read (drop at s) (suc k) ≡ scaled 128 (get_or s at 0 - 128) (groups-read (drop (at + 1) s) k)
    unfolding groups-read
    groups-more k l b = rw (add-one, drop-cons s at 0 h) (simp (le-ltb (get_or s at 0) 128 l, lt-ltb (get_or s at 0) 256 b))

-- ---- answers

module _ {s : List ℕ} {p : List ℕ → Parsed ℕ} {at : ℕ} where
  stopped : {f : Fault} → p (drop at s) ≡ fault f → Reads s p at (Err f)
  stopped e = record { same = e; within = tt }

  answer-none : {f : Fault} {r : Result (ℕ × ℕ) Fault} → p (drop at s) ≡ fault f → r ≡ Err f → Reads s p at r
  answer-none e q = rw q (stopped e)

  answer-judged : {r : Result (ℕ × ℕ) Fault} (v most next : ℕ) → p (drop at s) ≡ up_to most (got v (drop next s)) → next ≤ length s → r ≡ judged_number v most
      next → Reads s p at r
  answer-judged {r} v most next e h q =
      ⊎_elim
      (λ l. answer-none {f = Malformed} (e ∙ rw (lt-leb v most l)) (q ∙ rw (lt-ltb most v l)))
      (λ l.
      let d : r ≡ Ok (v, next) = q ∙ rw (le-ltb most v l) in
      rw d (record { same = e ∙ rw (le-leb v most l); within = h }))
      (lt-or-ge most v)

-- ---- the first byte

module _ {s : List ℕ} {at : ℕ} (most : ℕ) where
  pub first-end : length s ≤ at → Reads s (number_read most) at (Err Ended)
  unfolding number_read
  first-end h = stopped (rw (groups-end s at 9 h))

  module _ (h : at < length s) {b : ℕ} (e : b ≡ get_or s at 0) where
    pub first-only : {r : Result (ℕ × ℕ) Fault} → b < 128 → r ≡ judged_number b most (at + 1) → Reads s (number_read most) at r
    unfolding number_read
    first-only l q =
        answer-judged b most (at + 1) (rw (groups-last s at h 9 (rw e at l), e)) (omega arith) q

    pub first-long : {r : Result (ℕ × ℕ) Fault} → 128 ≤ b → b < 256 → Reads s (number-rest 128 (b - 128) most 8) (at + 1) r
        → Reads s (number_read most) at r
    unfolding number_read number-rest
    first-long l k a = record { same = rw (groups-more s at h 8 (rw e at l) (rw e at k), ← e) a.same; within = a.within }

-- ---- the bytes after it

weigh : (v g m sum : ℕ) → (v * 128 + g) * m + sum ≡ v * (m * 128) + (g * m + sum)
weigh v g m sum =
    let e : (v * 128 + g) * m ≡ v * (m * 128) + g * m = add-mul (v * 128) g m ∙ ap (λ (k : ℕ). k + g * m)
    (mul_assoc v 128 m ∙ ap (λ (k : ℕ). v * k) (mul_comm 128 m)) in
    omega (arith, e)

scaled-more : (m sum g : ℕ) (p : Parsed ℕ) → scaled m sum (scaled 128 g p) ≡ scaled (m * 128) (g * m + sum) p
scaled-more m sum g (fault f) = refl
scaled-more m sum g (got v r) =
    ⊎_elim
    (λ z. simp (lt-ltb 0 v z, lt-ltb 0 (v * 128 + g) (omega arith), weigh))
    (λ z. simp (le-ltb 0 v z))
    (lt-or-ge 0 v)

-- The loop has come to i: the groups passed are worth `sum`, the next one weighs `weight`, and `left` more may follow it.
pub record Far (s : List ℕ) (at low most i weight sum : ℕ) : Type 0 where
  pub left : ℕ
  pub place : i + left ≡ at + 8
  pub small : sum < weight
  pub weighs : weight * 128 ^ left ≡ tenth
  pub is : number-rest 128 low most 8 (drop at s) ≡ number-rest weight sum most left (drop i s)

at_least : (v m : ℕ) → 0 < v → m ≤ m * v
at_least v m h = omega (arith, mul-le-mul_right {m = 1} {n = v} m h, mul_comm m v)

weight-on : (m k : ℕ) → m * 128 ^ suc k ≡ tenth → (m * 128) * 128 ^ k ≡ tenth
weight-on m k e =
    mul_assoc m 128 (128 ^ k) ∙ ap (λ (x : ℕ). m * x) (mul_comm 128 (128 ^ k) ∙ sym (pow-suc 128 k)) ∙ e

weight-most : (m k : ℕ) → m * 128 ^ k ≡ tenth → m ≤ tenth
weight-most m k e = omega (arith, at_least (128 ^ k) m (one-le-pow k 128 (omega arith)))

group-most : (g m : ℕ) → g < 128 → g * m ≤ m * 127
group-most g m h = omega (arith, mul-le-mul_right {m = g} {n = 127} m (omega arith))

-- where the tenth byte is not next, there is room for a group more
room : (weight left : ℕ) → weight * 128 ^ left ≡ tenth → weight < tenth → weight * 128 ≤ tenth
room weight zero e h = absurd (omega arith)
room weight (suc k) e h = weight-most (weight * 128) k (weight-on weight k e)

module _ {s : List ℕ} {at low most i weight sum end : ℕ} (f : Far s at low most i weight sum) (e : Tenth s at end) where
  module _ (t : i < end) where
    far-light : weight < tenth
    far-light = go f.left f.place f.weighs
      where
        go : (n : ℕ) → i + n ≡ at + 8 → weight * 128 ^ n ≡ tenth → weight < tenth
        go zero p w = absurd (omega (arith, e.near))
        go (suc n) p w = omega (arith, f.small, weight-most (weight * 128) n (weight-on weight n w))

    pub far-inside : i < length s
    far-inside = omega (arith, e.inside)

    pub far-sum : {g : ℕ} → g < 128 → Fits w64 (g * weight + sum)
    far-sum {g} l = record { fits = omega (arith, group-most g weight l, f.small, room weight f.left f.weighs far-light) }

    pub far-group : {g : ℕ} → g < 128 → Fits w64 (g * weight)
    far-group l = record { fits = omega (arith, (far-sum l).fits) }

    pub far-high : {b : ℕ} → b < 256 → Fits w64 ((b - 128) * weight)
    far-high l = far-group (omega arith)

    pub far-high-sum : {b : ℕ} → b < 256 → Fits w64 ((b - 128) * weight + sum)
    far-high-sum l = far-sum (omega arith)

    pub far-weight : Fits w64 (weight * 128)
    far-weight = record { fits = omega (arith, room weight f.left f.weighs far-light) }

    module _ {b : ℕ} (d : b ≡ get_or s i 0) where
      pub far-last : {r : Result (ℕ × ℕ) Fault} → b < 128 → r ≡ last_group b (b * weight + sum) most (i + 1)
          → Reads s (number-rest 128 low most 8) at r
      unfolding number-rest
      far-last {r} l q = go b refl
        where
          here : groups-read (drop i s) f.left ≡ got b (drop (i + 1) s)
          here = groups-last s i far-inside f.left (rw d at l) ∙ ap (λ (x : ℕ). got x (drop (i + 1) s)) (sym d)

          go : (c : ℕ) → b ≡ c → Reads s (number-rest 128 low most 8) at r
          go zero z = answer-none {f = Malformed} (f.is ∙ rw (here, z)) (q ∙ rw z)
          go (suc c) z =
              answer-judged (b * weight + sum) most (i + 1)
              (f.is ∙ rw (here, lt-ltb 0 b (omega arith))) (omega (arith, far-inside))
              (q ∙ rw (ne_eqb b 0 (λ (w : b ≡ 0). omega arith)))

      pub far-more : 128 ≤ b → b < 256 → Far s at low most (i + 1) (weight * 128) ((b - 128) * weight + sum)
      unfolding number-rest
      far-more l k = go f.left f.place f.weighs f.is
        where
          go : (n : ℕ) → i + n ≡ at + 8 → weight * 128 ^ n ≡ tenth → number-rest 128 low most 8 (drop at s) ≡ number-rest weight sum most n (drop i s)
              → Far s at low most (i + 1) (weight * 128) ((b - 128) * weight + sum)
          go zero p w x = absurd (omega (arith, e.near))
          go (suc n) p w x = record {
            left = n;
            place = omega arith;
            small = omega (arith, f.small, group-most (b - 128) weight (omega arith));
            weighs = weight-on weight n w;
            is =
                x
                ∙ rw (groups-more s i far-inside n (rw d at l) (rw d at k), ← d)
                (ap (up_to most) (scaled-more weight sum (b - 128) (groups-read (drop (i + 1) s) n)));
          }

  -- After the loop comes the tenth byte, or the bytes have ended before it.
  far-after : end ≤ i → number-rest 128 low most 8 (drop at s) ≡ number-rest tenth sum most 0 (drop i s)
  unfolding number-rest
  far-after h = go f.left f.place f.weighs f.is
    where
      go : (n : ℕ) → i + n ≡ at + 8 → weight * 128 ^ n ≡ tenth → number-rest 128 low most 8 (drop at s) ≡ number-rest weight sum most n (drop i s)
          → number-rest 128 low most 8 (drop at s) ≡ number-rest tenth sum most 0 (drop i s)
      go zero p w x =
          let same : weight ≡ tenth = omega arith in
          x ∙ rw same
      go (suc n) p w x =
          let ended : length s ≤ i = omega (arith, e.last (omega arith)) in
          x ∙ rw (groups-end s i (suc n) ended) (sym (rw (groups-end s i 0 ended)))

  pub far-rest : {r : Result (ℕ × ℕ) Fault} → end ≤ i → Reads s (number-rest tenth sum most 0) i r → Reads s (number-rest 128 low most 8) at r
  far-rest h a = record { same = far-after h ∙ a.same; within = a.within }

-- ---- the tenth byte

module _ {s : List ℕ} {at : ℕ} (sum most : ℕ) where
  pub tenth-end : length s ≤ at → Reads s (number-rest tenth sum most 0) at (Err Ended)
  unfolding number-rest
  tenth-end h = stopped (rw (groups-end s at 0 h))

  module _ (h : at < length s) where
    pub tenth-one : {r : Result (ℕ × ℕ) Fault} → get_or s at 0 ≡ 1 → r ≡ judged_number (tenth + sum) most (at + 1) → Reads s (number-rest tenth sum most 0) at r
    unfolding number-rest
    tenth-one e q =
        let v : 1 * tenth + sum ≡ tenth + sum = omega arith in
        answer-judged (tenth + sum) most (at + 1) (rw (groups-last s at h 0 (omega arith), e, v)) (omega arith) q

    -- any other byte is 0, or more than 64 bits hold, or not the last
    pub tenth-other : (get_or s at 0 ≡ 1 → ⊥) → Fits w64 most → Reads s (number-rest tenth sum most 0) at (Err Malformed)
    unfolding number-rest
    tenth-other n f = stopped (⊎_elim below (λ l. rw (groups-tenth s at h l)) (lt-or-ge (get_or s at 0) 128))
      where
        below : get_or s at 0 < 128 → up_to most (scaled tenth sum (groups-read (drop at s) 0)) ≡ fault Malformed
        below l =
            ⊎_elim
            (λ z. rw (groups-last s at h 0 l, le-ltb 0 (get_or s at 0) (omega arith)))
            (λ z.
            rw (groups-last s at h 0 l, lt-ltb 0 (get_or s at 0) (omega arith), lt-leb (get_or s at 0 * tenth + sum) most (omega (arith, f.fits))))
            (lt-or-ge (get_or s at 0) 1)
