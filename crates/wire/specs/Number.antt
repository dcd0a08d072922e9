-- Document 01: "Numbers are seven bits a byte, low group first, high bit on all but the last, shortest form, below 2^64."
-- Document 02, T-09: a number is judged when it is complete, and one whose tenth byte isn't its last is badly formed.
use Rattle.std.specs.Prelude.{◌≡◌, refl, ◌⊎◌, Bool, true, false, cond, List, [], ◌∷◌, ◌++◌, ℕ, zero, suc, ◌+◌, ◌-◌, ◌*◌, ◌/◌, ◌%◌, ◌^◌, ◌≤◌, ◌<◌, ltb, leb, length}
use Rattle.std.proofs.Common.{sym, ap, ◌∙◌, inl, inr, ⊎_elim, div-lt_iff_lt-mul, pow-suc, arith, lt-ltb, le-ltb, le-leb, ltb-true, ltb-false, leb-true}
use Rattle.wire.specs.Parse.{Parsed, fault, got, bind, check, Extends, bind-extends, check-extends}
use Rattle.wire.specs.Codec.{Codec, Bytes}
use Rattle.wire.specs.Combinators.{via, restated, only}
use Rattle.wire.specs.declared.fault.Fault.TheVariants.{Ended, Malformed}

-- the largest that 64 bits hold
abbrev pub edge : ℕ
edge = 18446744073709551615

-- the weight of a tenth group
abbrev pub tenth : ℕ
tenth = 9223372036854775808

-- the groups of n, low group first; the fuel is at least n
unfoldable pub groups : ℕ → ℕ → List ℕ
groups zero n = n ∷ []
groups (suc f) n =
    let l = (n % 128 + 128) ∷ groups f (n / 128) in
    cond (ltb n 128) (n ∷ []) l

unfoldable pub number_bytes : ℕ → List ℕ
number_bytes n = groups n n

-- The groups that follow others are not 0 ("shortest form"); those before them are worth `sum`, and the next one weighs `weight`.
abbrev pub scaled : ℕ → ℕ → Parsed ℕ → Parsed ℕ
scaled weight sum p = bind p (λ v r. check Malformed (ltb 0 v) (got (v * weight + sum) r))

-- a number of k + 1 bytes at most, of any value
unfoldable pub groups-read : List ℕ → ℕ → Parsed ℕ
groups-read [] k = fault Ended
groups-read (b ∷ r) zero = check Malformed (ltb b 128) (got b r)
groups-read (b ∷ r) (suc k) =
    let p = scaled 128 (b - 128) (groups-read r k) in
    cond (ltb b 128) (got b r) (check Malformed (ltb b 256) p)

-- what was read is at most `most`
abbrev pub up_to : ℕ → Parsed ℕ → Parsed ℕ
up_to most p = bind p (λ v r. check Malformed (leb v most) (got v r))

-- a number of at most `most`
unfoldable pub number_read : ℕ → List ℕ → Parsed ℕ
number_read most s = up_to most (groups-read s 9)

-- what is left of a number after its first bytes, k + 1 bytes at most
unfoldable pub number-rest : ℕ → ℕ → ℕ → ℕ → List ℕ → Parsed ℕ
number-rest weight sum most k s = up_to most (scaled weight sum (groups-read s k))

-- ---- the encoding by its two cases

pub lt-or-ge : (a b : ℕ) → (a < b) ⊎ (b ≤ a)
lt-or-ge a b = go (ltb a b) refl
  where
    go : (t : Bool) → ltb a b ≡ t → (a < b) ⊎ (b ≤ a)
    go true e = inl (ltb-true a b e)
    go false e = inr (ltb-false a b e)

groups-small : (f n : ℕ) → n < 128 → groups f n ≡ n ∷ []
unfolding groups
groups-small zero n h = refl
groups-small (suc f) n h = simp (lt-ltb n 128 h)

groups-fuel : (f g n : ℕ) → n ≤ f → n ≤ g → groups f n ≡ groups g n
unfolding groups
groups-fuel zero g n p q = sym (groups-small g n (omega arith))
groups-fuel (suc f) zero n p q = groups-small (suc f) n (omega arith)
groups-fuel (suc f) (suc g) n p q = rw (groups-fuel f g (n / 128) (omega arith) (omega arith))

pub number_small : (n : ℕ) → n < 128 → number_bytes n ≡ n ∷ []
unfolding number_bytes
number_small n h = groups-small n n h

pub number-big : (n : ℕ) → 128 ≤ n → number_bytes n ≡ (n % 128 + 128) ∷ number_bytes (n / 128)
unfolding number_bytes groups
number-big n h =
    groups-fuel n (suc n) n (omega arith) (omega arith)
    ∙ simp (le-ltb n 128 h) (rw (groups-fuel n (n / 128) (n / 128) (omega arith) (omega arith)))

-- a number is at least one byte long
pub number-one : (n : ℕ) → 1 ≤ length (number_bytes n)
number-one n = ⊎_elim (λ l. rw (number_small n l) (omega arith)) (λ l. rw (number-big n l) (omega arith)) (lt-or-ge n 128)

-- ---- what was written reads back

-- It reads back by whichever test the last group passes, 0 < v or 0 ≤ v: "shortest form" matters only to `groups-forth` (proofs/NumberForms).
groups-back : (k n : ℕ) (r : List ℕ) → n < 128 ^ suc k → groups-read (number_bytes n ++ r) k ≡ got n r
unfolding groups-read
groups-back zero n r h = let l : n < 128 = omega arith in rw (number_small n l) (simp (lt-ltb n 128 l))
groups-back (suc k) n r h =
    ⊎_elim
    (λ l. rw (number_small n l) (simp (lt-ltb n 128 l)))
    (λ l. rw (number-big n l) (
    simp (le-ltb (n % 128 + 128) 128 (omega arith), lt-ltb (n % 128 + 128) 256 (omega arith), groups-back k (n / 128) r ((div-lt_iff_lt-mul {k = 128} {x = n} {y = 128 ^ suc k} (omega arith)).1 (rw pow-suc at h)), lt-ltb 0 (n / 128) (omega arith), le-leb 0 (n / 128) (omega arith))
    (ap (λ (m : ℕ). got m r) (omega arith))))
    (lt-or-ge n 128)

pub number-back : (most : ℕ) → leb most edge ≡ true → (n : ℕ) (r : List ℕ) → n ≤ most → number_read most (number_bytes n ++ r) ≡ got n r
unfolding number_read
number-back most e n r h = rw (groups-back 9 n r (omega (arith, leb-true most edge e)), le-leb n most h)

-- ---- more bytes

-- whatever is asked of a number
asked : (t : List ℕ) (b : Bool) (n : ℕ) (r : List ℕ) → Extends t (check Malformed b (got n r)) (check Malformed b (got n (r ++ t)))
asked t b n r = check-extends t b (got n r) (got n (r ++ t)) refl

scaled-extends : (t : List ℕ) (weight sum : ℕ) (p q : Parsed ℕ) → Extends t p q → Extends t (scaled weight sum p) (scaled weight sum q)
scaled-extends t weight sum p q e = bind-extends t p q _ e (λ v r. asked t _ (v * weight + sum) r)

groups-steady : (s : List ℕ) (k : ℕ) (t : List ℕ) → Extends t (groups-read s k) (groups-read (s ++ t) k)
unfolding groups-read
groups-steady [] k t = tt
groups-steady (b ∷ s) zero t = check-extends t (ltb b 128) (got b s) (got b (s ++ t)) refl
groups-steady (b ∷ s) (suc k) t =
    either (ltb b 128) _ _
    (check-extends t (ltb b 256) (scaled 128 (b - 128) (groups-read s k)) (scaled 128 (b - 128) (groups-read (s ++ t) k))
    (scaled-extends t 128 (b - 128) (groups-read s k) (groups-read (s ++ t) k) (groups-steady s k t)))
  where
    either : (c : Bool) (p q : Parsed ℕ) → Extends t p q → Extends t (cond c (got b s) p) (cond c (got b (s ++ t)) q)
    either true p q e = refl
    either false p q e = e

pub number-steady : (most : ℕ) (s t : List ℕ) → Extends t (number_read most s) (number_read most (s ++ t))
unfolding number_read
number-steady most s t =
    bind-extends t (groups-read s 9) (groups-read (s ++ t) 9) _ (groups-steady s 9 t) (λ v r. check-extends t (leb v most) (got v r) (got v (r ++ t)) refl)

-- ---- it is written in bytes

groups-plain : (f n : ℕ) → n ≤ f → Bytes (groups f n)
unfolding groups
groups-plain zero n h = (omega arith, tt)
groups-plain (suc f) n h =
    ⊎_elim
    (λ l. rw (lt-ltb n 128 l) (omega arith, tt))
    (λ l. rw (le-ltb n 128 l) (omega arith, groups-plain f (n / 128) (omega arith)))
    (lt-or-ge n 128)

pub number-plain : (n : ℕ) → Bytes (number_bytes n)
unfolding number_bytes
number-plain n = groups-plain n n (omega arith)

-- a number of at most `most`; `refl` says that 64 bits hold `most`
abbrev pub number_to : (most : ℕ) → leb most edge ≡ true → Codec ℕ
number_to most e = record {
  read = number_read most;
  write = number_bytes;
  Fits = λ n. n ≤ most;
  back = number-back most e;
  steady = number-steady most;
  plain = λ n h. number-plain n;
}

-- a number below most + 1
abbrev pub below : (most : ℕ) → leb most edge ≡ true → Codec ℕ
below most e = restated (λ n. n < suc most) (number_to most e) (λ n h. omega arith) (λ n h. omega arith)

-- a number from least to most
abbrev pub between : (least most : ℕ) → leb most edge ≡ true → Codec ℕ
between least most e =
    restated (λ n. (least ≤ n) × (n ≤ most)) (only (leb least) (number_to most e))
    (λ n h. (h.1, le-leb least n h.0)) (λ n h. (leb-true least n h.1, h.0))

-- the numbers from 0 to most, each the code of one of A
abbrev pub coded : {A : Type 0} (most : ℕ) (limit : leb most edge ≡ true) (at : ℕ → A) (code : A → ℕ) → ((a : A) → at (code a) ≡ a)
    → ((n : ℕ) → n ≤ most → code (at n) ≡ n) → ((a : A) → code a ≤ most) → Codec A
coded most limit at code at_code code_at small =
    restated (λ a. Unit {0}) (via at code at_code (number_to most limit) code_at) (λ a h. small a) (λ a h. tt)
