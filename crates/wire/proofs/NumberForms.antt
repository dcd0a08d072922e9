-- Each number has one form, and so has each text and each time.
-- Assumes nothing.
use Rattle.std.specs.Prelude.{◌≡◌, refl, true, List, [], ◌∷◌, ◌++◌, ℕ, zero, suc, ◌+◌, ◌-◌, ◌*◌, ◌/◌, ◌%◌, ◌≤◌, ◌<◌, ltb, leb, length}
use Rattle.std.proofs.Common.{ap, ⊎_elim, arith, le-leb, le-ltb, lt-ltb, ltb-true, leb-true}
use Rattle.wire.specs.Parse.{got, check, never-got, bind_inv, check_inv}
use Rattle.wire.specs.Codec.{OneForm}
use Rattle.wire.specs.Combinators.{◌then◌, via, only, bytes}
use Rattle.wire.specs.Number.{edge, number_bytes, scaled, groups-read, number_read, lt-or-ge, number_small, number-big, number_to, below, between, coded}
use Rattle.wire.specs.Text.{text_bytes, text-read, FitsText, framed, text}
use Rattle.wire.specs.Time.{zigzag, unzigzag, unzigzag-zigzag, zigzag-unzigzag, signed-zigzag, zigzag-signed, seconds, nanos, time_of, time}
use Rattle.wire.proofs.OneForm.{bytes-one, then-one, via-one, restated-one, only-one, tagged-one}
use Rattle.wire.specs.declared.fault.Fault.TheVariants.{Malformed}

-- what holds of what was found holds of what is said to be found
pub same-got : {A : Type 0} (P : A → List ℕ → Type 0) {a b : A} {u r : List ℕ} → got a u ≡ got b r → P a u → P b r
same-got P {a} {b} {u} {r} h t =
    let e : a ≡ b = cc in
    let d : u ≡ r = cc in
    rw (← e, ← d) t

whole : (b v : ℕ) (t u : List ℕ) → 128 ≤ b → b < 256 → 0 < v → t ≡ number_bytes v ++ u → b ∷ t ≡ number_bytes (v * 128 + (b - 128)) ++ u
whole b v t u l lb lv e =
    let eb : (v * 128 + (b - 128)) % 128 + 128 ≡ b = omega arith in
    let ev : (v * 128 + (b - 128)) / 128 ≡ v = omega arith in
    rw (number-big (v * 128 + (b - 128)) (omega arith)) (rw (eb, ev) (ap (λ (x : List ℕ). b ∷ x) e))

last : (b n : ℕ) (t r : List ℕ) → b < 128 → got b t ≡ got n r → b ∷ t ≡ number_bytes n ++ r
last b n t r l h = same-got (λ n r. b ∷ t ≡ number_bytes n ++ r) h (rw (number_small b l))

groups-forth : (s : List ℕ) (k n : ℕ) (r : List ℕ) → groups-read s k ≡ got n r → s ≡ number_bytes n ++ r
unfolding groups-read
groups-forth [] k n r h = never-got h
groups-forth (b ∷ t) zero n r h =
    let i = check_inv Malformed (ltb b 128) (got b t) h in
    last b n t r (ltb-true b 128 i.0) i.1
groups-forth (b ∷ t) (suc k) n r h =
    ⊎_elim
    (λ l. last b n t r l (simp (lt-ltb b 128 l) at h))
    (λ l.
    let i = check_inv Malformed (ltb b 256) (scaled 128 (b - 128) (groups-read t k)) (simp (le-ltb b 128 l) at h) in
    let j = bind_inv (groups-read t k) (λ v r. check Malformed (ltb 0 v) (got (v * 128 + (b - 128)) r)) i.1 in
    let m = check_inv Malformed (ltb 0 j.0) (got (j.0 * 128 + (b - 128)) j.1) j.3 in
    same-got (λ n r. b ∷ t ≡ number_bytes n ++ r) m.1
    (whole b j.0 t j.1 l (ltb-true b 256 i.0) (ltb-true 0 j.0 m.0) (groups-forth t k j.0 j.1 j.2)))
    (lt-or-ge b 128)

pub number-forth : (most : ℕ) (s : List ℕ) (n : ℕ) (r : List ℕ) → number_read most s ≡ got n r → (s ≡ number_bytes n ++ r) × (n ≤ most)
unfolding number_read
number-forth most s n r h =
    let i = bind_inv (groups-read s 9) (λ v r. check Malformed (leb v most) (got v r)) h in
    let j = check_inv Malformed (leb i.0 most) (got i.0 i.1) i.3 in
    same-got (λ n r. (s ≡ number_bytes n ++ r) × (n ≤ most)) j.1 (groups-forth s 9 i.0 i.1 i.2, leb-true i.0 most j.0)

pub number_to-one : (most : ℕ) (e : leb most edge ≡ true) → OneForm (number_to most e)
number_to-one most e = record { forth = number-forth most }

pub below-one : (most : ℕ) (e : leb most edge ≡ true) → OneForm (below most e)
below-one most e = restated-one (λ n. n < suc most) (number_to most e) (λ n h. omega arith) (λ n h. omega arith) (number_to-one most e)

pub between-one : (least most : ℕ) (e : leb most edge ≡ true) → OneForm (between least most e)
between-one least most e =
    restated-one (λ n. (least ≤ n) × (n ≤ most)) (only (leb least) (number_to most e))
    (λ n h. (h.1, le-leb least n h.0)) (λ n h. (leb-true least n h.1, h.0))
    (only-one (leb least) (number_to most e) (number_to-one most e))

pub coded-one : {A : Type 0} (most : ℕ) (limit : leb most edge ≡ true) (at : ℕ → A) (code : A → ℕ) (at_code : (a : A) → at (code a) ≡ a)
    (code_at : (n : ℕ) → n ≤ most → code (at n) ≡ n) (small : (a : A) → code a ≤ most) → OneForm (coded most limit at code at_code code_at small)
coded-one most limit at code at_code code_at small =
    restated-one _ (via at code at_code (number_to most limit) code_at) _ _
    (via-one at code at_code (number_to most limit) code_at (number_to-one most limit))

-- ---- texts

module _ (least most : ℕ) (e : leb most edge ≡ true) where
  framed-one : OneForm (framed least most e)
  framed-one =
      tagged-one (only (leb least) (number_to most e)) length bytes (λ n l h. h.0)
      (only-one (leb least) (number_to most e) (number_to-one most e)) bytes-one

  pub text-forth : (s t r : List ℕ) → text-read least most s ≡ got t r → (s ≡ text_bytes t ++ r) × FitsText least most e t
  unfolding text-read
  text-forth s t r h = let f = framed-one.forth s t r h in (f.0, (leb-true least (length t) f.1.0.1, f.1.0.0, f.1.1.1))

  pub text-one : OneForm (text least most e)
  text-one = record { forth = text-forth }

-- ---- times

pub seconds-one : OneForm seconds
seconds-one =
    restated-one _ (via unzigzag zigzag unzigzag-zigzag (number_to edge refl) (λ z h. zigzag-unzigzag z)) signed-zigzag zigzag-signed
    (via-one unzigzag zigzag unzigzag-zigzag (number_to edge refl) (λ z h. zigzag-unzigzag z) (number_to-one edge refl))

pub nanos-one : OneForm nanos
nanos-one = number_to-one 999999999 refl

pub time-one : OneForm time
unfolding time
time-one =
    via-one time_of (λ t. (t.seconds, t.nanos)) (λ t. refl) (seconds then nanos) (λ p h. refl) (then-one seconds nanos seconds-one nanos-one)
