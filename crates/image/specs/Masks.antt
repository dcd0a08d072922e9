-- A mask, and the fields that it says are there: the lowest bit is the first field's.
use Rattle.std.specs.Prelude.{ℕ, ◌+◌, ◌*◌, ◌/◌, ◌%◌, ◌≤◌, ◌≡◌, refl, true, leb, None, Option, Some}
use Rattle.std.proofs.Common.{arith}
use Rattle.wire.specs.Codec.{Codec}
use Rattle.wire.specs.Combinators.{seq, restated, tagged, count, opt_fits, optional}
use Rattle.wire.specs.Number.{edge, number_to}
use Rattle.image.specs.Fits.{IfGiven}

-- fields read by a mask m: Whole says what fits, whatever the mask
pub record Masked (A : Type 0) : Type 1 where
  pub at : ℕ → Codec A
  pub mask : A → ℕ
  pub top : ℕ
  pub small : (a : A) → mask a ≤ top
  pub Whole : A → Type 0
  pub to : (a : A) → Whole a → (at (mask a)).Fits a
  pub from : (m : ℕ) (a : A) → (at m).Fits a → (mask a ≡ m) × Whole a

pub given-fits : {A : Type 0} (c : Codec A) (o : Option A) → IfGiven c.Fits o → opt_fits c o
given-fits c None h = h
given-fits c (Some a) h = h

pub fits-given : {A : Type 0} (c : Codec A) (o : Option A) → opt_fits c o → IfGiven c.Fits o
fits-given c None h = h
fits-given c (Some a) h = h

count_low : {A : Type 0} (o : Option A) (n : ℕ) → count o ≡ (count o + 2 * n) % 2
count_low None n = omega arith
count_low (Some a) n = omega arith

count-high : {A : Type 0} (o : Option A) (n : ℕ) → (count o + 2 * n) / 2 ≡ n
count-high None n = omega arith
count-high (Some a) n = omega arith

pub count_small : {A : Type 0} (o : Option A) → count o ≤ 1
count_small None = omega arith
count_small (Some a) = omega arith

-- the last field
abbrev pub last : {A : Type 0} → Codec A → Masked (Option A)
last c = record {
  at = optional c;
  mask = count;
  top = 1;
  small = count_small;
  Whole = IfGiven c.Fits;
  to = λ o h. (refl, given-fits c o h);
  from = λ m o h. (h.0, fits-given c o h.1);
}

module _ {A B : Type 0} (c : Codec A) (d : Masked B) where
  abbrev pub flag_at : ℕ → Codec (Option A × B)
  flag_at m = seq (optional c (m % 2)) (λ _. d.at (m / 2))

  abbrev pub flag_mask : Option A × B → ℕ
  flag_mask x = count x.0 + 2 * d.mask x.1

  pub flag_small : (x : Option A × B) → flag_mask x ≤ 1 + 2 * d.top
  flag_small x = omega (arith, count_small x.0, d.small x.1)

  pub flag-to : (x : Option A × B) → IfGiven c.Fits x.0 × d.Whole x.1 → (flag_at (flag_mask x)).Fits x
  flag-to x h = (
    (count_low x.0 (d.mask x.1), given-fits c x.0 h.0),
    rw (count-high x.0 (d.mask x.1)) (d.to x.1 h.1),
  )

  pub flag-from : (m : ℕ) (x : Option A × B) → (flag_at m).Fits x → (flag_mask x ≡ m) × (IfGiven c.Fits x.0 × d.Whole x.1)
  flag-from m x h =
      let f = d.from (m / 2) x.1 h.1 in
      let low : count x.0 ≡ m % 2 = h.0.0 in
      let high : d.mask x.1 ≡ m / 2 = f.0 in
      (omega arith, (fits-given c x.0 h.0.1, f.1))

  -- a field before others
  abbrev pub flag : Masked (Option A × B)
  flag = record {
    at = flag_at;
    mask = flag_mask;
    top = 1 + 2 * d.top;
    small = flag_small;
    Whole = λ x. IfGiven c.Fits x.0 × d.Whole x.1;
    to = flag-to;
    from = flag-from;
  }

-- the mask, and the fields; `refl` says that 64 bits hold the largest mask
abbrev pub masked : {A : Type 0} (d : Masked A) → leb d.top edge ≡ true → Codec A
masked d e =
    restated d.Whole (tagged (number_to d.top e) d.mask d.at (λ m a h. (d.from m a h).0))
    (λ a h. (d.small a, d.to a h)) (λ a h. (d.from (d.mask a) a h.1).1)

-- "0 or 1 and" the thing
abbrev pub maybe : {A : Type 0} → Codec A → Codec (Option A)
maybe c = masked (last c) refl
