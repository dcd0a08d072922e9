-- Formats made of formats. Each carries that what is written is read back; that each value has one form stands in proofs/OneForm.
use Prim.Native.Nat.{ℕ, zero, suc, ◌≤◌}
use Rattle.std.specs.Prelude.{◌≡◌, Bool, true, false, cond, leb, ltb, length, take, drop, None, Option, Some}
use Rattle.std.proofs.Math.Path.{refl}
use Rattle.std.proofs.Common.{arith, length-append, take_at, drop_at, leb-true, le-leb, lt-ltb}
use mathlib.Core.List.{List, [], ◌∷◌, ◌++◌, append_assoc}
use Rattle.std.proofs.lemmas.List.{take-append-le, drop-append-le}
use Rattle.wire.specs.Parse.{Parsed, fault, got, bind, check, Extends, bind-extends, check-extends}
use Rattle.wire.specs.Codec.{Codec, Bytes, plain-append}
use Rattle.wire.specs.declared.fault.Fault.TheVariants.{Ended, Malformed}

-- nothing
abbrev pub nothing : Codec (Unit {0})
nothing = record { read = λ s. got tt s; write = λ a. []; Fits = λ a. Unit {0}; back = λ a r h. refl; steady = λ s t. refl; plain = λ a h. tt }

-- ---- n bytes as they stand

abbrev pub all_bytes : List ℕ → Bool
all_bytes [] = true
all_bytes (b ∷ s) = cond (ltb b 256) (all_bytes s) false

pub all-bytes : (s : List ℕ) → Bytes s → all_bytes s ≡ true
all-bytes [] h = refl
all-bytes (b ∷ s) h = rw (lt-ltb b 256 h.0) (all-bytes s h.1)

abbrev pub bytes_read : ℕ → List ℕ → Parsed (List ℕ)
bytes_read n s = check Ended (leb n (length s)) (check Malformed (all_bytes (take n s)) (got (take n s) (drop n s)))

pub bytes_back : (n : ℕ) (a r : List ℕ) → (length a ≡ n) × Bytes a → bytes_read n (a ++ r) ≡ got a r
bytes_back n a r h =
    rw (le-leb n (length (a ++ r)) (omega (arith, length-append a r)), take_at a r n h.0, drop_at a r n h.0, all-bytes a h.1)

pub bytes-steady : (n : ℕ) (s t : List ℕ) → Extends t (bytes_read n s) (bytes_read n (s ++ t))
bytes-steady n s t = go (leb n (length s)) refl
  where
    go : (b : Bool) → leb n (length s) ≡ b
        → Extends t (check Ended b (check Malformed (all_bytes (take n s)) (got (take n s) (drop n s)))) (bytes_read n (s ++ t))
    go true e =
        let h : n ≤ length s = leb-true n (length s) e in
        rw (le-leb n (length (s ++ t)) (omega (arith, length-append s t)), take-append-le n s t h, drop-append-le n s t h)
        (check-extends t (all_bytes (take n s)) (got (take n s) (drop n s)) (got (take n s) (drop n s ++ t)) refl)
    go false e = tt

abbrev pub bytes : ℕ → Codec (List ℕ)
bytes n = record {
  read = bytes_read n;
  write = λ a. a;
  Fits = λ a. (length a ≡ n) × Bytes a;
  back = bytes_back n;
  steady = bytes-steady n;
  plain = λ a h. h.1;
}

-- one after the other, where the second may depend on the first
module _ {A : Type 0} {B : A → Type 0} (c : Codec A) (d : (a : A) → Codec (B a)) where
  abbrev pub seq_read : List ℕ → Parsed ((a : A) × B a)
  seq_read s = bind (c.read s) (λ a r. bind ((d a).read r) (λ b q. got (a, b) q))

  pub seq-back : (x : (a : A) × B a) (r : List ℕ) → c.Fits x.0 × (d x.0).Fits x.1
      → seq_read ((c.write x.0 ++ (d x.0).write x.1) ++ r) ≡ got x r
  seq-back x r h =
      rw (append_assoc, c.back x.0 ((d x.0).write x.1 ++ r) h.0, (d x.0).back x.1 r h.1)

  pub seq-steady : (s t : List ℕ) → Extends t (seq_read s) (seq_read (s ++ t))
  seq-steady s t =
      bind-extends t (c.read s) (c.read (s ++ t)) _ (c.steady s t) (λ a r.
      bind-extends t ((d a).read r) ((d a).read (r ++ t)) _ ((d a).steady r t) (λ b q. refl))

  abbrev pub seq : Codec ((a : A) × B a)
  seq = record {
    read = seq_read;
    write = λ x. c.write x.0 ++ (d x.0).write x.1;
    Fits = λ x. c.Fits x.0 × (d x.0).Fits x.1;
    back = seq-back;
    steady = seq-steady;
    plain = λ x h. plain-append (c.write x.0) ((d x.0).write x.1) (c.plain x.0 h.0) ((d x.0).plain x.1 h.1);
  }

infixr 20 ◌then◌
abbrev pub ◌then◌ : {A B : Type 0} → Codec A → Codec B → Codec (A × B)
c then d = seq c (λ _. d)

-- the same bytes, read as another type
module _ {A B : Type 0} (to : A → B) (from : B → A) (to-from : (b : B) → to (from b) ≡ b) (c : Codec A)
    (from-to : (a : A) → c.Fits a → from (to a) ≡ a) where
  abbrev pub via_read : List ℕ → Parsed B
  via_read s = bind (c.read s) (λ a r. got (to a) r)

  pub via-back : (b : B) (r : List ℕ) → c.Fits (from b) → via_read (c.write (from b) ++ r) ≡ got b r
  via-back b r h = rw (c.back (from b) r h, to-from b)

  pub via-steady : (s t : List ℕ) → Extends t (via_read s) (via_read (s ++ t))
  via-steady s t = bind-extends t (c.read s) (c.read (s ++ t)) _ (c.steady s t) (λ a r. refl)

  abbrev pub via : Codec B
  via = record { read = via_read; write = λ b. c.write (from b); Fits = λ b. c.Fits (from b); back = via-back; steady = via-steady; plain = λ b h. c.plain (from b) h }

-- the same format, what fits it said in other words
abbrev pub restated : {A : Type 0} (P : A → Type 0) (c : Codec A) → ((a : A) → P a → c.Fits a) → ((a : A) → c.Fits a → P a) → Codec A
restated P c to from = record {
  read = c.read;
  write = c.write;
  Fits = P;
  back = λ a r h. c.back a r (to a h);
  steady = c.steady;
  plain = λ a h. c.plain a (to a h);
}

-- what passes a test
module _ {A : Type 0} (t : A → Bool) (c : Codec A) where
  abbrev pub only_read : List ℕ → Parsed A
  only_read s = bind (c.read s) (λ a r. check Malformed (t a) (got a r))

  pub only-back : (a : A) (r : List ℕ) → c.Fits a × (t a ≡ true) → only_read (c.write a ++ r) ≡ got a r
  only-back a r h = rw (c.back a r h.0, h.1)

  pub only-steady : (s t : List ℕ) → Extends t (only_read s) (only_read (s ++ t))
  only-steady s u = bind-extends u (c.read s) (c.read (s ++ u)) _ (c.steady s u) (λ a r. check-extends u (t a) (got a r) (got a (r ++ u)) refl)

  abbrev pub only : Codec A
  only = record { read = only_read; write = c.write; Fits = λ a. c.Fits a × (t a ≡ true); back = only-back; steady = only-steady; plain = λ a h. c.plain a h.0 }

-- a tag, and then what the tag says: a count and a list, a code and a variant, a mask and the fields that are there
module _ {A T : Type 0} (c : Codec T) (tag : A → T) (d : T → Codec A) (agrees : (t : T) (a : A) → (d t).Fits a → tag a ≡ t) where
  abbrev pub tagged_read : List ℕ → Parsed A
  tagged_read s = bind (c.read s) (λ t r. (d t).read r)

  pub tagged-back : (a : A) (r : List ℕ) → c.Fits (tag a) × (d (tag a)).Fits a → tagged_read ((c.write (tag a) ++ (d (tag a)).write a) ++ r) ≡ got a r
  tagged-back a r h = rw (append_assoc, c.back (tag a) ((d (tag a)).write a ++ r) h.0, (d (tag a)).back a r h.1)

  pub tagged-steady : (s t : List ℕ) → Extends t (tagged_read s) (tagged_read (s ++ t))
  tagged-steady s t = bind-extends t (c.read s) (c.read (s ++ t)) _ (c.steady s t) (λ a r. (d a).steady r t)

  abbrev pub tagged : Codec A
  tagged = record {
    read = tagged_read;
    write = λ a. c.write (tag a) ++ (d (tag a)).write a;
    Fits = λ a. c.Fits (tag a) × (d (tag a)).Fits a;
    back = tagged-back;
    steady = tagged-steady;
    plain = λ a h. plain-append (c.write (tag a)) ((d (tag a)).write a) (c.plain (tag a) h.0) ((d (tag a)).plain a h.1);
  }

abbrev pub count : {A : Type 0} → Option A → ℕ
count None = 0
count (Some a) = 1

-- a field that is there, or not, as a bit says
unfoldable pub opt-read : {A : Type 0} → (List ℕ → Parsed A) → ℕ → List ℕ → Parsed (Option A)
opt-read p zero s = got None s
opt-read p (suc zero) s = bind (p s) (λ a r. got (Some a) r)
opt-read p (suc (suc n)) s = fault Malformed

module _ {A : Type 0} (c : Codec A) where
  abbrev pub opt_write : Option A → List ℕ
  opt_write None = []
  opt_write (Some a) = c.write a

  abbrev pub opt_fits : Option A → Type 0
  opt_fits None = Unit {0}
  opt_fits (Some a) = c.Fits a

  present : (o : Option A) (r : List ℕ) → opt_fits o → opt-read c.read (count o) (opt_write o ++ r) ≡ got o r
  unfolding opt-read
  present None r h = refl
  present (Some a) r h = rw (c.back a r h)

  pub opt-back : (b : ℕ) (o : Option A) (r : List ℕ) → (count o ≡ b) × opt_fits o → opt-read c.read b (opt_write o ++ r) ≡ got o r
  opt-back b o r h = rw (← h.0) (present o r h.1)

  pub opt-steady : (b : ℕ) (s t : List ℕ) → Extends t (opt-read c.read b s) (opt-read c.read b (s ++ t))
  unfolding opt-read
  opt-steady zero s t = refl
  opt-steady (suc zero) s t = bind-extends t (c.read s) (c.read (s ++ t)) _ (c.steady s t) (λ a r. refl)
  opt-steady (suc (suc n)) s t = refl

  pub opt-plain : (o : Option A) → opt_fits o → Bytes (opt_write o)
  opt-plain None h = tt
  opt-plain (Some a) h = c.plain a h

  abbrev pub optional : ℕ → Codec (Option A)
  optional b = record {
    read = opt-read c.read b;
    write = opt_write;
    Fits = λ o. (count o ≡ b) × opt_fits o;
    back = opt-back b;
    steady = opt-steady b;
    plain = λ o h. opt-plain o h.1;
  }
