-- Each value has one form: the formats made of formats have it where their parts do.
-- Assumes nothing.
use Prim.Native.Nat.{ℕ, zero, suc, ◌≤◌}
use Rattle.std.specs.Prelude.{◌≡◌, Bool, true, false, cond, leb, ltb, length, take, drop, None, Option, Some}
use Rattle.std.proofs.Math.Path.{refl, ap, subst}
use Rattle.std.proofs.Common.{sym, ◌∙◌, take-append-drop, length-take-le, leb-true, ltb-true}
use mathlib.Core.List.{List, [], ◌∷◌, ◌++◌, append_assoc}
use Rattle.wire.specs.Parse.{Parsed, got, bind, check, never-got, bind_inv, check_inv}
use Rattle.wire.specs.Codec.{Codec, OneForm, Bytes}
use Rattle.wire.specs.Combinators.{nothing, all_bytes, bytes, bytes_read, seq, seq_read, ◌then◌, via, via_read, restated, only, only_read, tagged, tagged_read, count, opt-read, opt_write, opt_fits, optional}
use Rattle.wire.specs.declared.fault.Fault.TheVariants.{Ended, Malformed}

-- nothing
pub nothing-forth : (s : List ℕ) (a : Unit {0}) (r : List ℕ) → got tt s ≡ got a r → (s ≡ [] ++ r) × Unit {0}
nothing-forth s a r e = (cc, tt)

pub nothing-one : OneForm nothing
nothing-one = record { forth = nothing-forth }

-- ---- n bytes as they stand

are-bytes : (s : List ℕ) → all_bytes s ≡ true → Bytes s
are-bytes [] e = tt
are-bytes (b ∷ s) e = go (ltb b 256) refl e (are-bytes s)
  where
    go : (t : Bool) → ltb b 256 ≡ t → cond t (all_bytes s) false ≡ true → (all_bytes s ≡ true → Bytes s) → Bytes (b ∷ s)
    go true h e ih = (ltb-true b 256 h, ih e)
    go false h e ih = cc

pub bytes-forth : (n : ℕ) (s a r : List ℕ) → bytes_read n s ≡ got a r → (s ≡ a ++ r) × ((length a ≡ n) × Bytes a)
bytes-forth n s a r e =
    let i = check_inv Ended (leb n (length s)) (check Malformed (all_bytes (take n s)) (got (take n s) (drop n s))) e in
    let j = check_inv Malformed (all_bytes (take n s)) (got (take n s) (drop n s)) i.1 in
    let h : n ≤ length s = leb-true n (length s) i.0 in
    let e1 : got (take n s) (drop n s) ≡ got a r = j.1 in
    let ea : take n s ≡ a = cc in
    let er : drop n s ≡ r = cc in
    (rw (← ea, ← er) (sym (take-append-drop n s)), (rw (← ea) (length-take-le n s h), rw (← ea) (are-bytes (take n s) j.0)))

pub bytes-one : (n : ℕ) → OneForm (bytes n)
bytes-one n = record { forth = bytes-forth n }

-- one after the other, where the second may depend on the first
module _ {A : Type 0} {B : A → Type 0} (c : Codec A) (d : (a : A) → Codec (B a)) (first : OneForm c) (second : (a : A) → OneForm (d a)) where
  pub seq-forth : (s : List ℕ) (x : (a : A) × B a) (r : List ℕ) → seq_read c d s ≡ got x r
      → (s ≡ (c.write x.0 ++ (d x.0).write x.1) ++ r) × (c.Fits x.0 × (d x.0).Fits x.1)
  seq-forth s x r e =
      let i = bind_inv (c.read s) (λ a t. bind ((d a).read t) (λ b q. got (a, b) q)) e in
      let j = bind_inv ((d i.0).read i.1) (λ b q. got (i.0, b) q) i.3 in
      let e1 : ◌≡◌ {A = Parsed ((a : A) × B a)} (got (i.0, j.0) j.1) (got x r) = j.3 in
      let ex : ◌≡◌ {A = (a : A) × B a} (i.0, j.0) x = cc in
      let er : j.1 ≡ r = cc in
      let f = first.forth s i.0 i.1 i.2 in
      let g = (second i.0).forth i.1 j.0 j.1 j.2 in
      subst (λ (y : (a : A) × B a). (s ≡ (c.write y.0 ++ (d y.0).write y.1) ++ r) × (c.Fits y.0 × (d y.0).Fits y.1)) ex
      (rw append_assoc (f.0 ∙ ap (λ (l : List ℕ). c.write i.0 ++ l) (g.0 ∙ ap (λ (l : List ℕ). (d i.0).write j.0 ++ l) er)), (f.1, g.1))

  pub seq-one : OneForm (seq c d)
  seq-one = record { forth = seq-forth }

pub then-one : {A B : Type 0} (c : Codec A) (d : Codec B) → OneForm c → OneForm d → OneForm (c then d)
then-one c d first second = seq-one c (λ _. d) first (λ _. second)

-- the same bytes, read as another type
module _ {A B : Type 0} (to : A → B) (from : B → A) (to-from : (b : B) → to (from b) ≡ b) (c : Codec A)
    (from-to : (a : A) → c.Fits a → from (to a) ≡ a) (one : OneForm c) where
  pub via-forth : (s : List ℕ) (b : B) (r : List ℕ) → via_read to from to-from c from-to s ≡ got b r → (s ≡ c.write (from b) ++ r) × c.Fits (from b)
  via-forth s b r e =
      let i = bind_inv (c.read s) (λ a t. got (to a) t) e in
      let e1 : got (to i.0) i.1 ≡ got b r = i.3 in
      let eb : to i.0 ≡ b = cc in
      let er : i.1 ≡ r = cc in
      let f = one.forth s i.0 i.1 i.2 in
      let ea : i.0 ≡ from b = sym (from-to i.0 f.1) ∙ ap from eb in
      subst (λ (a : A). (s ≡ c.write a ++ r) × c.Fits a) ea (f.0 ∙ ap (λ (l : List ℕ). c.write i.0 ++ l) er, f.1)

  pub via-one : OneForm (via to from to-from c from-to)
  via-one = record { forth = via-forth }

-- the same format, what fits it said in other words
pub restated-one : {A : Type 0} (P : A → Type 0) (c : Codec A) (to : (a : A) → P a → c.Fits a) (from : (a : A) → c.Fits a → P a) → OneForm c
    → OneForm (restated P c to from)
restated-one P c to from one = record { forth = λ s a r e. let f = one.forth s a r e in (f.0, from a f.1) }

-- what passes a test
module _ {A : Type 0} (t : A → Bool) (c : Codec A) (one : OneForm c) where
  pub only-forth : (s : List ℕ) (a : A) (r : List ℕ) → only_read t c s ≡ got a r → (s ≡ c.write a ++ r) × (c.Fits a × (t a ≡ true))
  only-forth s a r e =
      let i = bind_inv (c.read s) (λ a r. check Malformed (t a) (got a r)) e in
      let j = check_inv Malformed (t i.0) (got i.0 i.1) i.3 in
      let e1 : got i.0 i.1 ≡ got a r = j.1 in
      let ea : i.0 ≡ a = cc in
      let er : i.1 ≡ r = cc in
      let f = one.forth s i.0 i.1 i.2 in
      subst (λ (y : A). (s ≡ c.write y ++ r) × (c.Fits y × (t y ≡ true))) ea
      (f.0 ∙ ap (λ (l : List ℕ). c.write i.0 ++ l) er, (f.1, j.0))

  pub only-one : OneForm (only t c)
  only-one = record { forth = only-forth }

-- a tag, and then what the tag says
module _ {A T : Type 0} (c : Codec T) (tag : A → T) (d : T → Codec A) (agrees : (t : T) (a : A) → (d t).Fits a → tag a ≡ t) (first : OneForm c)
    (second : (t : T) → OneForm (d t)) where
  pub tagged-forth : (s : List ℕ) (a : A) (r : List ℕ) → tagged_read c tag d agrees s ≡ got a r
      → (s ≡ (c.write (tag a) ++ (d (tag a)).write a) ++ r) × (c.Fits (tag a) × (d (tag a)).Fits a)
  tagged-forth s a r e =
      let i = bind_inv (c.read s) (λ t r. (d t).read r) e in
      let f = first.forth s i.0 i.1 i.2 in
      let g = (second i.0).forth i.1 a r i.3 in
      subst (λ (t : T). (s ≡ (c.write t ++ (d t).write a) ++ r) × (c.Fits t × (d t).Fits a)) (sym (agrees i.0 a g.1))
      (rw append_assoc (f.0 ∙ ap (λ (l : List ℕ). c.write i.0 ++ l) g.0), (f.1, g.1))

  pub tagged-one : OneForm (tagged c tag d agrees)
  tagged-one = record { forth = tagged-forth }

-- a field that is there, or not
module _ {A : Type 0} (c : Codec A) (one : OneForm c) where
  pub opt-forth : (b : ℕ) (s : List ℕ) (o : Option A) (r : List ℕ) → opt-read c.read b s ≡ got o r → (s ≡ opt_write c o ++ r) × ((count o ≡ b) × opt_fits c o)
  unfolding opt-read
  opt-forth zero s o r e =
      let eo : None ≡ o = cc in
      let er : s ≡ r = cc in
      subst (λ (y : Option A). (s ≡ opt_write c y ++ r) × ((count y ≡ 0) × opt_fits c y)) eo (er, (refl, tt))
  opt-forth (suc zero) s o r e =
      let i = bind_inv (c.read s) (λ a r. got (Some a) r) e in
      let e1 : got (Some i.0) i.1 ≡ got o r = i.3 in
      let eo : Some i.0 ≡ o = cc in
      let er : i.1 ≡ r = cc in
      let f = one.forth s i.0 i.1 i.2 in
      subst (λ (y : Option A). (s ≡ opt_write c y ++ r) × ((count y ≡ 1) × opt_fits c y)) eo (f.0 ∙ ap (λ (l : List ℕ). c.write i.0 ++ l) er, (refl, f.1))
  opt-forth (suc (suc n)) s o r e = never-got e

  pub optional-one : (b : ℕ) → OneForm (optional c b)
  optional-one b = record { forth = opt-forth b }
