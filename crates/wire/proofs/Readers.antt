-- How reads are put together: a read that stops stays stopped, for the same fault.
-- Assumes nothing.
use Rattle.std.specs.Prelude.{Result, Ok, Err, IsErr, IsErrAnd, ℤ}
use Prim.Native.Nat.{ℕ, zero, suc, ◌+◌, ◌-◌, ◌≤◌, ◌<◌}
use mathlib.Core.Path.{◌≡◌, refl, ap}
use mathlib.Core.List.{List, [], ◌∷◌}
use native.Mathlib.Omega.{arith}
use borrow.Author.Tests.{lt-leb, le-leb}
use mir.Syntax.{w8}
use mir.Val.{Fits}
use lib.ListN.{get_or, length, take, drop, length-drop}
use lib.Seq.{drop-drop}
use Rattle.wire.specs.Parse.{Parsed, got, bind}
use Rattle.wire.specs.Codec.{Bytes}
use Rattle.wire.specs.Combinators.{all-bytes}
use Rattle.wire.specs.Number.{edge, number_read}
use Rattle.wire.specs.Text.{text-read}
use Rattle.wire.specs.Time.{unzigzag, time}
use Rattle.wire.specs.declared.time.Time.{Time}
use Rattle.wire.specs.Reading.{Reads, ReadsPart}
use Rattle.wire.specs.declared.part.Part.{Part}
use Rattle.wire.proofs.NumberForms.{number-forth}
use Rattle.wire.specs.declared.fault.Fault.{Fault}
use Rattle.wire.specs.declared.fault.Fault.TheVariants.{Ended, Malformed}

-- what `?` hands on is the fault that it met
pub handed : {A E : Type 0} {r : Result A E} {f : E} → IsErr r × IsErrAnd r (λ y. y ≡ f) → r ≡ Err f
handed {r = r} h = go r h.1
  where
    go : {A E : Type 0} {f : E} (r : Result A E) → IsErrAnd r (λ y. y ≡ f) → r ≡ Err f
    go (Ok x) k = absurd k
    go (Err y) k = ap Err k

-- one after the other, where the second may depend on what the first read
module _ {A B : Type 0} {img : List ℕ} {p : List ℕ → Parsed A} (k : A → List ℕ → Parsed B) {at : ℕ} where
  pub read-then : {a : A} {m : ℕ} {r : Result (B × ℕ) Fault} → Reads img p at (Ok (a, m)) → Reads img (k a) m r → Reads img (λ s. bind (p s) k) at r
  read-then h g = record { same = rw (h.same) g.same; within = g.within }

  -- a stop is handed on
  pub read-stop : {f : Fault} → Reads img p at (Err f) → Reads img (λ s. bind (p s) k) at (Err f)
  read-stop h = record { same = rw (h.same); within = tt }

pub read-end : {A : Type 0} {img : List ℕ} {a : A} {m : ℕ} → m ≤ length img → Reads img (λ s. got a s) m (Ok (a, m))
read-end w = record { same = refl; within = w }

-- what was read is at most what it may be
pub number-most : {img : List ℕ} {most at n m : ℕ} {o : Result (ℕ × ℕ) Fault} → Reads img (number_read most) at o → o ≡ Ok (n, m) → n ≤ most
number-most {img} {most} {at} {n} {m} h d = (number-forth most (drop at img) n (drop m img) (rw d at h).same).1

pub read-in : {A : Type 0} {img : List ℕ} {p : List ℕ → Parsed A} {at : ℕ} {a : A} {m : ℕ} {o : Result (A × ℕ) Fault} → Reads img p at o → o ≡ Ok (a, m) → m ≤
    length img
read-in h d = (rw d at h).within

-- ---- a time

module _ {img : List ℕ} {at : ℕ} {o : Result (ℕ × ℕ) Fault} (h : Reads img (number_read edge) at o) where
  pub time-stop : {f : Fault} {r : Result (Time × ℕ) Fault} → o ≡ Err f → r ≡ Err f → Reads img time.read at r
  unfolding time
  time-stop d e = rw e (read-stop _ (read-stop _ (read-stop _ (rw d at h))))

  module _ {a middle : ℕ} (d : o ≡ Ok (a, middle)) {u : Result (ℕ × ℕ) Fault} (k : Reads img (number_read 999999999) middle u) where
    pub time-half : {f : Fault} {r : Result (Time × ℕ) Fault} → u ≡ Err f → r ≡ Err f → Reads img time.read at r
    unfolding time
    time-half c e =
        let g = rw d at h in
        rw e (read-stop _ (read-then _ (read-then _ g (read-end g.within)) (read-stop _ (rw c at k))))

    pub time-whole : {b next : ℕ} {s : ℤ} → u ≡ Ok (b, next) → s ≡ unzigzag a → Reads img time.read at (Ok (record { seconds = s; nanos = b }, next))
    unfolding time
    time-whole c e =
        let g = rw d at h in
        let l = rw c at k in
        rw e (read-then _ (read-then _ (read-then _ g (read-end g.within)) (read-then _ l (read-end l.within))) (read-end l.within))

pub ruleset times = (time-stop, time-half, time-whole, number-most, handed)

-- ---- a text, from its length

-- a slice holds bytes
pub slice-bytes : (s : List ℕ) → ((i : ℕ) → Fits w8 (get_or s i 0)) → Bytes s
slice-bytes [] f = tt
slice-bytes (b ∷ s) f = ((f 0).fits, slice-bytes s (λ i. f (suc i)))

bytes_drop : (n : ℕ) (s : List ℕ) → Bytes s → Bytes (drop n s)
bytes_drop zero s h = h
bytes_drop (suc n) [] h = tt
bytes_drop (suc n) (b ∷ s) h = bytes_drop n s h.1

bytes_take : (n : ℕ) (s : List ℕ) → Bytes s → Bytes (take n s)
bytes_take zero s h = tt
bytes_take (suc n) [] h = tt
bytes_take (suc n) (b ∷ s) h = (h.0, bytes_take n s h.1)

module _ {img : List ℕ} {at : ℕ} (least most : ℕ) {o : Result (ℕ × ℕ) Fault} (h : Reads img (number_read most) at o) where
  pub text-stop : {f : Fault} {r : Result (Part × ℕ) Fault} → o ≡ Err f → r ≡ Err f → ReadsPart img (text-read least most) at r
  unfolding text-read
  text-stop d e = let g = rw d at h in rw e (record { same = rw (g.same); within = tt })

  module _ {n q : ℕ} (d : o ≡ Ok (n, q)) where
    pub text-small : n < least → ReadsPart img (text-read least most) at (Err Malformed)
    unfolding text-read
    text-small l = let g = rw d at h in record { same = rw (g.same, lt-leb least n l); within = tt }

    pub text-ended : least ≤ n → length img - q < n → ReadsPart img (text-read least most) at (Err Ended)
    unfolding text-read
    text-ended l k = let g = rw d at h in record { same = rw (g.same, le-leb least n l, lt-leb n (length (drop q img)) (rw length-drop k)); within = tt }

    pub text-whole : ((i : ℕ) → Fits w8 (get_or img i 0)) → least ≤ n → n ≤ length img - q
        → ReadsPart img (text-read least most) at (Ok (record { start = q; «length» = n }, q + n))
    unfolding text-read
    text-whole f l k =
        let g = rw d at h in
        let b = slice-bytes img f in
        record {
          same =
              rw (
                g.same,
                le-leb least n l,
                le-leb n (length (drop q img)) (rw length-drop k),
                all-bytes (take n (drop q img))
                    (bytes_take n (drop q img) (bytes_drop q img b)),
                drop-drop n q img,
              );
          within = (omega (arith, g.within), refl);
        }

pub ruleset texts = (text-stop, text-small, text-ended, text-whole, handed)
