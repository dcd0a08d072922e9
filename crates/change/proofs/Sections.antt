-- The sections of an image that may be used are what is written of its store.
-- Assumes nothing.
use mathlib.Core.Path.{◌≡◌, refl, sym, ap, ◌∙◌}
use mathlib.Core.List.{List, [], ◌++◌, append-nil, append_assoc}
use Prim.Native.Nat.{ℕ, ◌+◌, ◌-◌, ◌≤◌}
use native.Mathlib.Omega.{arith}
use lib.ListN.{length, drop, length-append, length-drop, drop_of_length-le}
use lib.Seq.{take_at, drop-drop, drop-append_seam}
use Rattle.std.specs.Prelude.{Result, Ok, Err, IsOk, is_ok, true}
use Rattle.std.specs.Result.{result_unwrap_or}
use Rattle.wire.specs.declared.fault.Fault.{Fault}
use Rattle.wire.specs.Parse.{Parsed, fault, got, never-got}
use Rattle.wire.specs.Codec.{Codec}
use Rattle.wire.specs.Reading.{Reads, said, next_in, meant}
use Rattle.image.specs.Meaning.{Store}
use Rattle.image.specs.NodeLayout.{node, base}
use Rattle.image.specs.RecordLayout.{layer_record, records}
use Rattle.image.specs.StoreLayout.{batches, store}
use Rattle.image.specs.Fits.{FitsStore}
use Rattle.image.specs.Places.{Ends}
use Rattle.survey.specs.Survey.{Surveys}
use Rattle.image.specs.RoundTrip.{read_image, write_image}
use Rattle.image.proofs.RoundTrip.{read-then-write, read_fits}
use Rattle.survey.specs.declared.store.Survey.{Survey}
use Rattle.survey.specs.declared.refusal.Refusal.{Refusal}
use Rattle.survey.specs.Verdict.{Judges}
use Rattle.wire.proofs.Readers.{handed}
use Rattle.rules.proofs.Asked.{verdict-fine}
use Rattle.writers.specs.Tails.{tail}
use Rattle.change.specs.Sections.{between, Spans, tail_of, Stands, Opens, OpensInode}
use Rattle.survey.specs.declared.store.Sections.{Sections}
use Rattle.stack.specs.declared.stack.Stack.{Stack}
use Rattle.stack.proofs.Opening.{opens-stack}

-- ---- bytes that stand in an image

module _ {img : List ℕ} {n q : ℕ} {bytes : List ℕ} (w : Spans img n bytes q) where
  -- a copy of them
  pub span-part : between img n q ≡ bytes
  span-part = rw w.is (take_at bytes (drop q img) (q - n) (omega (arith, w.ends)))

-- the first of two, and the second
module _ {img : List ℕ} {n q : ℕ} (xs ys : List ℕ) (w : Spans img n (xs ++ ys) q) where
  pub span-back : Spans img (n + length xs) ys q
  span-back = record {
    is = sym (drop-drop (length xs) n img) ∙ ap (drop (length xs)) (w.is ∙ append_assoc xs ys (drop q img)) ∙ drop-append_seam xs (ys ++ drop q img);
    ends = omega (arith, w.ends, length-append xs ys);
    within = w.within;
  }

  pub span-front : Spans img n xs (n + length xs)
  span-front = record {
    is = w.is ∙ append_assoc xs ys (drop q img) ∙ ap (λ (t : List ℕ). xs ++ t) (sym span-back.is);
    ends = refl;
    within = omega (arith, w.ends, w.within, length-append xs ys);
  }

-- two, one after the other
pub span-both : {img : List ℕ} {n m q : ℕ} {xs ys : List ℕ} → Spans img n xs m → Spans img m ys q → Spans img n (xs ++ ys) q
span-both {img} {n} {m} {q} {xs} {ys} a b = record {
  is = a.is ∙ ap (λ (t : List ℕ). xs ++ t) b.is ∙ sym (append_assoc xs ys (drop q img));
  ends = omega (arith, a.ends, b.ends, length-append xs ys);
  within = b.within;
}

-- bytes at the end of an image
span_last : (img : List ℕ) {bytes : List ℕ} (n : ℕ) → n ≤ length img → drop n img ≡ bytes → Spans img n bytes (length img)
span_last img {bytes} n h e = record {
  is = e ∙ sym (append-nil bytes) ∙ ap (λ (t : List ℕ). bytes ++ t) (sym (drop_of_length-le img {i = length img} (omega arith)));
  ends = omega (arith, length-drop n img, ap length e);
  within = omega arith;
}

-- places with the same bytes after them
same_place : (img : List ℕ) {m q : ℕ} → m ≤ length img → q ≤ length img → drop m img ≡ drop q img → m ≡ q
same_place img {m} {q} h k e = omega (arith, length-drop m img, length-drop q img, ap length e)

pub same_Ok : {A E : Type 0} {x y : A} → ◌≡◌ {A = Result A E} (Ok x) (Ok y) → x ≡ y
same_Ok {A} {E} {x} e = ap (λ (o : Result A E). result_unwrap_or o x) e

-- what a reader finds where this was to be read
pub reads-got : {A : Type 0} (img : List ℕ) {p : List ℕ → Parsed A} {n q : ℕ} {a : A} {o : Result (A × ℕ) Fault}
    → p (drop n img) ≡ got a (drop q img) → q ≤ length img
    → Reads img p n o → o ≡ Ok (a, q)
reads-got {A} img {q = q} {a} {o} d h r = go o (sym d ∙ r.same) r.within
  where
    go : (o : Result (A × ℕ) Fault) → got a (drop q img) ≡ said img o → next_in img o → o ≡ Ok (a, q)
    go (Ok x) e w =
        let z : drop q img ≡ drop x.1 img = cc in
        let y : x.0 ≡ a = cc in
        ap Ok (λ j. (y j, same_place img w h (sym z) j))
    go (Err f) e w = never-got (sym e)

-- so the reader doesn't stop
pub meant-ok : {X A : Type 0} (m : X → A) (o : Result (X × ℕ) Fault) {y : A × ℕ} → meant m o ≡ Ok y → IsOk o
meant-ok {X} m o e = go o (ap is_ok e)
  where
    go : (o : Result (X × ℕ) Fault) → is_ok (meant m o) ≡ true → IsOk o
    go (Ok x) e = refl
    go (Err f) e = e

pub meant-is : {X A : Type 0} (m : X → A) {o : Result (X × ℕ) Fault} {y : A × ℕ} {x : X × ℕ} → meant m o ≡ Ok y → o ≡ Ok x → ◌≡◌ {A = A × ℕ} (m x.0, x.1) y
meant-is m {x = x} e d = same_Ok (sym (ap (meant m) d) ∙ e)

-- or where a construct was written
pub span-reads : {A : Type 0} {img : List ℕ} (c : Codec A) {n q : ℕ} {a : A} {o : Result (A × ℕ) Fault} → Spans img n (c.write a) q → c.Fits a
    → Reads img c.read n o → o ≡ Ok (a, q)
span-reads {img = img} c {q = q} {a} w f r = reads-got img (ap c.read w.is ∙ c.back a (drop q img) f) w.within r

-- the same of a reader by value
module _ {X A : Type 0} {img : List ℕ} (c : Codec A) (m : X → A) {n q : ℕ} {a : A} (o : Result (X × ℕ) Fault) (w : Spans img n (c.write a) q) (f : c.Fits a)
    (r : Reads img c.read n (meant m o)) where
  pub span-ok : IsOk o
  span-ok = meant-ok m o (span-reads c w f r)

  pub span-value : {x : X × ℕ} → o ≡ Ok x → m x.0 ≡ a
  span-value d = ap (λ (x : A × ℕ). x.0) (meant-is m (span-reads c w f r) d)

-- what was read is the answer, whatever would be answered if it weren't
pub value-is : {A E : Type 0} {o : Result A E} {x y : A} (d : A) → o ≡ Ok y → x ≡ result_unwrap_or o d → x ≡ y
value-is d e z = z ∙ ap (λ o. result_unwrap_or o d) e

pub value-ok : {A E : Type 0} {o : Result A E} {x y : A} (d : A) → o ≡ Ok y → x ≡ result_unwrap_or o d → o ≡ Ok x
value-ok d e z = e ∙ ap Ok (sym (value-is d e z))

-- what is passed where a construct was written, with these bytes after it
pub record Past (img : List ℕ) (n : ℕ) (bytes : List ℕ) (t : List ℕ) (place : ℕ) : Type 0 where
  pub spans : Spans img n bytes place
  pub rest : drop place img ≡ t

module _ {A : Type 0} {img : List ℕ} (c : Codec A) {a : A} {t : List ℕ} where
  pub past-at : (n : ℕ) {q : ℕ} → n ≤ length img → c.Fits a → drop n img ≡ c.write a ++ t → Ends img c.read n (Ok q) → Past img n (c.write a) t q
  past-at n {q} h f d e =
      let s : ◌≡◌ {A = Parsed (Unit {0})} (got tt t) (got tt (drop q img)) = rw (d, c.back a t f) at e.same in
      let z : t ≡ drop q img = cc in
      record {
        spans = record {
          is = d ∙ ap (λ (u : List ℕ). c.write a ++ u) z;
          ends = omega (arith, ap length z, length-drop q img, length-drop n img, ap length d, length-append (c.write a) t);
          within = e.within;
        };
        rest = sym z;
      }

  pub ends-past : (n : ℕ) {o : Result ℕ Fault} → n ≤ length img → c.Fits a → drop n img ≡ c.write a ++ t → Ends img c.read n o
      → (q : ℕ) × (o ≡ Ok q) × Past img n (c.write a) t q
  ends-past n {o} h f d e = go o e
    where
      go : (o : Result ℕ Fault) → Ends img c.read n o → (q : ℕ) × (o ≡ Ok q) × Past img n (c.write a) t q
      go (Ok q) e = (q, refl, past-at n h f d e)
      go (Err y) e = let s : ◌≡◌ {A = Parsed (Unit {0})} (got tt t) (fault y) = rw (d, c.back a t f) at e.same in never-got (sym s)

-- ---- the sections

-- an image is its sections, one after the other
pub store_bytes : (s : Store) → write_image s ≡ base.write s.base ++ (batches.write s.batches ++ (records.write s.live ++ tail.write (tail_of s)))
unfolding store
store_bytes s = refl

module _ {img : List ℕ} {i : ℕ} {r : Survey} {s : Store} (w : Surveys img i r) (short : length img ≤ 65536) (e : read_image img ≡ got s []) where
  fits : FitsStore s
  fits = read_fits img s e

  pub survey-stands : Stands img r.sections s
  unfolding node layer_record batches
  survey-stands =
      let b = past-at base {a = s.base} 0 (omega arith) fits.base (sym (read-then-write img s e) ∙ store_bytes s) w.base in
      let q = past-at batches {a = s.batches} r.sections.batches b.spans.within fits.batches b.rest w.batches in
      let l = past-at records {a = s.live} r.sections.live q.spans.within fits.live q.rest w.live in
      record { short = short; is = e; base = b.spans; batches = q.spans; live = l.spans; tail = span_last img r.sections.tail l.spans.within l.rest }

pub stands-fits : {img : List ℕ} {p : Sections} {s : Store} → Stands img p s → FitsStore s
stands-fits {img} {s = s} w = read_fits img s w.is

-- ---- the one pass

module _ {img : List ℕ} {i : ℕ} {o : Result Survey Refusal} (j : Judges img i o) where
  pub inode-opened : {r : Survey} → o ≡ Ok r → (k : Stack) → k.img.now ≡ img → k.places ≡ r.stack
      → OpensInode img i (Ok (r.sections, k))
  inode-opened d k a b =
      let g = rw d at j in
      let s = verdict-fine img (sym g.verdict) in
      record { verdict = g.verdict; sections = (s.0, survey-stands g.survey.surveys s.2 s.1); stack = (opens-stack j d k a b).stack }

  pub inode-unopened : {e : Refusal} {r : Result (Sections × Stack) Refusal} → o ≡ Err e → r ≡ Err e → OpensInode img i r
  inode-unopened d z = let k = rw d at j in rw z (record { verdict = k.verdict; sections = tt; stack = tt })

module _ {img : List ℕ} {i : ℕ} {o : Result (Sections × Stack) Refusal} (j : OpensInode img i o) where
  pub sections-opened : {p : Sections} {k : Stack} → o ≡ Ok (p, k) → Opens img (Ok p)
  sections-opened d = let k = rw d at j in record { verdict = k.verdict; sections = k.sections }

  pub sections-unopened : {e : Refusal} {r : Result Sections Refusal} → o ≡ Err e → r ≡ Err e → Opens img r
  sections-unopened d z = let k = rw d at j in rw z (record { verdict = k.verdict; sections = tt })

pub ruleset opens = (inode-opened, inode-unopened, sections-opened, sections-unopened, handed)
