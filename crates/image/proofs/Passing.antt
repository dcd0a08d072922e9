-- How passing over constructs is put together. A construct that stops stays stopped, for the same fault.
-- Assumes nothing.
use mathlib.Core.Path.{◌≡◌, refl, sym, ap, ◌∙◌}
use mathlib.Core.Bool.{true}
use mathlib.Core.List.{List, ◌∷◌}
use Rattle.std.specs.Prelude.{Result, Ok, Err, None, Option, Some}
use Rattle.wire.specs.declared.part.Part.{Part}
use Prim.Native.Nat.{ℕ, zero, suc, ◌-◌, ◌≤◌, ◌<◌}
use native.Mathlib.Omega.{arith}
use lib.Dec.{leb}
use lib.ListN.{length, drop}
use Rattle.wire.specs.declared.fault.Fault.{Fault}
use Rattle.wire.specs.Parse.{Parsed, fault, got, bind, never-got}
use Rattle.wire.specs.Codec.{Codec, OneForm}
use Rattle.wire.specs.Combinators.{only, opt-read}
use Rattle.wire.specs.Number.{edge}
use Rattle.wire.specs.Order.{Order}
use Rattle.wire.specs.Maps.{Map, as_map-rows}
use Rattle.wire.specs.Lists.{after, row, rows, rising, rising-read}
use Rattle.wire.specs.Reading.{Reads, ReadsPart, part}
use Rattle.wire.proofs.ListForms.{rows-one, all-rising}
use Rattle.wire.proofs.Readers.{number-most, read-in, handed}
use Rattle.image.specs.Places.{passed, Ends, rows_from, last_of}
use Rattle.image.specs.Rows.{ReadsRows, counted}
use Rattle.image.specs.declared.rows.Rows.{Rows}

module _ {A : Type 0} {img : List ℕ} {p : List ℕ → Parsed A} {at : ℕ} where
  -- what was read was passed
  pub ends-read : {o : Result (A × ℕ) Fault} {a : A} {m : ℕ} → Reads img p at o → o ≡ Ok (a, m) → Ends img p at (Ok m)
  ends-read h d = let g = rw d at h in record { same = rw (g.same); within = g.within }

  -- a stop is handed on
  pub ends-unread : {o : Result (A × ℕ) Fault} {r : Result ℕ Fault} {f : Fault} → Reads img p at o → o ≡ Err f → r ≡ Err f → Ends img p at r
  ends-unread h d e = let g = rw d at h in rw e (record { same = rw (g.same); within = tt })

  -- what was passed
  pub ends-got : {q : ℕ} → Ends img p at (Ok q) → (a : A) × (p (drop at img) ≡ got a (drop q img))
  ends-got {q} h = go (p (drop at img)) refl h.same
    where
      go : (o : Parsed A) → p (drop at img) ≡ o → passed o ≡ got tt (drop q img) → (a : A) × (p (drop at img) ≡ got a (drop q img))
      go (fault f) e d = never-got d
      go (got a r) e d = let z : r ≡ drop q img = cc in (a, e ∙ ap (got a) z)

  pub ends-fault : {f : Fault} → Ends img p at (Err f) → p (drop at img) ≡ fault f
  ends-fault {f} h = go (p (drop at img)) h.same
    where
      go : (o : Parsed A) → passed o ≡ fault f → o ≡ fault f
      go (fault g) d = cc
      go (got a r) d = never-got (sym d)

-- a text is a part of the image
module _ {img : List ℕ} {p : List ℕ → Parsed (List ℕ)} {at : ℕ} {o : Result (Part × ℕ) Fault} (h : ReadsPart img p at o) where
  pub part-read : {t : Part} {m : ℕ} → o ≡ Ok (t, m) → Reads img p at (Ok (part img t.start t.length, m))
  part-read d = let g = rw d at h in record { same = g.same; within = omega (arith, g.within.0, g.within.1) }

  pub part-unread : {f : Fault} → o ≡ Err f → Reads img p at (Err f)
  part-unread d = let g = rw d at h in record { same = g.same; within = tt }

  pub ends-text : {t : Part} {m : ℕ} → o ≡ Ok (t, m) → Ends img p at (Ok m)
  ends-text d = ends-read (part-read d) refl

  pub ends-no_text : {r : Result ℕ Fault} {f : Fault} → o ≡ Err f → r ≡ Err f → Ends img p at r
  ends-no_text d e = ends-unread (part-unread d) refl e

-- the same bytes, made another value
pub passed-made : {A B : Type 0} (f : A → B) (o : Parsed A) → passed (bind o (λ a r. got (f a) r)) ≡ passed o
passed-made f (fault y) = refl
passed-made f (got a r) = refl

module _ {A : Type 0} {img : List ℕ} {p : List ℕ → Parsed A} {at : ℕ} where
  pub ends-made : {B : Type 0} (f : A → B) {r : Result ℕ Fault} → Ends img p at r → Ends img (λ s. bind (p s) (λ a r. got (f a) r)) at r
  ends-made f h = record { same = passed-made f (p (drop at img)) ∙ h.same; within = h.within }

  module _ {B : Type 0} (k : A → List ℕ → Parsed B) where
    -- one after the other, where the second depends on what the first read
    pub ends-chosen : {o : Result (A × ℕ) Fault} {a : A} {m : ℕ} {r : Result ℕ Fault} → Reads img p at o → o ≡ Ok (a, m) → Ends img (k a) m r → Ends img
        (λ s. bind (p s) k) at r
    ends-chosen h d g = let i = rw d at h in record { same = rw (i.same) g.same; within = g.within }

    pub ends-unchosen : {o : Result (A × ℕ) Fault} {r : Result ℕ Fault} {f : Fault} → Reads img p at o → o ≡ Err f → r ≡ Err f → Ends img (λ s. bind (p s) k)
        at r
    ends-unchosen h d e = let i = rw d at h in rw e (record { same = rw (i.same); within = tt })

    -- where the first stops, nothing follows
    pub ends-stop : {o r : Result ℕ Fault} {f : Fault} → Ends img p at o → o ≡ Err f → r ≡ Err f → Ends img (λ s. bind (p s) k) at r
    ends-stop h d e = rw e (record { same = rw (ends-fault (rw d at h)); within = tt })

  -- one after the other
  module _ {B C : Type 0} (q : List ℕ → Parsed B) (f : A → B → C) where
    pub ends-then : {o r : Result ℕ Fault} {m : ℕ} → Ends img p at o → o ≡ Ok m → Ends img q m r
        → Ends img (λ s. bind (p s) (λ a r. bind (q r) (λ b t. got (f a b) t))) at r
    ends-then {m = m} h d g =
        let e = ends-got (rw d at h) in
        record { same = rw (e.1) (passed-made (f e.0) (q (drop m img)) ∙ g.same); within = g.within }

-- a field that is there, or not
module _ {A : Type 0} (p : List ℕ → Parsed A) {img : List ℕ} {bit at : ℕ} where
  pub ends-absent : bit ≡ 0 → at ≤ length img → Ends img (opt-read p bit) at (Ok at)
  unfolding opt-read
  ends-absent e w = rw e (record { same = refl; within = w })

  pub ends-present : {r : Result ℕ Fault} → (bit ≡ 0 → ⊥) → bit ≤ 1 → Ends img p at r → Ends img (opt-read p bit) at r
  unfolding opt-read
  ends-present n l h = let e : bit ≡ 1 = omega arith in rw e (ends-made Some h)

pub ruleset passes = (
  ends-read,
  ends-unread,
  ends-text,
  ends-no_text,
  ends-chosen,
  ends-unchosen,
  ends-then,
  ends-stop,
  ends-made,
  ends-absent,
  ends-present,
  number-most,
  read-in,
  handed,
)

-- ---- a list whose keys rise, one row at a time

one_less : (n : ℕ) → suc n - 1 ≡ n
one_less n = omega arith

module _ {K A : Type 0} (O : Order K) (key : Codec K) (value : Codec A) where
  abbrev key_after : Option K → List ℕ → Parsed K
  key_after prev = (only (after O prev) key).read

  later : (prev : Option K) (e : K × A) (o : Parsed (List (K × A))) → last_of prev (bind o (λ l r. got (e ∷ l) r)) ≡ last_of (Some e.0) o
  later prev e (fault f) = refl
  later prev e (got l r) = refl

  rows_step : (n : ℕ) (prev : Option K) (s r : List ℕ) {k : K} {v : A} → 0 < n → (row O key value prev).read s ≡ got (k, v) r
      → last_of prev (rows_from O key value n prev s) ≡ last_of (Some k) (rows_from O key value (n - 1) (Some k) r)
  rows_step zero prev s r h e = absurd (omega arith)
  rows_step (suc n) prev s r {k} {v} h e = rw (e, one_less n) (later prev (k, v) (rows_from O key value n (Some k) r))

  module _ {img : List ℕ} {here n : ℕ} (prev : Option K) (h : 0 < n) where
    rows-unkeyed : {f : Fault} → Reads img (key_after prev) here (Err f) → last_of prev (rows_from O key value n prev (drop here img)) ≡ fault f
    rows-unkeyed {f} a = go n h
      where
        go : (n : ℕ) → 0 < n → last_of prev (rows_from O key value n prev (drop here img)) ≡ fault f
        go zero h = absurd (omega arith)
        go (suc n) h = rw (a.same)

    module _ {k : K} {m : ℕ} (a : Reads img (key_after prev) here (Ok (k, m))) where
      rows_on : {q : ℕ} → Ends img value.read m (Ok q) → last_of prev (rows_from O key value n prev (drop here img)) ≡ last_of (Some k)
          (rows_from O key value (n - 1) (Some k) (drop q img))
      rows_on {q} b = let g = ends-got b in rows_step n prev (drop here img) (drop q img) {k = k} {v = g.0} h (rw (a.same, g.1))

      rows-fault : {f : Fault} → Ends img value.read m (Err f) → last_of prev (rows_from O key value n prev (drop here img)) ≡ fault f
      rows-fault {f} b = go n h
        where
          go : (n : ℕ) → 0 < n → last_of prev (rows_from O key value n prev (drop here img)) ≡ fault f
          go zero h = absurd (omega arith)
          go (suc n) h = rw (a.same, ends-fault b)

  rows_none : (n : ℕ) (prev : Option K) (s : List ℕ) → n ≤ 0 → last_of prev (rows_from O key value n prev s) ≡ got prev s
  rows_none zero prev s h = refl
  rows_none (suc n) prev s h = absurd (omega arith)

  -- the rows that were read are a map
  module _ (most : ℕ) (limit : leb most edge ≡ true) (one_key : OneForm key) (one_value : OneForm value) where
    rising-passed : (s : List ℕ) (o : Parsed (List (K × A))) → (rows O key value most limit).read s ≡ o → passed (rising-read O key value most limit s) ≡
        passed o
    unfolding rising-read
    rising-passed s (fault f) e = rw e
    rising-passed s (got l r) e =
        let w = ((rows-one O key value one_key one_value most limit).forth s l r e).1 in
        let m : Map O A = record { rows = l; rising = (all-rising O key value None l w.1.1).1.0 } in
        rw (e, as_map-rows O m)

    pub ends-rising : {img : List ℕ} {at : ℕ} {next : Result ℕ Fault} → Ends img (rows O key value most limit).read at next
        → Ends img (rising O key value most limit).read at next
    ends-rising {img} {at} h =
        record { same = rising-passed (drop at img) ((rows O key value most limit).read (drop at img)) refl ∙ h.same; within = h.within }

    -- the count, and the rows after it
    pub ends-list : {img : List ℕ} {at : ℕ} {o : Result Rows Fault} {list : Rows} {r : Result ℕ Fault} → ReadsRows img most at o → o ≡ Ok list
        → Ends img (rows_from O key value list.count None) list.first r → Ends img (rising O key value most limit).read at r
    ends-list h d g = ends-rising (ends-chosen (λ n r. rows_from O key value n None r) h (ap counted d) g)

    pub ends-unlisted : {img : List ℕ} {at : ℕ} {o : Result Rows Fault} {r : Result ℕ Fault} {f : Fault} → ReadsRows img most at o → o ≡ Err f → r ≡ Err f
        → Ends img (rising O key value most limit).read at r
    ends-unlisted h d e = ends-rising (ends-unchosen (λ n r. rows_from O key value n None r) h (ap counted d) e)

last-passed : {K A : Type 0} (prev : Option K) {last : Option K} (o : Parsed (List (K × A))) {r : List ℕ} → last_of prev o ≡ got last r → passed o ≡ got tt r
last-passed prev (fault f) e = never-got e
last-passed prev (got l q) e = cc

last-fault : {K A : Type 0} (prev : Option K) (o : Parsed (List (K × A))) {f : Fault} → last_of prev o ≡ fault f → passed o ≡ fault f
last-fault prev (fault g) e = cc
last-fault prev (got l q) e = never-got (sym e)

-- The loop over the rows has come to `here`, where `left` are left after the key `prev`.
pub record Passed {K A : Type 0} (O : Order K) (key : Codec K) (value : Codec A) (img : List ℕ) (first n : ℕ) (prev : Option K) (here left : ℕ) : Type 0 where
  pub same : last_of None (rows_from O key value n None (drop first img)) ≡ last_of prev (rows_from O key value left prev (drop here img))
  pub within : here ≤ length img

module _ {K A : Type 0} {O : Order K} {key : Codec K} {value : Codec A} {img : List ℕ} {first n : ℕ} where
  pub passed_start : {left : ℕ} → first ≤ length img → left ≡ n → Passed O key value img first n None first left
  passed_start h e = rw e (record { same = refl; within = h })

  module _ {prev : Option K} {here left : ℕ} (p : Passed O key value img first n prev here left) where
    -- the last key
    pub passed-last : left ≤ 0 → last_of None (rows_from O key value n None (drop first img)) ≡ got prev (drop here img)
    passed-last h = p.same ∙ rows_none O key value left prev (drop here img) h

    pub passed-all : left ≤ 0 → Ends img (rows_from O key value n None) first (Ok here)
    passed-all h = record { same = last-passed None (rows_from O key value n None (drop first img)) (passed-last h); within = p.within }

    module _ (h : 0 < left) {o : Result (K × ℕ) Fault} (a : Reads img (only (after O prev) key).read here o) where
      stop : {r : Result ℕ Fault} {f : Fault} → last_of prev (rows_from O key value left prev (drop here img)) ≡ fault f → r ≡ Err f
          → Ends img (rows_from O key value n None) first r
      stop d e = rw e (record { same = last-fault None (rows_from O key value n None (drop first img)) (p.same ∙ d); within = tt })

      -- the key stops
      pub passed-unkeyed : {r : Result ℕ Fault} {f : Fault} → o ≡ Err f → r ≡ Err f → Ends img (rows_from O key value n None) first r
      passed-unkeyed d e = stop (rows-unkeyed O key value prev h (rw d at a)) e

      module _ {k : K} {m : ℕ} (d : o ≡ Ok (k, m)) {u : Result ℕ Fault} (b : Ends img value.read m u) where
        -- what stands under it stops
        pub passed-stop : {r : Result ℕ Fault} {f : Fault} → u ≡ Err f → r ≡ Err f → Ends img (rows_from O key value n None) first r
        passed-stop c e = stop (rows-fault O key value prev h (rw d at a) (rw c at b)) e

        pub passed_on : {q rest : ℕ} → u ≡ Ok q → rest ≡ left - 1 → Passed O key value img first n (Some k) q rest
        passed_on c e = let g = rw c at b in rw e (record { same = p.same ∙ rows_on O key value prev h (rw d at a) g; within = g.within })

pub ruleset passes_rows = (passed_start, passed-all, passed-unkeyed, passed-stop, passed_on, part-read, part-unread, handed)
