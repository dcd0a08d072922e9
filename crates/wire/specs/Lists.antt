-- Document 01: "Every list has its count first; rising means strictly, names by bytes, so nothing stands twice."
-- "Counts below 2^32." A rising list is a map; each key is judged as soon as it is read, before what stands under it.
use Rattle.std.specs.Prelude.{ℕ, zero, suc, ◌≤◌, ◌≡◌, refl, Bool, true, false, leb, length, None, Option, Some}
use Rattle.std.proofs.Common.{arith}
use mathlib.Core.List.{List, [], ◌∷◌, ◌++◌, append_assoc}
use Rattle.wire.specs.Parse.{Parsed, fault, got, bind, Extends, bind-extends}
use Rattle.wire.specs.Codec.{Codec, Bytes, plain-append}
use Rattle.wire.specs.Combinators.{◌then◌, only, tagged}
use Rattle.wire.specs.Number.{edge, number_to}
use Rattle.wire.specs.Order.{Order}
use Rattle.wire.specs.Rows.{Under, Rising}
use Rattle.wire.specs.Maps.{Map, as_map, as_map-rows}
use Rattle.wire.specs.declared.fault.Fault.TheVariants.{Malformed}
use Rattle.std.specs.declared.cmp.Ordering.{Ordering}
use Rattle.std.specs.declared.cmp.Ordering.TheVariants.{Less, Equal, Greater}

-- n in a row, each read by what is known after the one before it
module _ {A S : Type 0} (c : S → Codec A) (next : S → A → S) where
  abbrev pub chain_read : ℕ → S → List ℕ → Parsed (List A)
  chain_read zero st s = got [] s
  chain_read (suc n) st s = bind ((c st).read s) (λ a r. bind (chain_read n (next st a) r) (λ l q. got (a ∷ l) q))

  abbrev pub chain_write : S → List A → List ℕ
  chain_write st [] = []
  chain_write st (a ∷ l) = (c st).write a ++ chain_write (next st a) l

  abbrev pub All : S → List A → Type 0
  All st [] = Unit {0}
  All st (a ∷ l) = (c st).Fits a × All (next st a) l

  pub chain_back : (n : ℕ) (st : S) (l : List A) (r : List ℕ) → (length l ≡ n) × All st l → chain_read n st (chain_write st l ++ r) ≡ got l r
  chain_back zero st [] r h = refl
  chain_back zero st (a ∷ l) r h = absurd (let z : suc (length l) ≡ 0 = h.0 in omega arith)
  chain_back (suc n) st [] r h = absurd (let z : 0 ≡ suc n = h.0 in omega arith)
  chain_back (suc n) st (a ∷ l) r h =
      let z : suc (length l) ≡ suc n = h.0 in
      rw (append_assoc, (c st).back a (chain_write (next st a) l ++ r) h.1.0, chain_back n (next st a) l r (omega arith, h.1.1))

  pub chain-steady : (n : ℕ) (st : S) (s t : List ℕ) → Extends t (chain_read n st s) (chain_read n st (s ++ t))
  chain-steady zero st s t = refl
  chain-steady (suc n) st s t =
      bind-extends t ((c st).read s) ((c st).read (s ++ t)) _ ((c st).steady s t) (λ a r.
      bind-extends t (chain_read n (next st a) r) (chain_read n (next st a) (r ++ t)) _ (chain-steady n (next st a) r t) (λ l q. refl))

  pub chain-plain : (st : S) (l : List A) → All st l → Bytes (chain_write st l)
  chain-plain st [] h = tt
  chain-plain st (a ∷ l) h = plain-append ((c st).write a) (chain_write (next st a) l) ((c st).plain a h.0) (chain-plain (next st a) l h.1)

  abbrev pub chain : S → ℕ → Codec (List A)
  chain st n = record {
    read = chain_read n st;
    write = chain_write st;
    Fits = λ l. (length l ≡ n) × All st l;
    back = chain_back n st;
    steady = chain-steady n st;
    plain = λ l h. chain-plain st l h.1;
  }

-- each of a list
abbrev pub Every : {A : Type 0} → (A → Type 0) → List A → Type 0
Every P [] = Unit {0}
Every P (a ∷ l) = P a × Every P l

-- n of c
abbrev pub many : {A : Type 0} → Codec A → ℕ → Codec (List A)
many c n = chain {S = Unit {0}} (λ _. c) (λ _ _. tt) tt n

-- a count of at most `most`, and as many elements as it says; `refl` says that 64 bits hold `most`
abbrev pub counted : {A : Type 0} (most : ℕ) → leb most edge ≡ true → Codec A → Codec (List A)
counted most e c = tagged (number_to most e) length (many c) (λ n l h. h.0)

-- the count of a list that has no other limit
abbrev pub last_count : ℕ
last_count = 4294967295

-- ---- rising lists

abbrev pub is_less : Ordering → Bool
is_less Less = true
is_less Equal = false
is_less Greater = false

-- k is after the key before it, if there is one
abbrev pub after : {K : Type 0} → Order K → Option K → K → Bool
after O None k = true
after O (Some p) k = is_less (O.cmp p k)

module _ {K A : Type 0} (O : Order K) (key : Codec K) (value : Codec A) where
  -- a row, after the key `prev`
  abbrev pub row : Option K → Codec (K × A)
  row prev = only (after O prev) key then value

  abbrev pub onto : Option K → K × A → Option K
  onto prev e = Some e.0

  -- the key fits, and what stands under it
  abbrev pub FitsRow : K × A → Type 0
  FitsRow e = key.Fits e.0 × value.Fits e.1

  -- every key is above `prev`
  abbrev pub Above : Option K → List (K × A) → Type 0
  Above None l = Unit {0}
  Above (Some p) l = Under O p l

  above-after : (prev : Option K) (e : K × A) (l : List (K × A)) → Above prev (e ∷ l) → after O prev e.0 ≡ true
  above-after None e l u = refl
  above-after (Some p) e l u = rw u.0

  rising-all : (prev : Option K) (l : List (K × A)) → Above prev l → Rising O l → Every FitsRow l → All row onto prev l
  rising-all prev [] u r h = tt
  rising-all prev (e ∷ l) u r h =
      (((h.0.0, above-after prev e l u), h.0.1), rising-all (Some e.0) l r.0 r.1 h.1)

  -- a count of at most `most`, and as many rows, whose keys rise; `refl` says that 64 bits hold `most`
  module _ (most : ℕ) (limit : leb most edge ≡ true) where
    abbrev pub rows : Codec (List (K × A))
    rows = tagged (number_to most limit) length (chain row onto None) (λ n l h. h.0)

    -- rows that rise are a map; others are not read
    abbrev pub mapped : Option (Map O A) → List ℕ → Parsed (Map O A)
    mapped None r = fault Malformed
    mapped (Some m) r = got m r

    unfoldable pub rising-read : List ℕ → Parsed (Map O A)
    rising-read s = bind (rows.read s) (λ l r. mapped (as_map O l) r)

    abbrev pub FitsMap : Map O A → Type 0
    FitsMap m = (length m.rows ≤ most) × Every FitsRow m.rows

    pub rows_fit : (m : Map O A) → FitsMap m → rows.Fits m.rows
    rows_fit m h = (h.0, (refl, rising-all None m.rows tt m.rising h.1))

    pub rising-back : (m : Map O A) (r : List ℕ) → FitsMap m → rising-read (rows.write m.rows ++ r) ≡ got m r
    unfolding rising-read
    rising-back m r h = rw (rows.back m.rows r (rows_fit m h), as_map-rows O m)

    mapped-extends : (t : List ℕ) (o : Option (Map O A)) (r : List ℕ) → Extends t (mapped o r) (mapped o (r ++ t))
    mapped-extends t None r = refl
    mapped-extends t (Some m) r = refl

    pub rising-steady : (s t : List ℕ) → Extends t (rising-read s) (rising-read (s ++ t))
    unfolding rising-read
    rising-steady s t = bind-extends t (rows.read s) (rows.read (s ++ t)) _ (rows.steady s t) (λ l r. mapped-extends t (as_map O l) r)

    abbrev pub rising : Codec (Map O A)
    rising = record {
      read = rising-read;
      write = λ m. rows.write m.rows;
      Fits = FitsMap;
      back = rising-back;
      steady = rising-steady;
      plain = λ m h. rows.plain m.rows (rows_fit m h);
    }
