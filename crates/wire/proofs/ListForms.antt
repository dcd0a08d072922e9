-- Each list has one form, and what was read as a rising list rises.
-- Assumes nothing.
use Rattle.std.specs.Prelude.{ℕ, zero, suc, ◌≤◌, ◌≡◌, refl, true, leb, length, None, Option, Some}
use Rattle.std.proofs.Math.Path.{sym, ap, subst}
use Rattle.std.proofs.Common.{◌∙◌}
use mathlib.Core.List.{List, [], ◌∷◌, ◌++◌, append_assoc}
use Rattle.wire.specs.Parse.{got, bind, never-got, bind_inv}
use Rattle.wire.specs.Codec.{Codec, OneForm}
use Rattle.wire.specs.Combinators.{only}
use Rattle.wire.specs.Number.{edge, number_to}
use Rattle.wire.specs.Order.{Order}
use Rattle.wire.specs.Rows.{Under, Rising}
use Rattle.wire.specs.RowLaws.{under-below}
use Rattle.wire.specs.Maps.{Map, as_map, rows-as_map}
use Rattle.wire.specs.Lists.{chain_read, chain_write, All, chain, Every, many, counted, is_less, after, row, onto, FitsRow, Above, rows, mapped, rising-read, FitsMap, rising}
use Rattle.wire.proofs.OneForm.{then-one, only-one, tagged-one}
use Rattle.wire.proofs.NumberForms.{number_to-one}
use Rattle.std.specs.declared.cmp.Ordering.{Ordering}
use Rattle.std.specs.declared.cmp.Ordering.TheVariants.{Less, Equal, Greater}

-- n in a row, each read by what is known after the one before it
module _ {A S : Type 0} (c : S → Codec A) (next : S → A → S) (one : (st : S) → OneForm (c st)) where
  pub chain-forth : (n : ℕ) (st : S) (s : List ℕ) (l : List A) (r : List ℕ) → chain_read c next n st s ≡ got l r
      → (s ≡ chain_write c next st l ++ r) × ((length l ≡ n) × All c next st l)
  chain-forth zero st s l r e =
      let el : [] ≡ l = cc in
      let er : s ≡ r = cc in
      subst (λ (y : List A). (s ≡ chain_write c next st y ++ r) × ((length y ≡ 0) × All c next st y)) el (er, (refl, tt))
  chain-forth (suc n) st s l r e =
      let i = bind_inv ((c st).read s) (λ a r. bind (chain_read c next n (next st a) r) (λ l q. got (a ∷ l) q)) e in
      let j = bind_inv (chain_read c next n (next st i.0) i.1) (λ l q. got (i.0 ∷ l) q) i.3 in
      let e1 : got (i.0 ∷ j.0) j.1 ≡ got l r = j.3 in
      let el : i.0 ∷ j.0 ≡ l = cc in
      let er : j.1 ≡ r = cc in
      let f = (one st).forth s i.0 i.1 i.2 in
      let g = chain-forth n (next st i.0) i.1 j.0 j.1 j.2 in
      subst (λ (y : List A). (s ≡ chain_write c next st y ++ r) × ((length y ≡ suc n) × All c next st y)) el (
        rw append_assoc (f.0 ∙ ap (λ (l : List ℕ). (c st).write i.0 ++ l) (g.0 ∙ ap (λ (l : List ℕ). chain_write c next (next st i.0) j.0 ++ l) er)),
        (ap suc g.1.0, (f.1, g.1.1)),
      )

  pub chain-one : (st : S) (n : ℕ) → OneForm (chain c next st n)
  chain-one st n = record { forth = chain-forth n st }

pub many-one : {A : Type 0} (c : Codec A) (n : ℕ) → OneForm c → OneForm (many c n)
many-one c n one = chain-one {S = Unit {0}} (λ _. c) (λ _ _. tt) (λ _. one) tt n

pub counted-one : {A : Type 0} (most : ℕ) (e : leb most edge ≡ true) (c : Codec A) → OneForm c → OneForm (counted most e c)
counted-one most e c one = tagged-one (number_to most e) length (many c) (λ n l h. h.0) (number_to-one most e) (λ n. many-one c n one)

-- ---- rising lists

pub is-less : (o : Ordering) → is_less o ≡ true → o ≡ Less
is-less Less h = refl
is-less Equal h = cc
is-less Greater h = cc

module _ {K A : Type 0} (O : Order K) (key : Codec K) (value : Codec A) where
  lift-above : (prev : Option K) (e : K × A) (l : List (K × A)) → after O prev e.0 ≡ true → Under O e.0 l → Above O key value prev (e ∷ l)
  lift-above None e l h u = tt
  lift-above (Some p) e l h u = let d = is-less (O.cmp p e.0) h in (d, under-below O p e.0 l d u)

  pub all-rising : (prev : Option K) (l : List (K × A)) → All (row O key value) (onto O key value) prev l → Above O key value prev l ×
      (Rising O l × Every (FitsRow O key value) l)
  all-rising None [] h = (tt, (tt, tt))
  all-rising (Some p) [] h = (tt, (tt, tt))
  all-rising prev (e ∷ l) h =
      let i = all-rising (Some e.0) l h.1 in
      (lift-above prev e l h.0.0.1 i.0, ((i.0, i.1.0), ((h.0.0.0, h.0.1), i.1.1)))

module _ {K A : Type 0} (O : Order K) (key : Codec K) (value : Codec A) (most : ℕ) (limit : leb most edge ≡ true) where
  -- rows that were read as a map are one
  pub mapped-inv : (o : Option (Map O A)) (q : List ℕ) {m : Map O A} {r : List ℕ} → mapped O key value most limit o q ≡ got m r → (o ≡ Some m) × (q ≡ r)
  mapped-inv None q e = never-got e
  mapped-inv (Some n) q e = (cc, cc)

module _ {K A : Type 0} (O : Order K) (key : Codec K) (value : Codec A) (one_key : OneForm key) (one_value : OneForm value) where
  pub row-one : (prev : Option K) → OneForm (row O key value prev)
  row-one prev = then-one (only (after O prev) key) value (only-one (after O prev) key one_key) one_value

  module _ (most : ℕ) (limit : leb most edge ≡ true) where
    pub rows-one : OneForm (rows O key value most limit)
    rows-one =
        tagged-one (number_to most limit) length (chain (row O key value) (onto O key value) None) (λ n l h. h.0) (number_to-one most limit)
        (chain-one (row O key value) (onto O key value) row-one None)

    pub rising-forth : (s : List ℕ) (m : Map O A) (r : List ℕ) → rising-read O key value most limit s ≡ got m r →
        (s ≡ (rows O key value most limit).write m.rows ++ r) × FitsMap O key value most limit m
    unfolding rising-read
    rising-forth s m r e =
        let i = bind_inv ((rows O key value most limit).read s) (λ l r. mapped O key value most limit (as_map O l) r) e in
        let j = mapped-inv O key value most limit (as_map O i.0) i.1 i.3 in
        let f = rows-one.forth s i.0 i.1 i.2 in
        let p : i.0 ≡ m.rows = sym (rows-as_map O i.0 m j.0) in
        subst (λ (l : List (K × A)). (s ≡ (rows O key value most limit).write l ++ r) × ((length l ≤ most) × Every (FitsRow O key value) l)) p
        (f.0 ∙ ap (λ (q : List ℕ). (rows O key value most limit).write i.0 ++ q) j.1, (f.1.0, (all-rising O key value None i.0 f.1.1.1).1.1))

    pub rising-one : OneForm (rising O key value most limit)
    rising-one = record { forth = rising-forth }
