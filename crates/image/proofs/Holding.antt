-- What a place in a list holds: what its map has under the key.
-- Assumes nothing.
use Rattle.std.specs.Prelude.{None, Option, Some}
use mathlib.Core.Path.{◌≡◌, refl, sym, ap, ◌∙◌, subst}
use mathlib.Core.List.{List, [], ◌∷◌, ◌++◌}
use Prim.Native.Nat.{ℕ, zero, suc, ◌+◌, ◌-◌, ◌≤◌}
use native.Mathlib.Omega.{arith}
use lib.ListN.{length, drop, length-append, length-drop}
use lib.Seq.{drop-drop, drop-append_seam}
use Rattle.std.specs.declared.cmp.Ordering.{Ordering}
use Rattle.std.specs.declared.cmp.Ordering.TheVariants.{Less, Equal, Greater}
use Rattle.wire.specs.declared.fault.Fault.TheVariants.{Malformed}
use Rattle.wire.specs.Parse.{Parsed, got, bind, check, bind_inv, check_inv}
use Rattle.wire.specs.Codec.{Codec, OneForm}
use Rattle.wire.specs.Combinators.{only}
use Rattle.wire.specs.Order.{Order}
use Rattle.wire.specs.Rows.{choose, lookup}
use Rattle.wire.specs.Maps.{Map, get, as_map, rows-as_map}
use Rattle.wire.specs.Number.{number_read, number_to}
use Rattle.wire.specs.Lists.{after, row, rows, rising, rising-read, mapped, last_count}
use Rattle.wire.proofs.NumberForms.{number_to-one}
use Rattle.wire.proofs.ListForms.{mapped-inv}
use Rattle.image.specs.Places.{if_read, rows_from, place_under, place_in, Holds}

-- the end of an image
pub record Suffix (img s : List ℕ) : Type 0 where
  pub low : length s ≤ length img
  pub is : s ≡ drop (length img - length s) img

pub suffix-drop : (img : List ℕ) (n : ℕ) → n ≤ length img → Suffix img (drop n img)
suffix-drop img n h =
    let e : length img - length (drop n img) ≡ n = omega (arith, length-drop n img) in
    record { low = omega (arith, length-drop n img); is = rw e }

suffix-on : {img : List ℕ} (w t : List ℕ) → Suffix img (w ++ t) → Suffix img t
suffix-on {img} w t h =
    let l : length (w ++ t) ≡ length w + length t = length-append w t in
    let e : length img - length (w ++ t) + length w ≡ length img - length t = omega (arith, h.low) in
    record {
      low = omega (arith, h.low);
      is = sym (drop-append_seam w t) ∙ ap (drop (length w)) h.is ∙ drop-drop (length w) (length img - length (w ++ t)) img ∙ ap (λ (n : ℕ). drop n img) e;
    }

-- what a codec leaves
pub suffix-rest : {A : Type 0} (c : Codec A) → OneForm c → {img s r : List ℕ} {a : A} → Suffix img s → c.read s ≡ got a r → Suffix img r
suffix-rest c one {img} {s} {r} {a} h e = suffix-on (c.write a) r (rw (one.forth s a r e).0 at h)

module _ {K A : Type 0} (O : Order K) (key : Codec K) (value : Codec A) (img : List ℕ) (k : K) where
  abbrev pair : K → A → K × A
  pair a b = (a, b)

  -- by whether the row has the key
  here : (o : Ordering) (p : Option ℕ) (w : Option A) {s q : List ℕ} {v : A} → Suffix img s → value.read s ≡ got v q → Holds img value.read p w
      → Holds img value.read (choose o (Some (length img - length s)) p) (choose o (Some v) w)
  here Less p w u e h = h
  here Greater p w u e h = h
  here Equal p w {q = q} u e h = (q, rw (← u.is) e)

  -- a row's key and what stands under it
  pub record Row (s : List ℕ) (e : K × A) (q : List ℕ) : Type 0 where
    pub mid : List ℕ
    pub keyed : key.read s ≡ got e.0 mid
    pub valued : value.read mid ≡ got e.1 q

  pub apart : (prev : Option K) (s : List ℕ) {e : K × A} {q : List ℕ} → (row O key value prev).read s ≡ got e q → Row s e q
  apart prev s {e} {q} d =
      let i = bind_inv ((only (after O prev) key).read s) (λ a r. bind (value.read r) (λ b t. got (pair a b) t)) d in
      let j = bind_inv (value.read i.1) (λ b t. got (pair i.0 b) t) i.3 in
      let h = bind_inv (key.read s) (λ a r. check Malformed (after O prev a) (got a r)) i.2 in
      let c = check_inv Malformed (after O prev h.0) (got h.0 h.1) h.3 in
      let e1 : got (pair i.0 j.0) j.1 ≡ got e q = j.3 in
      let e2 : got h.0 h.1 ≡ got i.0 i.1 = c.1 in
      let ee : pair i.0 j.0 ≡ e = cc in
      let eq : j.1 ≡ q = cc in
      let ea : i.0 ≡ e.0 = ap (λ (x : K × A). x.0) ee in
      let eb : j.0 ≡ e.1 = ap (λ (x : K × A). x.1) ee in
      record {
        mid = i.1;
        keyed = h.2 ∙ e2 ∙ ap (λ (x : K). got x i.1) ea;
        valued = j.2 ∙ (λ x. got (eb x) (eq x));
      }

  none-holds : (s : List ℕ) (l : List (K × A)) → [] ≡ l → Holds img value.read (place_under O key value (length img) k 0 s) (lookup O k l)
  unfolding place_under lookup
  none-holds s [] e = tt
  none-holds s (x ∷ l) e = cc

  module _ (one_key : OneForm key) (one_value : OneForm value) where
    row-holds : (n : ℕ) (s : List ℕ) (e : K × A) (t : List ℕ) (l : List (K × A)) → Suffix img s → Row s e t
        → (Suffix img t → Holds img value.read (place_under O key value (length img) k n t) (lookup O k l))
        → Holds img value.read (place_under O key value (length img) k (suc n) s) (lookup O k (e ∷ l))
    unfolding place_under lookup
    row-holds n s e t l w a ih =
        let u = suffix-rest key one_key w a.keyed in
        let p = if_read (value.read a.mid) (λ v q. place_under O key value (length img) k n q) in
        rw a.keyed (here (O.cmp k e.0) p (lookup O k l) u a.valued (rw a.valued (ih (suffix-rest value one_value u a.valued))))

    -- the place of a key among rows holds what the rows have under it
    pub rows-hold : (n : ℕ) (prev : Option K) (s : List ℕ) {l : List (K × A)} {r : List ℕ} → Suffix img s → rows_from O key value n prev s ≡ got l r
        → Holds img value.read (place_under O key value (length img) k n s) (lookup O k l)
    rows-hold zero prev s {l} w d = none-holds s l cc
    rows-hold (suc n) prev s {l} {r} w d =
        let i = bind_inv ((row O key value prev).read s) (λ a t. bind (rows_from O key value n (Some a.0) t) (λ m q. got (a ∷ m) q)) d in
        let j = bind_inv (rows_from O key value n (Some i.0.0) i.1) (λ m q. got (i.0 ∷ m) q) i.3 in
        let e1 : got (i.0 ∷ j.0) j.1 ≡ got l r = j.3 in
        let el : i.0 ∷ j.0 ≡ l = cc in
        subst (λ (m : List (K × A)). Holds img value.read (place_under O key value (length img) k (suc n) s) (lookup O k m)) el
        (row-holds n s i.0 i.1 j.0 w (apart prev s i.2) (λ u. rows-hold n (Some i.0.0) i.1 u j.2))

    -- the place of a key in a whole list holds what its map has under it
    pub list-holds : (n : ℕ) {m : Map O A} {r : List ℕ} → n ≤ length img → (rising O key value last_count refl).read (drop n img) ≡ got m r
        → Holds img value.read (place_in O key value img k n) (get O k m)
    unfolding rising-read get
    list-holds n {m} {r} h d =
        let i = bind_inv ((rows O key value last_count refl).read (drop n img)) (λ l t. mapped O key value last_count refl (as_map O l) t) d in
        let j = bind_inv (number_read last_count (drop n img)) (λ c t. rows_from O key value c None t) i.2 in
        let e : m.rows ≡ i.0 = rows-as_map O i.0 m (mapped-inv O key value last_count refl (as_map O i.0) i.1 i.3).0 in
        let u = suffix-rest (number_to last_count refl) (number_to-one last_count refl) (suffix-drop img n h) j.2 in
        let p : place_in O key value img k n ≡ place_under O key value (length img) k j.0 j.1 =
        ap (λ (o : Parsed ℕ). if_read o (λ c t. place_under O key value (length img) k c t)) j.2 in
        let h = rows-hold j.0 None j.1 u j.3 in
        subst (λ (o : Option ℕ). Holds img value.read o (lookup O k m.rows)) (sym p)
        (subst (λ (l : List (K × A)). Holds img value.read (place_under O key value (length img) k j.0 j.1) (lookup O k l)) (sym e) h)
