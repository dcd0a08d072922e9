-- What holds of every row of a map holds of every row of the map that a change makes of it. Nothing is said of how many rows there are.
use Rattle.std.specs.Prelude.{None, Option, Some}
use mathlib.Core.List.{List, [], ◌∷◌}
use mathlib.Core.Bool.{Bool, true, false}
use Prim.Native.Nat.{ℕ}
use Rattle.std.specs.declared.cmp.Ordering.{Ordering}
use Rattle.std.specs.declared.cmp.Ordering.TheVariants.{Less, Equal, Greater}
use Rattle.wire.specs.Order.{Order}
use Rattle.wire.specs.Rows.{choose, place, lookup, insert, remove, set}
use Rattle.wire.specs.Maps.{Map, sift, empty, get, put, over, merge, keep}
use Rattle.wire.specs.Lists.{Every}
use Rattle.image.specs.Fits.{IfGiven, MapFits}

-- any count
abbrev pub Any : ℕ → Type 0
Any n = Unit {0}

module _ {K A : Type 0} (O : Order K) (E : K × A → Type 0) where
  every-insert : (k : K) (v : A) (l : List (K × A)) → E (k, v) → Every E l → Every E (insert O k v l)
  unfolding insert
  every-insert k v [] e h = (e, tt)
  every-insert k v (x ∷ l) e h = go (O.cmp k x.0) (every-insert k v l e h.1)
    where
      go : (c : Ordering) → Every E (insert O k v l) → Every E (place O c (k, v) x l (insert O k v l))
      go Less i = (e, h)
      go Equal i = (e, h.1)
      go Greater i = (h.0, i)

  every-remove : (k : K) (l : List (K × A)) → Every E l → Every E (remove O k l)
  unfolding remove
  every-remove k [] h = tt
  every-remove k (x ∷ l) h = go (O.cmp k x.0) (every-remove k l h.1)
    where
      go : (c : Ordering) → Every E (remove O k l) → Every E (choose c (remove O k l) (x ∷ remove O k l))
      go Less i = (h.0, i)
      go Equal i = i
      go Greater i = (h.0, i)

module _ {K A : Type 0} {O : Order K} {P : K → Type 0} {Q : A → Type 0} where
  pub empty-fits : MapFits Any P Q (empty O)
  unfolding empty
  empty-fits = record { count = tt; each = tt }

  pub get-fits : (k : K) (m : Map O A) → MapFits Any P Q m → IfGiven Q (get O k m)
  unfolding get lookup
  get-fits k m h = go m.rows h.each
    where
      go : (l : List (K × A)) → Every (λ e. P e.0 × Q e.1) l → IfGiven Q (lookup O k l)
      go [] h = tt
      go (e ∷ l) h = pick (O.cmp k e.0) (go l h.1)
        where
          pick : (c : Ordering) → IfGiven Q (lookup O k l) → IfGiven Q (choose c (Some e.1) (lookup O k l))
          pick Less i = i
          pick Equal i = h.0.1
          pick Greater i = i

  pub put-fits : (k : K) (o : Option A) (m : Map O A) → P k → IfGiven Q o → MapFits Any P Q m → MapFits Any P Q (put O k o m)
  unfolding put set
  put-fits k None m p q h = record { count = tt; each = every-remove O (λ e. P e.0 × Q e.1) k m.rows h.each }
  put-fits k (Some v) m p q h = record { count = tt; each = every-insert O (λ e. P e.0 × Q e.1) k v m.rows (p, q) h.each }

  -- one map put over another, where each row of it makes of what fits what fits
  module _ {C : Type 0} {R : C → Type 0} (g : K → C → Option A → Option A)
      (step : (k : K) (c : C) (o : Option A) → R c → IfGiven Q o → IfGiven Q (g k c o)) where
    over-fits : (l : List (K × C)) (m : Map O A) → Every (λ e. P e.0 × R e.1) l → MapFits Any P Q m → MapFits Any P Q (over O g l m)
    unfolding over
    over-fits [] m f h = h
    over-fits (c ∷ l) m f h =
        let i = over-fits l m f.1 h in
        put-fits c.0 (g c.0 c.1 (get O c.0 (over O g l m))) (over O g l m) f.0.0 (step c.0 c.1 _ f.0.1 (get-fits c.0 (over O g l m) i)) i

    pub merge-fits : (c : Map O C) (m : Map O A) → MapFits Any P R c → MapFits Any P Q m → MapFits Any P Q (merge O g c m)
    unfolding merge
    merge-fits c m f h = over-fits c.rows m f.each h

module _ {K A : Type 0} {O : Order K} {P : K → Type 0} {Q : A → Type 0} where
  pub keep-fits : (p : K → A → Bool) (m : Map O A) → MapFits Any P Q m → MapFits Any P Q (keep O p m)
  unfolding keep
  keep-fits p m h = merge-fits (λ k a o. sift (p k) (Some a)) (λ k a o q i. go (p k a) a q) m (empty O) h empty-fits
    where
      go : (b : Bool) (a : A) → Q a → IfGiven Q (elim b [ true ↦ Some a | false ↦ None ])
      go true a q = q
      go false a q = tt
