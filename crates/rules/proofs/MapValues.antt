-- Maps with another value under each key, over any ordered keys.
use Rattle.std.specs.Prelude.{None, Option, Some}
use mathlib.Core.Path.{◌≡◌, refl}
use mathlib.Core.List.{List, [], ◌∷◌, map}
use Rattle.std.specs.declared.cmp.Ordering.{Ordering}
use Rattle.std.specs.declared.cmp.Ordering.TheVariants.{Less, Equal, Greater}
use Rattle.wire.specs.Order.{Order}
use Rattle.wire.specs.Rows.{choose, lookup, Under, Rising}
use Rattle.wire.specs.Maps.{Map, meet, empty, get, merge, map-ext, get-empty, get-merge}
use Rattle.rules.specs.Changes.{map_if}

module _ {K : Type 0} (O : Order K) {A B : Type 0} (f : A → B) where
  abbrev pub map_row : K × A → K × B
  map_row e = (e.0, f e.1)

  map-under : (k : K) (l : List (K × A)) → Under O k l → Under O k (map map_row l)
  map-under k [] u = tt
  map-under k (e ∷ l) u = (u.0, map-under k l u.1)

  pub map-rising : (l : List (K × A)) → Rising O l → Rising O (map map_row l)
  map-rising [] r = tt
  map-rising (e ∷ l) r = (map-under e.0 l r.0, map-rising l r.1)

  -- f of what stands under each key
  unfoldable pub map_values : Map O A → Map O B
  map_values m = record { rows = map map_row m.rows; rising = map-rising m.rows m.rising }

  pub map_rows : (m : Map O A) → (map_values m).rows ≡ map map_row m.rows
  unfolding map_values
  map_rows m = refl

  pub get-map : (k : K) (m : Map O A) → get O k (map_values m) ≡ map_if f (get O k m)
  unfolding map_values get lookup
  get-map k m = go m.rows
    where
      pick : (c : Ordering) (a : A) (o : Option A) → choose c (Some (f a)) (map_if f o) ≡ map_if f (choose c (Some a) o)
      pick Less a o = refl
      pick Equal a o = refl
      pick Greater a o = refl

      go : (l : List (K × A)) → lookup O k (map map_row l) ≡ map_if f (lookup O k l)
      go [] = refl
      go (e ∷ l) = rw (go l) (pick (O.cmp k e.0) e.1 (lookup O k l))

  pub map-empty : map_values (empty O) ≡ empty O
  map-empty = map-ext O (map_values (empty O)) (empty O) (λ k. simp (get-map, get-empty))

-- one map put over another, with f of the values on either side
module _ {K : Type 0} (O : Order K) {A B C D : Type 0} (f : A → B) (e : C → D) (g : K → C → Option A → Option A) (h : K → D → Option B → Option B)
    (step : (k : K) (c : C) (o : Option A) → map_if f (g k c o) ≡ h k (e c) (map_if f o)) where
  met : (k : K) (c : Option C) (o : Option A) → map_if f (meet (g k) c o) ≡ meet (h k) (map_if e c) (map_if f o)
  met k None o = refl
  met k (Some c) o = step k c o

  pub map-merge : (c : Map O C) (m : Map O A) → map_values O f (merge O g c m) ≡ merge O h (map_values O e c) (map_values O f m)
  map-merge c m =
      map-ext O (map_values O f (merge O g c m)) (merge O h (map_values O e c) (map_values O f m)) (λ k.
      simp (get-map, get-merge) (met k (get O k c) (get O k m)))

-- the same values
pub map_same : {K A : Type 0} (O : Order K) (m : Map O A) → map_values O (λ (a : A). a) m ≡ m
map_same {A = A} O m = map-ext O (map_values O (λ (a : A). a) m) m (λ k. rw get-map (go (get O k m)))
  where
    go : (o : Option A) → map_if (λ a. a) o ≡ o
    go None = refl
    go (Some a) = refl
