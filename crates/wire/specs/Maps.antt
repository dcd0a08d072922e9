-- Finite maps: rows in rising order, with the proof that they rise, so that two maps with the same answers are equal.
-- One changing operation, `merge`, serves every place where one map is put over another: entries added, entries removed,
-- attribute changes, a layer of records over a base.
use Rattle.std.specs.Prelude.{◌≡◌, Bool, true, false, None, Option, Some}
use Rattle.std.proofs.Math.Path.{refl}
use mathlib.Core.List.{List, [], ◌∷◌}
use mathlib.Core.HLevel.{is_prop→PathP}
use Rattle.std.specs.declared.cmp.Ordering.{Ordering}
use Rattle.std.specs.declared.cmp.Ordering.TheVariants.{Less, Equal, Greater}
use Rattle.wire.specs.Order.{Order}
use Rattle.wire.specs.Rows.{choose, lookup, set, Under, Rising}
use Rattle.wire.specs.RowLaws.{lookup-set, set-rising, lookup-under, ext, Rising-prop, never-lt, never-lg}

pub record Map {K : Type 0} (O : Order K) (A : Type 0) : Type 0 where
  pub rows : List (K × A)
  pub rising : Rising O rows

-- what is there after a change x, or none, meets what was there
abbrev pub meet : {C X : Type 0} → (C → X → X) → Option C → X → X
meet g None x = x
meet g (Some c) x = g c x

-- an answer, if a test lets it stand
abbrev pub sift : {A : Type 0} → (A → Bool) → Option A → Option A
sift p None = None
sift p (Some a) = elim (p a) [ true ↦ Some a | false ↦ None ]

module _ {K : Type 0} (O : Order K) where
  unfoldable pub empty : {A : Type 0} → Map O A
  empty = record { rows = []; rising = tt }

  unfoldable pub get : {A : Type 0} → K → Map O A → Option A
  get k m = lookup O k m.rows

  unfoldable pub put : {A : Type 0} → K → Option A → Map O A → Map O A
  put k o m = record { rows = set O k o m.rows; rising = set-rising O k o m.rows m.rising }

  module _ {C A : Type 0} (g : K → C → Option A → Option A) where
    unfoldable pub over : List (K × C) → Map O A → Map O A
    over [] m = m
    over (c ∷ cs) m = put c.0 (g c.0 c.1 (get c.0 (over cs m))) (over cs m)

    unfoldable pub merge : Map O C → Map O A → Map O A
    merge c m = over c.rows m

  -- the rows that pass a test
  unfoldable pub keep : {A : Type 0} → (K → A → Bool) → Map O A → Map O A
  keep p m = merge (λ k a o. sift (p k) (Some a)) m empty

  pub get-empty : {A : Type 0} (k : K) → get {A = A} k empty ≡ None
  unfolding get empty lookup
  get-empty k = refl

  pub get-put : {A : Type 0} (j k : K) (o : Option A) (m : Map O A) → get j (put k o m) ≡ choose (O.cmp j k) o (get j m)
  unfolding get put
  get-put j k o m = lookup-set O j k o m.rows

  pub map-ext : {A : Type 0} (m n : Map O A) → ((k : K) → get k m ≡ get k n) → m ≡ n
  unfolding get
  map-ext {A} m n h =
      let p : m.rows ≡ n.rows = ext O m.rows n.rows m.rising n.rising h in
      λ i. record { rows = p i; rising = is_prop→PathP (λ i. Rising O (p i)) (λ i. Rising-prop O (p i)) m.rising n.rising i }

  module _ {C A : Type 0} (g : K → C → Option A → Option A) where
    get-over : (k : K) (l : List (K × C)) (m : Map O A) → Rising O l → get k (over g l m) ≡ meet (g k) (lookup O k l) (get k m)
    unfolding over lookup
    get-over k [] m r = refl
    get-over k (c ∷ l) m r = go (O.cmp k c.0) refl (get-over k l m r.1)
      where
        go : (d : Ordering) → O.cmp k c.0 ≡ d → get k (over g l m) ≡ meet (g k) (lookup O k l) (get k m)
            → get k (over g (c ∷ l) m) ≡ meet (g k) (lookup O k (c ∷ l)) (get k m)
        go Less h ih = rw (get-put, h) ih
        go Greater h ih = rw (get-put, h) ih
        go Equal h ih =
            let z : k ≡ c.0 = O.same k c.0 h in
            let n : lookup O k l ≡ None = rw z (lookup-under O c.0 l r.0) in
            rw (get-put, h, ← z, ih, n)

    pub get-merge : (k : K) (c : Map O C) (m : Map O A) → get k (merge g c m) ≡ meet (g k) (get k c) (get k m)
    unfolding merge get
    get-merge k c m = get-over k c.rows m c.rising

  pub get-keep : {A : Type 0} (p : K → A → Bool) (k : K) (m : Map O A) → get k (keep p m) ≡ sift (p k) (get k m)
  unfolding keep
  get-keep {A} p k m = simp (get-merge, get-empty) (go (get k m))
    where
      go : (o : Option A) → meet (λ a o. sift (p k) (Some a)) o None ≡ sift (p k) o
      go None = refl
      go (Some a) = refl

  -- rows as a map, if they rise
  unfoldable pub under? : {A : Type 0} (k : K) (l : List (K × A)) → Dec (Under O k l)
  under? k [] = yes tt
  under? {A} k (e ∷ l) = go (O.cmp k e.0) refl (under? k l)
    where
      go : (c : Ordering) → O.cmp k e.0 ≡ c → Dec (Under O k l) → Dec (Under O k (e ∷ l))
      go Less h (yes u) = yes (h, u)
      go Less h (no n) = no (λ v. n v.1)
      go Equal h d = no (λ v. never-lt (O.cmp k e.0) v.0 h)
      go Greater h d = no (λ v. never-lg (O.cmp k e.0) v.0 h)

  unfoldable pub rising? : {A : Type 0} (l : List (K × A)) → Dec (Rising O l)
  rising? [] = yes tt
  rising? {A} (e ∷ l) = go (under? e.0 l) (rising? l)
    where
      go : Dec (Under O e.0 l) → Dec (Rising O l) → Dec (Rising O (e ∷ l))
      go (yes u) (yes r) = yes (u, r)
      go (yes u) (no n) = no (λ v. n v.1)
      go (no n) d = no (λ v. n v.0)

  module _ {A : Type 0} where
    abbrev pub map_if : (l : List (K × A)) → Dec (Rising O l) → Option (Map O A)
    map_if l (yes r) = Some (record { rows = l; rising = r })
    map_if l (no n) = None

    unfoldable pub as_map : List (K × A) → Option (Map O A)
    as_map l = map_if l (rising? l)

    pub as_map-rows : (m : Map O A) → as_map m.rows ≡ Some m
    unfolding as_map
    as_map-rows m = go (rising? m.rows)
      where
        go : (d : Dec (Rising O m.rows)) → map_if m.rows d ≡ Some m
        go (yes r) = λ i. Some (record { rows = m.rows; rising = Rising-prop O m.rows r m.rising i })
        go (no n) = absurd (n m.rising)

    pub rows-as_map : (l : List (K × A)) (m : Map O A) → as_map l ≡ Some m → m.rows ≡ l
    unfolding as_map
    rows-as_map l m = go (rising? l)
      where
        go : (d : Dec (Rising O l)) → map_if l d ≡ Some m → m.rows ≡ l
        go (yes r) e = cc
        go (no n) e = cc
