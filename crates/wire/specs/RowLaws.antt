-- The laws of rows in rising order.
use Rattle.std.specs.Prelude.{◌≡◌, None, Option, Some}
use Rattle.std.proofs.Math.Path.{refl}
use mathlib.Core.List.{List, [], ◌∷◌}
use mathlib.Core.HLevel.{Unit-prop, ×_prop}
use Rattle.std.specs.declared.cmp.Ordering.{Ordering}
use Rattle.std.specs.declared.cmp.Ordering.TheVariants.{Less, Equal, Greater}
use Rattle.wire.specs.Order.{Order, Ordering-set}
use Rattle.wire.specs.Rows.{choose, lookup, place, insert, remove, set, Under, Rising}

pub absorb : {X : Type 0} (c : Ordering) (a b x : X) → choose c a (choose c b x) ≡ choose c a x
absorb Less a b x = refl
absorb Equal a b x = refl
absorb Greater a b x = refl

pub idem : {X : Type 0} (c : Ordering) (x : X) → choose c x x ≡ x
idem Less x = refl
idem Equal x = refl
idem Greater x = refl

swap : {X : Type 0} (c d : Ordering) (a b x : X) → (c ≡ Equal → d ≡ Equal → ⊥) → choose c a (choose d b x) ≡ choose d b (choose c a x)
swap Less d a b x n = refl
swap Greater d a b x n = refl
swap Equal Less a b x n = refl
swap Equal Greater a b x n = refl
swap Equal Equal a b x n = absurd (n refl refl)

pub never-lt : (c : Ordering) → c ≡ Less → c ≡ Equal → ⊥
never-lt c p q = cc

pub never-lg : (c : Ordering) → c ≡ Less → c ≡ Greater → ⊥
never-lg c p q = cc

pub never-gt : (c : Ordering) → c ≡ Greater → c ≡ Equal → ⊥
never-gt c p q = cc

module _ {K : Type 0} (O : Order K) where
  apart : (j k i : K) → (O.cmp k i ≡ Equal → ⊥) → O.cmp j i ≡ Equal → O.cmp j k ≡ Equal → ⊥
  apart j k i n p q =
      let ji : j ≡ i = O.same j i p in
      let jk : j ≡ k = O.same j k q in
      n (cc (O.self j))

  module _ {A : Type 0} where
    pub lookup-insert : (j k : K) (v : A) (l : List (K × A)) → lookup O j (insert O k v l) ≡ choose (O.cmp j k) (Some v) (lookup O j l)
    unfolding lookup insert
    lookup-insert j k v [] = refl
    lookup-insert j k v (e ∷ l) = go (O.cmp k e.0) refl (lookup-insert j k v l)
      where
        go : (c : Ordering) → O.cmp k e.0 ≡ c → lookup O j (insert O k v l) ≡ choose (O.cmp j k) (Some v) (lookup O j l)
            → lookup O j (place O c (k, v) e l (insert O k v l)) ≡ choose (O.cmp j k) (Some v) (lookup O j (e ∷ l))
        go Less h ih = refl
        go Equal h ih = rw (O.same k e.0 h, absorb)
        go Greater h ih = rw ih (swap _ _ _ _ _ (apart j k e.0 (never-gt _ h)))

    pub lookup-remove : (j k : K) (l : List (K × A)) → lookup O j (remove O k l) ≡ choose (O.cmp j k) None (lookup O j l)
    unfolding lookup remove
    lookup-remove j k [] = rw idem
    lookup-remove j k (e ∷ l) = go (O.cmp k e.0) refl (lookup-remove j k l)
      where
        go : (c : Ordering) → O.cmp k e.0 ≡ c → lookup O j (remove O k l) ≡ choose (O.cmp j k) None (lookup O j l)
            → lookup O j (choose c (remove O k l) (e ∷ remove O k l)) ≡ choose (O.cmp j k) None (lookup O j (e ∷ l))
        go Less h ih = rw ih (swap _ _ _ _ _ (apart j k e.0 (never-lt _ h)))
        go Equal h ih = rw (ih, O.same k e.0 h, absorb)
        go Greater h ih = rw ih (swap _ _ _ _ _ (apart j k e.0 (never-gt _ h)))

    pub lookup-set : (j k : K) (o : Option A) (l : List (K × A)) → lookup O j (set O k o l) ≡ choose (O.cmp j k) o (lookup O j l)
    unfolding set
    lookup-set j k None l = lookup-remove j k l
    lookup-set j k (Some v) l = lookup-insert j k v l

    pub under-insert : (a k : K) (v : A) (l : List (K × A)) → O.cmp a k ≡ Less → Under O a l → Under O a (insert O k v l)
    unfolding insert
    under-insert a k v [] h u = (h, tt)
    under-insert a k v (e ∷ l) h u = go (O.cmp k e.0) (under-insert a k v l h u.1)
      where
        go : (c : Ordering) → Under O a (insert O k v l) → Under O a (place O c (k, v) e l (insert O k v l))
        go Less ih = (h, u)
        go Equal ih = (h, u.1)
        go Greater ih = (u.0, ih)

    pub under-below : (a b : K) (l : List (K × A)) → O.cmp a b ≡ Less → Under O b l → Under O a l
    under-below a b [] h u = tt
    under-below a b (e ∷ l) h u = (O.trans a b e.0 h u.0, under-below a b l h u.1)

    pub insert-rising : (k : K) (v : A) (l : List (K × A)) → Rising O l → Rising O (insert O k v l)
    unfolding insert
    insert-rising k v [] r = (tt, tt)
    insert-rising k v (e ∷ l) r = go (O.cmp k e.0) refl (insert-rising k v l r.1)
      where
        go : (c : Ordering) → O.cmp k e.0 ≡ c → Rising O (insert O k v l) → Rising O (place O c (k, v) e l (insert O k v l))
        go Less h ih = ((h, under-below k e.0 l h r.0), r)
        go Equal h ih = (rw (O.same k e.0 h) r.0, r.1)
        go Greater h ih = (under-insert e.0 k v l (O.flip k e.0 h) r.0, ih)

    pub under-remove : (a k : K) (l : List (K × A)) → Under O a l → Under O a (remove O k l)
    unfolding remove
    under-remove a k [] u = tt
    under-remove a k (e ∷ l) u = go (O.cmp k e.0) (under-remove a k l u.1)
      where
        go : (c : Ordering) → Under O a (remove O k l) → Under O a (choose c (remove O k l) (e ∷ remove O k l))
        go Less ih = (u.0, ih)
        go Equal ih = ih
        go Greater ih = (u.0, ih)

    pub remove-rising : (k : K) (l : List (K × A)) → Rising O l → Rising O (remove O k l)
    unfolding remove
    remove-rising k [] r = tt
    remove-rising k (e ∷ l) r = go (O.cmp k e.0) (remove-rising k l r.1)
      where
        go : (c : Ordering) → Rising O (remove O k l) → Rising O (choose c (remove O k l) (e ∷ remove O k l))
        go Less ih = (under-remove e.0 k l r.0, ih)
        go Equal ih = ih
        go Greater ih = (under-remove e.0 k l r.0, ih)

    pub set-rising : (k : K) (o : Option A) (l : List (K × A)) → Rising O l → Rising O (set O k o l)
    unfolding set
    set-rising k None l r = remove-rising k l r
    set-rising k (Some v) l r = insert-rising k v l r

    pub lookup-under : (k : K) (l : List (K × A)) → Under O k l → lookup O k l ≡ None
    unfolding lookup
    lookup-under k [] u = refl
    lookup-under k (e ∷ l) u = rw u.0 (lookup-under k l u.1)

    -- two rising lists that answer alike are one
    pub ext : (l m : List (K × A)) → Rising O l → Rising O m → ((k : K) → lookup O k l ≡ lookup O k m) → l ≡ m
    unfolding lookup
    ext [] [] r s h = refl
    ext [] (f ∷ m) r s h = let x = h f.0 in let y = O.self f.0 in cc
    ext (e ∷ l) [] r s h = let x = h e.0 in let y = O.self e.0 in cc
    ext (e ∷ l) (f ∷ m) r s h = go (O.cmp e.0 f.0) refl (ext l m r.1 s.1)
      where
        here : lookup O e.0 (e ∷ l) ≡ Some e.1
        here = rw (O.self e.0)

        there : lookup O f.0 (f ∷ m) ≡ Some f.1
        there = rw (O.self f.0)

        tail : (i : K) → e.0 ≡ f.0 → (c : Ordering) → O.cmp i e.0 ≡ c → lookup O i l ≡ lookup O i m
        tail i p Less q = let x = h i in cc
        tail i p Greater q = let x = h i in cc
        tail i p Equal q =
            let z : i ≡ e.0 = O.same i e.0 q in
            cc (lookup-under e.0 l r.0, lookup-under f.0 m s.0)

        go : (c : Ordering) → O.cmp e.0 f.0 ≡ c → (((k : K) → lookup O k l ≡ lookup O k m) → l ≡ m) → ◌≡◌ {A = List (K × A)} (e ∷ l) (f ∷ m)
        go Less p ih = let x = h e.0 in let y = lookup-under e.0 (f ∷ m) (p, under-below e.0 f.0 m p s.0) in cc here
        go Greater p ih = let x = h f.0 in
            let q : O.cmp f.0 e.0 ≡ Less = O.flip e.0 f.0 p in
            let y = lookup-under f.0 (e ∷ l) (q, under-below f.0 e.0 l q r.0) in cc there
        go Equal p ih =
            let k : e.0 ≡ f.0 = O.same e.0 f.0 p in
            let v : e.1 ≡ f.1 = let x = h e.0 in cc (here, there) in
            let t : l ≡ m = ih (λ i. tail i k (O.cmp i e.0) refl) in
            λ i. (k i, v i) ∷ t i

    pub Under-prop : (k : K) (l : List (K × A)) → IsProp (Under O k l)
    Under-prop k [] = Unit-prop
    Under-prop k (e ∷ l) = ×_prop (Ordering-set _ _) (Under-prop k l)

    pub Rising-prop : (l : List (K × A)) → IsProp (Rising O l)
    Rising-prop [] = Unit-prop
    Rising-prop (e ∷ l) = ×_prop (Under-prop e.0 l) (Rising-prop l)
