-- A rising list changed under several rising keys in one pass is the list with each change put in turn, for any order, key and value.
-- Assumes nothing.
use Rattle.std.specs.Prelude.{None, Option, Some}
use mathlib.Core.Path.{◌≡◌, refl, ap, ◌∙◌}
use mathlib.Core.List.{List, [], ◌∷◌, ◌++◌}
use Prim.Native.Nat.{ℕ, ◌+◌}
use native.Mathlib.Omega.{arith}
use lib.ListN.{length, length-append}
use Rattle.std.specs.declared.cmp.Ordering.{Ordering}
use Rattle.std.specs.declared.cmp.Ordering.TheVariants.{Less, Equal, Greater}
use Rattle.wire.specs.Order.{Order}
use Rattle.wire.specs.Maps.{Map, put, over}
use Rattle.wire.specs.Rows.{insert, remove, set, Under, Rising}
use Rattle.wire.specs.RowLaws.{never-lt, under-below}
use Rattle.change.specs.Cuts.{three, rows_below, row_here, rows_above}
use Rattle.change.specs.Edits.{row_if, edit_rows, put_all}

module _ {K : Type 0} (O : Order K) where
  above : (a b : K) → O.cmp a b ≡ Less → O.cmp b a ≡ Greater
  above a b h = go (O.cmp b a) refl
    where
      go : (c : Ordering) → O.cmp b a ≡ c → c ≡ Greater
      go Less e = absurd (never-lt (O.cmp a a) (O.trans a b a h e) (O.self a))
      go Equal e = absurd (never-lt (O.cmp a a) (rw (O.same b a e) at h) (O.self a))
      go Greater e = refl

  module _ {A : Type 0} where
    -- ---- a key below each row

    under-append : (k : K) (l m : List (K × A)) → Under O k l → Under O k m → Under O k (l ++ m)
    under-append k [] m u v = v
    under-append k (e ∷ l) m u v = (u.0, under-append k l m u.1 v)

    under_low : (k j : K) (l : List (K × A)) → Under O k l → Under O k (rows_below O j l)
    unfolding rows_below
    under_low k j [] u = tt
    under_low k j (f ∷ l) u = go (O.cmp j f.0) (under_low k j l u.1)
      where
        go : (c : Ordering) → Under O k (rows_below O j l) → Under O k (three c [] [] (f ∷ rows_below O j l))
        go Less i = tt
        go Equal i = tt
        go Greater i = (u.0, i)

    under-high : (k j : K) (l : List (K × A)) → Under O k l → Under O k (rows_above O j l)
    unfolding rows_above
    under-high k j [] u = tt
    under-high k j (f ∷ l) u = go (O.cmp j f.0) (under-high k j l u.1)
      where
        go : (c : Ordering) → Under O k (rows_above O j l) → Under O k (three c (f ∷ l) l (rows_above O j l))
        go Less i = u
        go Equal i = u.1
        go Greater i = i

    under-if : (k j : K) (o : Option A) → O.cmp k j ≡ Less → Under O k (row_if O j o)
    under-if k j None h = tt
    under-if k j (Some v) h = (h, tt)

    under-edit : (k : K) (es : List (K × Option A)) (l : List (K × A)) → Under O k es → Under O k l → Under O k (edit_rows O es l)
    unfolding edit_rows
    under-edit k [] l u v = v
    under-edit k (e ∷ es) l u v =
        under-append k (rows_below O e.0 l) (row_if O e.0 e.1 ++ edit_rows O es (rows_above O e.0 l)) (under_low k e.0 l v)
        (under-append k (row_if O e.0 e.1) (edit_rows O es (rows_above O e.0 l)) (under-if k e.0 e.1 u.0)
        (under-edit k es (rows_above O e.0 l) u.1 (under-high k e.0 l v)))

    remove-under : (k : K) (l : List (K × A)) → Under O k l → remove O k l ≡ l
    unfolding remove
    remove-under k [] u = refl
    remove-under k (e ∷ l) u = rw u.0 (ap (λ (m : List (K × A)). e ∷ m) (remove-under k l u.1))

    insert-under : (k : K) (v : A) (l : List (K × A)) → Under O k l → insert O k v l ≡ (k, v) ∷ l
    unfolding insert
    insert-under k v [] u = refl
    insert-under k v (e ∷ l) u = rw u.0

    set-under : (k : K) (o : Option A) (l : List (K × A)) → Under O k l → set O k o l ≡ row_if O k o ++ l
    unfolding set
    set-under k None l u = remove-under k l u
    set-under k (Some v) l u = insert-under k v l u

    -- ---- one change at the head of a list

    -- the first row is below all keys that change
    edit-first : (es : List (K × Option A)) (f : K × A) (l : List (K × A)) → Under O f.0 es → edit_rows O es (f ∷ l) ≡ f ∷ edit_rows O es l
    unfolding edit_rows rows_below rows_above
    edit-first [] f l u = refl
    edit-first (e ∷ es) f l u = rw (above f.0 e.0 u.0)

    set_here : (k : K) (o : Option A) (f : K × A) (l : List (K × A)) → O.cmp k f.0 ≡ Equal → Under O k l → set O k o (f ∷ l) ≡ row_if O k o ++ l
    unfolding set insert remove
    set_here k None f l h u = rw h (remove-under k l u)
    set_here k (Some v) f l h u = rw h

    set_past : (k : K) (o : Option A) (f : K × A) (l : List (K × A)) → O.cmp k f.0 ≡ Greater → set O k o (f ∷ l) ≡ f ∷ set O k o l
    unfolding set insert remove
    set_past k None f l h = rw h
    set_past k (Some v) f l h = rw h

    -- ---- the law

    -- a row set below all keys that change
    pub set-edit : (k : K) (o : Option A) (es : List (K × Option A)) (l : List (K × A)) → Under O k es → Rising O l
        → set O k o (edit_rows O es l) ≡ edit_rows O ((k, o) ∷ es) l
    unfolding edit_rows rows_below rows_above
    set-edit k o es [] u r = set-under k o (edit_rows O es []) (under-edit k es [] u tt)
    set-edit k o es (f ∷ l) u r = go (O.cmp k f.0) refl (set-edit k o es l u r.1)
      where
        go : (c : Ordering) → O.cmp k f.0 ≡ c → set O k o (edit_rows O es l) ≡ rows_below O k l ++ (row_if O k o ++ edit_rows O es (rows_above O k l))
            → set O k o (edit_rows O es (f ∷ l)) ≡ three c [] [] (f ∷ rows_below O k l)
            ++ (row_if O k o ++ edit_rows O es (three c (f ∷ l) l (rows_above O k l)))
        go Less h i = set-under k o (edit_rows O es (f ∷ l)) (under-edit k es (f ∷ l) u (h, under-below O k f.0 l h r.0))
        go Equal h i =
            let z : k ≡ f.0 = O.same k f.0 h in
            ap (set O k o) (edit-first es f l (rw z at u)) ∙ set_here k o f (edit_rows O es l) h (under-edit k es l u (rw z r.0))
        go Greater h i =
            ap (set O k o) (edit-first es f l (under-below O f.0 k es (O.flip k f.0 h) u))
            ∙ set_past k o f (edit_rows O es l) h
            ∙ ap (λ (m : List (K × A)). f ∷ m) i

    pub put-rows : (es : List (K × Option A)) (m : Map O A) → Rising O es → (put_all O es m).rows ≡ edit_rows O es m.rows
    unfolding over put edit_rows
    put-rows [] m r = refl
    put-rows (e ∷ es) m r = ap (set O e.0 e.1) (put-rows es m r.1) ∙ set-edit e.0 e.1 es m.rows r.0 m.rising

    -- ---- a key below all that change: what is copied up to it, its own row, and the rest changed
    pub edit-split : (k : K) (es : List (K × Option A)) (l : List (K × A)) → Under O k es → Rising O l
        → edit_rows O es l ≡ rows_below O k l ++ (row_here O k l ++ edit_rows O es (rows_above O k l))
    unfolding rows_below row_here rows_above
    edit-split k es [] u r = refl
    edit-split k es (f ∷ l) u r = go (O.cmp k f.0) refl (edit-split k es l u r.1)
      where
        go : (c : Ordering) → O.cmp k f.0 ≡ c → edit_rows O es l ≡ rows_below O k l ++ (row_here O k l ++ edit_rows O es (rows_above O k l))
            → edit_rows O es (f ∷ l)
            ≡ three c [] [] (f ∷ rows_below O k l) ++ (three c [] (f ∷ []) (row_here O k l) ++ edit_rows O es (three c (f ∷ l) l (rows_above O k l)))
        go Less h i = refl
        go Equal h i = edit-first es f l (rw (O.same k f.0 h) at u)
        go Greater h i = edit-first es f l (under-below O f.0 k es (O.flip k f.0 h) u) ∙ ap (λ (m : List (K × A)). f ∷ m) i

    three-lengths : (a b c : List (K × A)) → length (a ++ (b ++ c)) ≡ length a + (length b + length c)
    three-lengths a b c = length-append a (b ++ c) ∙ ap (λ (n : ℕ). length a + n) (length-append b c)

    -- how many rows there are: one change more takes the key's own row, and gives the new one
    pub edit-count : (k : K) (o : Option A) (es : List (K × Option A)) (l : List (K × A)) → Under O k es → Rising O l
        → length (edit_rows O ((k, o) ∷ es) l) + length (row_here O k l) ≡ length (edit_rows O es l) + length (row_if O k o)
    unfolding edit_rows
    edit-count k o es l u r =
        let b = rows_below O k l in
        let x = edit_rows O es (rows_above O k l) in
        omega (arith, three-lengths b (row_if O k o) x, three-lengths b (row_here O k l) x, ap length (edit-split k es l u r))

    -- ---- two keys: the second finds behind the first what it finds in the whole list
    module _ (j k : K) (lt : O.cmp j k ≡ Less) where
      pub cut-behind : (l : List (K × A)) → Rising O l
          → (rows_below O k l ≡ rows_below O j l ++ (row_here O j l ++ rows_below O k (rows_above O j l)))
          × ((row_here O k (rows_above O j l) ≡ row_here O k l) × (rows_above O k (rows_above O j l) ≡ rows_above O k l))
      unfolding rows_below row_here rows_above
      cut-behind [] r = (refl, (refl, refl))
      cut-behind (f ∷ l) r = go (O.cmp j f.0) refl (cut-behind l r.1)
        where
          past : O.cmp k f.0 ≡ Greater
              → (rows_below O k l ≡ rows_below O j l ++ (row_here O j l ++ rows_below O k (rows_above O j l)))
              × ((row_here O k (rows_above O j l) ≡ row_here O k l) × (rows_above O k (rows_above O j l) ≡ rows_above O k l))
              → (three (O.cmp k f.0) [] [] (f ∷ rows_below O k l) ≡ f ∷ (rows_below O j l ++ (row_here O j l ++ rows_below O k (rows_above O j l))))
              × ((row_here O k (rows_above O j l) ≡ three (O.cmp k f.0) [] (f ∷ []) (row_here O k l))
              × (rows_above O k (rows_above O j l) ≡ three (O.cmp k f.0) (f ∷ l) l (rows_above O k l)))
          past g i = rw g (ap (λ (m : List (K × A)). f ∷ m) i.0, i.1)

          go : (c : Ordering) → O.cmp j f.0 ≡ c
              → (rows_below O k l ≡ rows_below O j l ++ (row_here O j l ++ rows_below O k (rows_above O j l)))
              × ((row_here O k (rows_above O j l) ≡ row_here O k l) × (rows_above O k (rows_above O j l) ≡ rows_above O k l))
              → (three (O.cmp k f.0) [] [] (f ∷ rows_below O k l)
              ≡ three c [] [] (f ∷ rows_below O j l) ++ (three c [] (f ∷ []) (row_here O j l) ++ rows_below O k (three c (f ∷ l) l (rows_above O j l))))
              × ((row_here O k (three c (f ∷ l) l (rows_above O j l)) ≡ three (O.cmp k f.0) [] (f ∷ []) (row_here O k l))
              × (rows_above O k (three c (f ∷ l) l (rows_above O j l)) ≡ three (O.cmp k f.0) (f ∷ l) l (rows_above O k l)))
          go Less h i = (refl, (refl, refl))
          go Equal h i = rw (above f.0 k (rw (← (O.same j f.0 h)) lt)) (refl, (refl, refl))
          go Greater h i = past (above f.0 k (O.trans f.0 j k (O.flip j f.0 h) lt)) i
