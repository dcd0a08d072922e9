-- A pile of sources, one key at a time: the least key goes first, with what the changes of it make, and then the rest.
-- Assumes nothing.
use Rattle.std.specs.Prelude.{None, Option, Some}
use mathlib.Core.Path.{◌≡◌, subst, refl, sym as inverse, ◌∙◌}
use mathlib.Core.List.{List, [], ◌∷◌}
use Prim.Native.Nat.{◌≤◌, ◌<◌}
use native.Mathlib.Omega.{arith}
use lib.ListN.{length}
use Rattle.std.specs.declared.cmp.Ordering.{Ordering}
use Rattle.std.specs.declared.cmp.Ordering.TheVariants.{Less, Equal, Greater}
use Rattle.wire.specs.Order.{Order}
use Rattle.wire.specs.Rows.{choose, lookup, set, Under, Rising}
use Rattle.wire.specs.RowLaws.{lookup-set, set-rising, lookup-under, under-below, under-insert, under-remove, ext}
use Rattle.wire.specs.Maps.{Map, meet, merge, over, put, get, empty}
use Rattle.merge.specs.Pile.{pick_key, lower, least_key, head_if, pass, pass_all, Ascend, laid, pile, answer, merged, rows_of, row, total}

module _ {K : Type 0} (O : Order K) where
  -- k is not above e
  data Low (k e : K) : Type 0 where
    same : k ≡ e → Low k e
    less : O.cmp k e ≡ Less → Low k e

  low-less : (a b c : K) → O.cmp a b ≡ Less → Low b c → Low a c
  low-less a b c h (same e) = less (rw e at h)
  low-less a b c h (less g) = less (O.trans a b c h g)

  none-lower : (a : K) (o : Option K) → lower O (Some a) o ≡ None → ⊥
  none-lower a None h = cc
  none-lower a (Some b) h = go (O.cmp a b) h
    where
      go : (d : Ordering) → pick_key O d a b ≡ None → ⊥
      go Less h = cc
      go Equal h = cc
      go Greater h = cc

module _ {K : Type 0} (O : Order K) {C : Type 0} where
  abbrev From : K → List (K × C) → Type 0
  From k [] = Unit {0}
  From k (e ∷ l) = Low O k e.0

  abbrev FromAll : K → List (List (K × C)) → Type 0
  FromAll k [] = Unit {0}
  FromAll k (s ∷ ss) = From k s × FromAll k ss

  under-pass : (k : K) (s : List (K × C)) → Rising O s → From k s → Under O k (pass O k s)
  unfolding pass
  under-pass k [] r f = tt
  under-pass k (e ∷ l) r (same h) = rw (h, O.self e.0) r.0
  under-pass k (e ∷ l) r (less h) = rw h (h, under-below O k e.0 l h r.0)

  lookup-pass : (j k : K) (s : List (K × C)) → (O.cmp j k ≡ Equal → ⊥) → lookup O j (pass O k s) ≡ lookup O j s
  unfolding pass lookup
  lookup-pass j k [] n = refl
  lookup-pass j k (e ∷ l) n = go (O.cmp k e.0) refl
    where
      other : (d : Ordering) → (d ≡ Equal → ⊥) → lookup O j l ≡ choose d (Some e.1) (lookup O j l)
      other Less n = refl
      other Equal n = absurd (n refl)
      other Greater n = refl

      go : (d : Ordering) → O.cmp k e.0 ≡ d → lookup O j (choose d l (e ∷ l)) ≡ lookup O j (e ∷ l)
      go Less h = refl
      go Greater h = refl
      go Equal h = other (O.cmp j e.0) (λ q. n (rw (O.same k e.0 h) q))

  -- nothing of a source is below k: then what it says of k stands first
  lookup_head : (k : K) (s : List (K × C)) → Rising O s → From k s → lookup O k s ≡ head_if O k s
  unfolding lookup
  lookup_head k [] r f = refl
  lookup_head k (e ∷ l) r (same h) = rw (h, O.self e.0)
  lookup_head k (e ∷ l) r (less h) = rw h (lookup-under O k l (under-below O k e.0 l h r.0))

  from-none : (ss : List (List (K × C))) → least_key O ss ≡ None → (k : K) → FromAll k ss
  unfolding least_key
  from-none [] h k = tt
  from-none ([] ∷ ss) h k = (tt, from-none ss h k)
  from-none ((u ∷ s) ∷ ss) h k = absurd (none-lower O u.0 (least_key O ss) h)

  from_less : (a b : K) (ss : List (List (K × C))) → O.cmp a b ≡ Less → FromAll b ss → FromAll a ss
  from_less a b [] h f = tt
  from_less a b ([] ∷ ss) h f = (tt, from_less a b ss h f.1)
  from_less a b ((u ∷ s) ∷ ss) h f = (low-less O a b u.0 h f.0, from_less a b ss h f.1)

  -- no key is below the least
  least-from : (ss : List (List (K × C))) (k : K) → least_key O ss ≡ Some k → FromAll k ss
  unfolding least_key
  least-from [] k h = cc
  least-from ([] ∷ ss) k h = (tt, least-from ss k h)
  least-from ((u ∷ s) ∷ ss) k h = go (least_key O ss) refl h (least-from ss)
    where
      here : FromAll u.0 ss → Some u.0 ≡ Some k → FromAll k ((u ∷ s) ∷ ss)
      here f h = let z : u.0 ≡ k = cc in subst (λ (j : K). FromAll j ((u ∷ s) ∷ ss)) z (same refl, f)

      go : (o : Option K) → least_key O ss ≡ o → lower O (Some u.0) o ≡ Some k → ((j : K) → least_key O ss ≡ Some j → FromAll j ss) → FromAll k ((u ∷ s) ∷ ss)
      go None e h ih = here (from-none ss e u.0) h
      go (Some b) e h ih = choice (O.cmp u.0 b) refl h (ih b e)
        where
          choice : (d : Ordering) → O.cmp u.0 b ≡ d → pick_key O d u.0 b ≡ Some k → FromAll b ss → FromAll k ((u ∷ s) ∷ ss)
          choice Less q h f = here (from_less u.0 b ss q f) h
          choice Equal q h f = here (rw (O.same u.0 b q) f) h
          choice Greater q h f = let z : b ≡ k = cc in subst (λ (j : K). FromAll j ((u ∷ s) ∷ ss)) z (less (O.flip u.0 b q), f)

  -- the rows that are left are no more
  length-pass : (k : K) (s : List (K × C)) → length (pass O k s) ≤ length s
  unfolding pass
  length-pass k [] = omega arith
  length-pass k (e ∷ l) = go (O.cmp k e.0)
    where
      go : (d : Ordering) → length (choose d l (e ∷ l)) ≤ length (e ∷ l)
      go Less = omega arith
      go Equal = omega arith
      go Greater = omega arith

  total-pass : (k : K) (ss : List (List (K × C))) → total (pass_all O k ss) ≤ total ss
  unfolding pass_all total
  total-pass k [] = omega arith
  total-pass k (s ∷ ss) = omega (arith, length-pass k s, total-pass k ss)

  -- the least key is somewhere
  pub pile-fewer : (ss : List (List (K × C))) (k : K) → least_key O ss ≡ Some k → total (pass_all O k ss) < total ss
  unfolding least_key pass_all pass total
  pile-fewer [] k h = cc
  pile-fewer ([] ∷ ss) k h = omega (arith, pile-fewer ss k h)
  pile-fewer ((u ∷ s) ∷ ss) k h = go (least_key O ss) refl h (pile-fewer ss)
    where
      here : Some u.0 ≡ Some k → total (pass_all O k ((u ∷ s) ∷ ss)) < total ((u ∷ s) ∷ ss)
      here h =
          let z : u.0 ≡ k = cc in
          subst (λ (j : K). total (pass_all O j ((u ∷ s) ∷ ss)) < total ((u ∷ s) ∷ ss)) z (rw (O.self u.0) (omega (arith, total-pass u.0 ss)))

      go : (o : Option K) → least_key O ss ≡ o → lower O (Some u.0) o ≡ Some k → ((j : K) → least_key O ss ≡ Some j → total (pass_all O j ss) < total ss)
          → total (pass_all O k ((u ∷ s) ∷ ss)) < total ((u ∷ s) ∷ ss)
      go None e h ih = here h
      go (Some b) e h ih = choice (O.cmp u.0 b) h (ih b e)
        where
          choice : (d : Ordering) → pick_key O d u.0 b ≡ Some k → total (pass_all O b ss) < total ss
              → total (pass_all O k ((u ∷ s) ∷ ss)) < total ((u ∷ s) ∷ ss)
          choice Less h f = here h
          choice Equal h f = here h
          choice Greater h f =
              let z : b ≡ k = cc in
              subst (λ (j : K). total (pass_all O j ((u ∷ s) ∷ ss)) < total ((u ∷ s) ∷ ss)) z (omega (arith, f, length-pass b (u ∷ s)))

  rising-pass : (k : K) (s : List (K × C)) → Rising O s → Rising O (pass O k s)
  unfolding pass
  rising-pass k [] r = tt
  rising-pass k (e ∷ l) r = go (O.cmp k e.0)
    where
      go : (d : Ordering) → Rising O (choose d l (e ∷ l))
      go Less = r
      go Equal = r.1
      go Greater = r

  pub ascend-pass : (k : K) (ss : List (List (K × C))) → Ascend O ss → Ascend O (pass_all O k ss)
  unfolding pass_all
  ascend-pass k [] r = tt
  ascend-pass k (s ∷ ss) r = (rising-pass k s r.0, ascend-pass k ss r.1)

  module _ {A : Type 0} (g : K → C → Option A → Option A) where
    lookup-laid : (j : K) (s : List (K × C)) (m : List (K × A)) → Rising O s → lookup O j (laid O g s m) ≡ meet (g j) (lookup O j s) (lookup O j m)
    unfolding laid lookup
    lookup-laid j [] m r = refl
    lookup-laid j (c ∷ s) m r =
        lookup-set O j c.0 (g c.0 c.1 (lookup O c.0 (laid O g s m))) (laid O g s m) ∙ go (O.cmp j c.0) refl (lookup-laid j s m r.1)
      where
        go : (d : Ordering) → O.cmp j c.0 ≡ d → lookup O j (laid O g s m) ≡ meet (g j) (lookup O j s) (lookup O j m)
            → choose d (g c.0 c.1 (lookup O c.0 (laid O g s m))) (lookup O j (laid O g s m)) ≡ meet (g j) (choose d (Some c.1) (lookup O j s)) (lookup O j m)
        go Less h ih = ih
        go Greater h ih = ih
        go Equal h ih =
            let z : j ≡ c.0 = O.same j c.0 h in
            let n : lookup O j s ≡ None = rw z (lookup-under O c.0 s r.0) in
            rw (← z, ih, n)

    rising-laid : (s : List (K × C)) (m : List (K × A)) → Rising O m → Rising O (laid O g s m)
    unfolding laid
    rising-laid [] m r = r
    rising-laid (c ∷ s) m r = set-rising O c.0 (g c.0 c.1 (lookup O c.0 (laid O g s m))) (laid O g s m) (rising-laid s m r)

    under-set : (a k : K) (o : Option A) (l : List (K × A)) → O.cmp a k ≡ Less → Under O a l → Under O a (set O k o l)
    unfolding set
    under-set a k None l h u = under-remove O a k l u
    under-set a k (Some v) l h u = under-insert O a k v l h u

    under-laid : (k : K) (s : List (K × C)) (m : List (K × A)) → Under O k s → Under O k m → Under O k (laid O g s m)
    unfolding laid
    under-laid k [] m u v = v
    under-laid k (c ∷ s) m u v = under-set k c.0 (g c.0 c.1 (lookup O c.0 (laid O g s m))) (laid O g s m) u.0 (under-laid k s m u.1 v)

    abbrev look : K → List (List (K × C)) → Option A
    look j [] = None
    look j (s ∷ ss) = meet (g j) (lookup O j s) (look j ss)

    lookup-pile : (j : K) (ss : List (List (K × C))) → Ascend O ss → lookup O j (pile O g ss) ≡ look j ss
    unfolding pile lookup
    lookup-pile j [] r = refl
    lookup-pile j (s ∷ ss) r = lookup-laid j s (pile O g ss) r.0 ∙ rw (lookup-pile j ss r.1)

    pub rising-pile : (ss : List (List (K × C))) → Rising O (pile O g ss)
    unfolding pile
    rising-pile [] = tt
    rising-pile (s ∷ ss) = rising-laid s (pile O g ss) (rising-pile ss)

    under-pile : (k : K) (ss : List (List (K × C))) → Ascend O ss → FromAll k ss → Under O k (pile O g (pass_all O k ss))
    unfolding pile pass_all
    under-pile k [] r f = tt
    under-pile k (s ∷ ss) r f = under-laid k (pass O k s) (pile O g (pass_all O k ss)) (under-pass k s r.0 f.0) (under-pile k ss r.1 f.1)

    look-pass : (j k : K) (ss : List (List (K × C))) → (O.cmp j k ≡ Equal → ⊥) → look j (pass_all O k ss) ≡ look j ss
    unfolding pass_all
    look-pass j k [] n = refl
    look-pass j k (s ∷ ss) n = rw (lookup-pass j k s n, look-pass j k ss n)

    look-answer : (k : K) (ss : List (List (K × C))) → Ascend O ss → FromAll k ss → look k ss ≡ answer O g k ss
    unfolding answer
    look-answer k [] r f = refl
    look-answer k (s ∷ ss) r f = rw (lookup_head k s r.0 f.0, look-answer k ss r.1 f.1)

    pub pile-end : (ss : List (List (K × C))) → least_key O ss ≡ None → pile O g ss ≡ []
    unfolding least_key pile laid
    pile-end [] h = refl
    pile-end ([] ∷ ss) h = pile-end ss h
    pile-end ((u ∷ s) ∷ ss) h = absurd (none-lower O u.0 (least_key O ss) h)

    -- the least key goes first, and then the rest
    pub pile-step : (ss : List (List (K × C))) → Ascend O ss → (k : K) → least_key O ss ≡ Some k
        → pile O g ss ≡ row k (answer O g k ss) (pile O g (pass_all O k ss))
    unfolding lookup
    pile-step ss r k h =
        ext O _ _ (rising-pile ss) (rising-row (answer O g k ss)) (λ j. lookup-pile j ss r ∙ at j (O.cmp j k) refl ∙ inverse (lookup-row j (answer O g k ss)))
      where
        f : FromAll k ss
        f = least-from ss k h

        under : Under O k (pile O g (pass_all O k ss))
        under = under-pile k ss r f

        rising-row : (o : Option A) → Rising O (row k o (pile O g (pass_all O k ss)))
        rising-row None = rising-pile (pass_all O k ss)
        rising-row (Some a) = (under, rising-pile (pass_all O k ss))

        below : (j : K) → lookup O j (pile O g (pass_all O k ss)) ≡ look j (pass_all O k ss)
        below j = lookup-pile j (pass_all O k ss) (ascend-pass k ss r)

        lookup-row : (j : K) (o : Option A) → lookup O j (row k o (pile O g (pass_all O k ss))) ≡ choose (O.cmp j k) o (look j (pass_all O k ss))
        lookup-row j None = go (O.cmp j k) refl
          where
            go : (d : Ordering) → O.cmp j k ≡ d → lookup O j (pile O g (pass_all O k ss)) ≡ choose d None (look j (pass_all O k ss))
            go Less q = below j
            go Greater q = below j
            go Equal q = rw (O.same j k q) (lookup-under O k (pile O g (pass_all O k ss)) under)
        lookup-row j (Some a) = rw (below j)

        at : (j : K) (d : Ordering) → O.cmp j k ≡ d → look j ss ≡ choose (O.cmp j k) (answer O g k ss) (look j (pass_all O k ss))
        at j Less q = rw q (inverse (look-pass j k ss (λ p. cc)))
        at j Greater q = rw q (inverse (look-pass j k ss (λ p. cc)))
        at j Equal q = rw q (rw (O.same j k q) (look-answer k ss r f))

    -- ---- the pile of maps is their merge
    over-laid : (l : List (K × C)) (m : Map O A) → (over O g l m).rows ≡ laid O g l m.rows
    unfolding over put get laid
    over-laid [] m = refl
    over-laid (c ∷ l) m = rw (over-laid l m)

    pub pile-merged : (cs : List (Map O C)) → pile O g (rows_of O g cs) ≡ (merged O g cs).rows
    unfolding pile rows_of merged merge empty
    pile-merged [] = refl
    pile-merged (c ∷ cs) = rw (pile-merged cs, over-laid c.rows (merged O g cs))
