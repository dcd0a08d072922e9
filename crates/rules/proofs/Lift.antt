-- From an inode to the store: a change of one live record that acts at its inode keeps the layers orderly and acts on the table.
use Rattle.std.specs.Prelude.{None, Option, Some}
use mathlib.Core.Path.{◌≡◌, refl}
use mathlib.Core.List.{List, [], ◌∷◌, ◌++◌}
use Prim.Native.Nat.{ℕ}
use Rattle.std.specs.declared.cmp.Ordering.{Ordering}
use Rattle.std.specs.declared.cmp.Ordering.TheVariants.{Less, Equal, Greater}
use Rattle.wire.specs.Rows.{choose}
use Rattle.wire.specs.Orders.{by_number}
use Rattle.wire.specs.Maps.{meet, get, get-put, get-merge, map-ext}
use Rattle.image.specs.Meaning.{Node, Base, Record, Layer}
use Rattle.rules.specs.Initial.{Initial}
use Rattle.rules.specs.Fold.{fold_record}
use Rattle.rules.specs.Stacks.{over?, stack_on, stack}
use Rattle.rules.specs.Reads.{base_type}
use Rattle.rules.specs.Changes.{alter}
use Rattle.rules.specs.Queue.{fold_layer, fold_all}
use Rattle.rules.specs.Orderly.{OrderlyStack, OrderlyLayers}
use Rattle.rules.proofs.Folded.{folded, type-folded}
use Rattle.rules.proofs.Layers.{get-table, stack-append, all_append}
use Rattle.rules.proofs.Local.{Right?, Acts}

pub over_below : (o : Option Record) (rs : List Record) (b : Option Node) → OrderlyStack (over? o rs) b → OrderlyStack rs b
over_below None rs b h = h
over_below (Some r) rs b h = h.1

-- layers with a live layer over them
pub live-stack : (i : ℕ) (bs : List Layer) (l : Layer) → stack i (bs ++ (l ∷ [])) ≡ over? (get by_number i l) (stack i bs)
unfolding stack_on
live-stack i bs l = stack-append i bs (l ∷ []) []

module _ (initial : Initial) where
  pub live_table : (bs : List Layer) (l : Layer) (t : Base) → fold_all initial (bs ++ (l ∷ [])) t ≡ fold_layer initial l (fold_all initial bs t)
  unfolding fold_all
  live_table bs l t = all_append initial bs (l ∷ []) t

  -- order of a stack under a live record
  over-orderly : (o : Option Record) (rs : List Record) (b : Option Node) → OrderlyStack rs b → Right? o (base_type (folded initial rs b)) → OrderlyStack (over? o rs) b
  over-orderly None rs b h q = h
  over-orderly (Some r) rs b h q = (rw (type-folded initial rs b h) q, h)

  pub over-right : (o : Option Record) (rs : List Record) (b : Option Node) → OrderlyStack (over? o rs) b → Right? o (base_type (folded initial rs b))
  over-right None rs b h = tt
  over-right (Some r) rs b h = rw (← (type-folded initial rs b h.1)) h.0

  module _ (bs : List Layer) (l : Layer) (t : Base) (o : OrderlyLayers (bs ++ (l ∷ [])) t) where
    stack-orderly : (i : ℕ) → OrderlyStack (over? (get by_number i l) (stack i bs)) (get by_number i t)
    stack-orderly i = rw live-stack at (o i)

    pub below-orderly : OrderlyLayers bs t
    below-orderly i = over_below (get by_number i l) (stack i bs) (get by_number i t) (stack-orderly i)

    -- the live record of an inode is right over the node beneath it
    pub live-right : (i : ℕ) → Right? (get by_number i l) (base_type (get by_number i (fold_all initial bs t)))
    live-right i = rw get-table (over-right (get by_number i l) (stack i bs) (get by_number i t) (stack-orderly i))

    module _ (i : ℕ) (h : Option Record → Option Record) (f : Option Node → Option Node)
        (act : Acts initial h f (get by_number i l) (get by_number i (fold_all initial bs t))) where
      pub lift-orderly : OrderlyLayers (bs ++ (alter i h l ∷ [])) t
      lift-orderly j = rw (live-stack, get-put) (go (by_number.cmp j i) refl)
        where
          go : (c : Ordering) → by_number.cmp j i ≡ c → OrderlyStack (over? (choose c (h (get by_number i l)) (get by_number j l)) (stack j bs)) (get by_number j t)
          go Less e = stack-orderly j
          go Greater e = stack-orderly j
          go Equal e =
              let z : j ≡ i = by_number.same j i e in
              over-orderly (h (get by_number i l)) (stack j bs) (get by_number j t) (below-orderly j)
              (rw (z, ← (get-table initial i bs t)) act.right)

      pub lift-table : fold_all initial (bs ++ (alter i h l ∷ [])) t ≡ alter i f (fold_all initial (bs ++ (l ∷ [])) t)
      lift-table =
          rw (live_table bs (alter i h l) t, live_table bs l t)
          (map-ext by_number _ _ (λ j. simp (get-merge, get-put) (go j (by_number.cmp j i) refl)))
        where
          go : (j : ℕ) (c : Ordering) → by_number.cmp j i ≡ c
              → meet (fold_record initial) (choose c (h (get by_number i l)) (get by_number j l)) (get by_number j (fold_all initial bs t))
              ≡ choose c (f (meet (fold_record initial) (get by_number i l) (get by_number i (fold_all initial bs t)))) (meet (fold_record initial) (get by_number j l) (get by_number j (fold_all initial bs t)))
          go j Less e = refl
          go j Greater e = refl
          go j Equal e = rw (by_number.same j i e) act.step
