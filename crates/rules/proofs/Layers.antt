-- Layers over a base: reads are reads of the folded table alone; freeze, fold and pop keep the table and the order.
use Rattle.std.specs.Prelude.{None, Option, Some}
use mathlib.Core.Path.{◌≡◌, refl, sym as inverse, ◌∙◌, ap}
use mathlib.Core.List.{List, [], ◌∷◌, ◌++◌}
use Prim.Native.Nat.{ℕ}
use Rattle.wire.specs.Orders.{by_number}
use Rattle.wire.specs.Maps.{meet, empty, get, get-merge, get-empty, map-ext}
use Rattle.image.specs.Meaning.{Node, Base, Record, Layer}
use Rattle.rules.specs.Initial.{Initial, Accepted}
use Rattle.rules.specs.Fold.{fold_record}
use Rattle.rules.specs.Stacks.{over?, stack_on, stack}
use Rattle.rules.specs.Reads.{Read, look}
use Rattle.rules.specs.Views.{view}
use Rattle.rules.specs.Queue.{fold_layer, fold_all}
use Rattle.rules.specs.Orderly.{OrderlyStack, OrderlyLayers}
use Rattle.rules.proofs.Laws.{Law}
use Rattle.rules.proofs.Folded.{folded, read-folded, view-folded, low, orderly-popped, orderly-again}
use Rattle.rules.proofs.Twice.{layer-twice}

-- ---- stacks

stack-low : (i : ℕ) (ls : List Layer) (rs : List Record) (r : Record) → stack_on i ls (low rs r) ≡ low (stack_on i ls rs) r
unfolding stack_on
stack-low i [] rs r = refl
stack-low i (l ∷ ls) rs r = ap (stack_on i ls) (go (get by_number i l)) ∙ stack-low i ls (over? (get by_number i l) rs) r
  where
    go : (o : Option Record) → over? o (low rs r) ≡ low (over? o rs) r
    go None = refl
    go (Some q) = refl

pub stack-append : (i : ℕ) (ls ms : List Layer) (rs : List Record) → stack_on i (ls ++ ms) rs ≡ stack_on i ms (stack_on i ls rs)
unfolding stack_on
stack-append i [] ms rs = refl
stack-append i (l ∷ ls) ms rs = stack-append i ls ms (over? (get by_number i l) rs)

pub stack-empty : (i : ℕ) (ls : List Layer) → stack i (ls ++ (empty by_number ∷ [])) ≡ stack i ls
unfolding stack_on
stack-empty i ls = rw (stack-append, get-empty)

module _ (initial : Initial) where
  -- ---- the table of layers

  pub over-folded : (o : Option Record) (rs : List Record) (b : Option Node) → folded initial (over? o rs) b ≡ meet (fold_record initial) o (folded initial rs b)
  unfolding folded
  over-folded None rs b = refl
  over-folded (Some r) rs b = refl

  -- it holds, of each inode, its stack folded
  get-all : (i : ℕ) (ls : List Layer) (t : Base) (rs : List Record) (b : Option Node) → get by_number i t ≡ folded initial rs b
      → get by_number i (fold_all initial ls t) ≡ folded initial (stack_on i ls rs) b
  unfolding fold_all stack_on
  get-all i [] t rs b h = h
  get-all i (l ∷ ls) t rs b h = get-all i ls (fold_layer initial l t) (over? (get by_number i l) rs) b (rw (get-merge, over-folded, h))

  pub get-table : (i : ℕ) (ls : List Layer) (t : Base) → get by_number i (fold_all initial ls t) ≡ folded initial (stack i ls) (get by_number i t)
  unfolding folded
  get-table i ls t = get-all i ls t [] (get by_number i t) refl

  pub all_append : (ls ms : List Layer) (t : Base) → fold_all initial (ls ++ ms) t ≡ fold_all initial ms (fold_all initial ls t)
  unfolding fold_all
  all_append [] ms t = refl
  all_append (l ∷ ls) ms t = all_append ls ms (fold_layer initial l t)

  -- reads of orderly layers are reads of their table
  pub read_table : {X : Type 0} (R : Read X) → Law initial R → (ls : List Layer) (t : Base) → OrderlyLayers ls t
      → (i : ℕ) → look R (stack i ls) (get by_number i t) ≡ look R [] (get by_number i (fold_all initial ls t))
  read_table R law ls t o i = rw get-table (read-folded initial R law (stack i ls) (get by_number i t) (o i))

  pub view-table : Accepted initial → (ls : List Layer) (t : Base) → OrderlyLayers ls t
      → (i : ℕ) → view initial i (stack i ls) (get by_number i t) ≡ view initial i [] (get by_number i (fold_all initial ls t))
  view-table ok ls t o i = rw get-table (view-folded initial ok i (stack i ls) (get by_number i t) (o i))

  -- ---- fold: the front is folded into the base, and still queued

  pub fold-table : (l : Layer) (ls : List Layer) (t : Base) → fold_all initial (l ∷ ls) (fold_layer initial l t) ≡ fold_all initial (l ∷ ls) t
  unfolding fold_all
  fold-table l ls t = rw layer-twice

  module _ (l : Layer) (ls : List Layer) (t : Base) (o : OrderlyLayers (l ∷ ls) t) where
    pub fold-orderly : OrderlyLayers (l ∷ ls) (fold_layer initial l t)
    unfolding stack_on
    fold-orderly i = rw get-merge (go (get by_number i l) (o i))
      where
        go : (q : Option Record) → OrderlyStack (stack_on i ls (over? q [])) (get by_number i t)
            → OrderlyStack (stack_on i ls (over? q [])) (meet (fold_record initial) q (get by_number i t))
        go None h = h
        go (Some r) h =
            rw (stack-low i ls [] r) (orderly-again initial (stack i ls) r (get by_number i t) (rw (stack-low i ls [] r) at h))

    -- pop: the front goes, where folding it again would change nothing
    pub pop-orderly : fold_layer initial l t ≡ t → OrderlyLayers ls t
    unfolding stack_on
    pop-orderly e i =
        rw (ap (get by_number i) (inverse e) ∙ get-merge by_number (λ i r n. fold_record initial r n) i l t) (go (get by_number i l) (o i))
      where
        go : (q : Option Record) → OrderlyStack (stack_on i ls (over? q [])) (get by_number i t) → OrderlyStack (stack i ls) (meet (fold_record initial) q (get by_number i t))
        go None h = h
        go (Some r) h = orderly-popped initial (stack i ls) r (get by_number i t) (rw (stack-low i ls [] r) at h)

    pub pop-table : fold_layer initial l t ≡ t → fold_all initial ls t ≡ fold_all initial (l ∷ ls) t
    unfolding fold_all
    pop-table e = ap (fold_all initial ls) (inverse e)

  -- ---- freeze: the live layer is the last batch, and the new live layer is empty

  pub freeze-orderly : (ls : List Layer) (t : Base) → OrderlyLayers ls t → OrderlyLayers (ls ++ (empty by_number ∷ [])) t
  freeze-orderly ls t o i = rw stack-empty (o i)

  pub freeze-table : (ls : List Layer) (t : Base) → fold_all initial (ls ++ (empty by_number ∷ [])) t ≡ fold_all initial ls t
  unfolding fold_all
  freeze-table ls t = rw all_append (map-ext by_number _ _ (λ i. simp (get-merge, get-empty)))
