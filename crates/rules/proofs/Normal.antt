-- Normalising a layer keeps the layers orderly and the table as it is.
use Rattle.std.specs.Prelude.{IsSome, None, Option, Some}
use mathlib.Core.Path.{◌≡◌, refl, ◌∙◌, ap, fun_ext}
use mathlib.Core.List.{List, [], ◌∷◌, ◌++◌}
use mathlib.Core.Bool.{Bool, true, false, not}
use Prim.Native.Nat.{ℕ}
use lib.Dec.{eqb, eqb→eq}
use Rattle.wire.specs.Orders.{by_number, by_bytes}
use Rattle.wire.specs.Maps.{meet, empty, get, sift, get-merge, get-empty, get-keep, map-ext}
use Rattle.image.specs.Meaning.{Text, Kind, Entries, Body, Node, Base, Fields, Names, Change, Record, Layer, directory, file, symlink, special, tombstone, delta, kind_of, changed_kind}
use Rattle.rules.specs.Initial.{Initial}
use Rattle.rules.specs.Fold.{given, add_all, remove_all, on_meta, first_node, fold_record}
use Rattle.rules.specs.Stacks.{over?, stack_on, stack}
use Rattle.rules.specs.Reads.{look, type, base_type, child, base_child, is_there}
use Rattle.rules.specs.Changes.{map_if}
use Rattle.rules.specs.Normalise.{leads_to, less_added, less_removed, normal_directory, normal_change, normal_record, normal_layer}
use Rattle.rules.specs.Queue.{fold_all}
use Rattle.rules.specs.Orderly.{Disjoint, Right, OrderlyStack, OrderlyLayers}
use Rattle.rules.proofs.Laws.{child-law, fold_same, fold-none, added-removed, not-some}
use Rattle.rules.proofs.Folded.{read-folded, type-folded}
use Rattle.rules.proofs.Layers.{get-table, stack-append, all_append}
use Rattle.rules.proofs.Local.{Right?, only-directory}
use Rattle.rules.proofs.Lift.{over_below, over-right}

-- ---- the names of one delta

-- at one name: what is added, removed and beneath
at_name : (x : Option ℕ) (y : Option (Unit {0})) (z : Option ℕ) → (IsSome x → IsSome y → ⊥)
    → meet (λ i o. Some i) (sift (λ c. not (leads_to z c)) x) (meet (λ u o. None) (sift (λ u. is_there z) y) z) ≡ meet (λ i o. Some i) x (meet (λ u o. None) y z)
at_name None None None n = refl
at_name None None (Some j) n = refl
at_name None (Some u) None n = refl
at_name None (Some u) (Some j) n = refl
at_name (Some c) (Some u) z n = absurd (n refl refl)
at_name (Some c) None None n = refl
at_name (Some c) None (Some j) n = go (eqb j c) refl
  where
    go : (b : Bool) → eqb j c ≡ b → meet (λ i o. Some i) (elim (not b) [ true ↦ Some c | false ↦ None ]) (Some j) ≡ Some c
    go true e = ap Some (eqb→eq j c (rw e tt))
    go false e = refl

normal-entries : (a : Entries) (r : Names) (es : Entries) → Disjoint a r
    → add_all (less_added (λ k. get by_bytes k es) a) (remove_all (less_removed (λ k. get by_bytes k es) r) es) ≡ add_all a (remove_all r es)
normal-entries a r es n = map-ext by_bytes _ _ (λ k. simp (added-removed, get-keep) (at_name (get by_bytes k a) (get by_bytes k r) (get by_bytes k es) (n k)))

none-entries : (a : Entries) (r : Names) → add_all a (remove_all (empty by_bytes) (empty by_bytes)) ≡ add_all a (remove_all r (empty by_bytes))
none-entries a r = map-ext by_bytes _ _ (λ k. simp (added-removed, get-empty) (go (get by_bytes k a) (get by_bytes k r)))
  where
    go : (x : Option ℕ) (y : Option (Unit {0})) → meet (λ i o. Some i) x None ≡ meet (λ i o. Some i) x (meet (λ u o. None) y None)
    go None None = refl
    go None (Some u) = refl
    go (Some c) y = refl

-- a kept row is a row
sifted : {A : Type 0} (p : A → Bool) (o : Option A) → IsSome (sift p o) → IsSome o
sifted p None h = h
sifted p (Some a) h = refl

less-disjoint : (below : Text → Option ℕ) (a : Entries) (r : Names) → Disjoint a r → Disjoint (less_added below a) (less_removed below r)
less-disjoint below a r n k h i = n k (sifted _ (get by_bytes k a) (rw get-keep at h)) (sifted _ (get by_bytes k r) (rw get-keep at i))

none-removed : (a : Entries) → Disjoint a (empty by_bytes)
none-removed a k x y = not-some (rw get-empty at y)

normal-kind : (below : Text → Option ℕ) (x y : Option Kind) (r : Record) → type.step (normal_record below x r) y ≡ type.step r y
normal-kind below x y tombstone = refl
normal-kind below x y (delta d) = ap Some (go d.change x)
  where
    go : (c : Change) (x : Option Kind) → changed_kind (normal_change below x c) ≡ changed_kind c
    go (directory p a r) None = refl
    go (directory p a r) (Some directory) = refl
    go (directory p a r) (Some file) = refl
    go (directory p a r) (Some symlink) = refl
    go (directory p a r) (Some (special s)) = refl
    go (file n) x = refl
    go (symlink t) x = refl
    go (special s d) x = refl

-- ---- one record

abbrev delta_of : Fields → Change → Record
delta_of f c = delta (record { fields = f; change = c })

-- a record s that does over n what r does
record Like (initial : Initial) (s r : Record) (n : Option Node) : Type 0 where
  same : fold_record initial s n ≡ fold_record initial r n
  right : Right s (base_type n)

module _ (initial : Initial) where
  like-directory : (f : Fields) (p : Option ℕ) (a : Entries) (r : Names) (n : Option Node) → Right (delta_of f (directory p a r)) (base_type n)
      → Like initial (delta_of f (normal_directory (λ k. base_child k n) (base_type n) p a r)) (delta_of f (directory p a r)) n
  like-directory f p a r None h = record {
    same = rw (fold-none initial (record { fields = f; change = directory p a r }))
        (fold-none initial _ ∙ ap Some (λ i. record { meta = on_meta f (first_node initial (directory p a r)).meta; body = directory (given p 1) (none-entries a r i) }));
    right = (h.0, none-removed a);
  }
  like-directory f p a r (Some n) h = go n.body h.0
    where
      node : Body → Node
      node b = record { meta = n.meta; body = b }

      go : (b : Body) → Kind.directory ≡ kind_of b → Like initial (delta_of f (normal_directory (λ k. base_child k (Some (node b))) (base_type (Some (node b))) p a r)) (delta_of f (directory p a r)) (Some (node b))
      go = only-directory (λ b. Like initial (delta_of f (normal_directory (λ k. base_child k (Some (node b))) (base_type (Some (node b))) p a r)) (delta_of f (directory p a r)) (Some (node b)))
          (λ q es. record {
            same = rw (fold_same initial (record { fields = f; change = directory p a r }) (node (directory q es)) refl)
                (fold_same initial _ (node (directory q es)) refl ∙ ap Some (λ i. record { meta = on_meta f n.meta; body = directory (given p q) (normal-entries a r es h.1 i) }));
            right = (refl, less-disjoint (λ k. get by_bytes k es) a r h.1);
          })

  like-change : (f : Fields) (c : Change) (n : Option Node) → Right (delta_of f c) (base_type n)
      → Like initial (delta_of f (normal_change (λ k. base_child k n) (base_type n) c)) (delta_of f c) n
  like-change f (directory p a r) n h = like-directory f p a r n h
  like-change f (file m) n h = record { same = refl; right = h }
  like-change f (symlink t) n h = record { same = refl; right = h }
  like-change f (special s d) n h = record { same = refl; right = h }

  like-record : (r : Record) (n : Option Node) → Right r (base_type n) → Like initial (normal_record (λ k. base_child k n) (base_type n) r) r n
  like-record tombstone n h = record { same = refl; right = tt }
  like-record (delta d) n h = like-change d.fields d.change n h

-- ---- the lower part of a stack changed for one that shows the same type

stack-below : (i : ℕ) (ls : List Layer) (rs : List Record) (b : Option Node) → OrderlyStack (stack_on i ls rs) b → OrderlyStack rs b
unfolding stack_on
stack-below i [] rs b o = o
stack-below i (l ∷ ls) rs b o = over_below (get by_number i l) rs b (stack-below i ls (over? (get by_number i l) rs) b o)

over-type : (q : Option Record) (rs ss : List Record) (b : Option Node) → look type ss b ≡ look type rs b → look type (over? q ss) b ≡ look type (over? q rs) b
unfolding look
over-type None rs ss b e = e
over-type (Some r) rs ss b e = ap (type.step r) e

over-again : (q : Option Record) (rs ss : List Record) (b : Option Node) → look type ss b ≡ look type rs b → OrderlyStack ss b → OrderlyStack (over? q rs) b → OrderlyStack (over? q ss) b
over-again None rs ss b e o h = o
over-again (Some r) rs ss b e o h = (rw e h.0, o)

stack-again : (i : ℕ) (ls : List Layer) (rs ss : List Record) (b : Option Node) → look type ss b ≡ look type rs b → OrderlyStack ss b
    → OrderlyStack (stack_on i ls rs) b → OrderlyStack (stack_on i ls ss) b
unfolding stack_on
stack-again i [] rs ss b e o h = o
stack-again i (l ∷ ls) rs ss b e o h =
    let q = get by_number i l in
    stack-again i ls (over? q rs) (over? q ss) b (over-type q rs ss b e) (over-again q rs ss b e o (stack-below i ls (over? q rs) b h)) h

-- ---- a layer

module _ (initial : Initial) where
  -- what a normalised layer holds of an inode, said of the table below
  abbrev normal : List Layer → Base → ℕ → Record → Record
  normal bs t i = normal_record (λ k. base_child k (get by_number i (fold_all initial bs t))) (base_type (get by_number i (fold_all initial bs t)))

  normal-get : (bs : List Layer) (t : Base) (l : Layer) → OrderlyLayers bs t → (i : ℕ) → get by_number i (normal_layer bs t l) ≡ map_if (normal bs t i) (get by_number i l)
  unfolding normal_layer look
  normal-get bs t l o i = simp (get-merge, get-empty) (go (get by_number i l) (get-table initial i bs t) (type-folded initial (stack i bs) (get by_number i t) (o i))
      (fun_ext (λ k. read-folded initial (child k) (child-law initial k) (stack i bs) (get by_number i t) (o i))))
    where
      go : (q : Option Record) {n : Option Node} {x : Option Kind} {see : Text → Option ℕ} → get by_number i (fold_all initial bs t) ≡ n → x ≡ base_type n → see ≡ (λ k. base_child k n)
          → meet (λ r o. Some (normal_record see x r)) q None ≡ map_if (normal bs t i) q
      go None a b c = refl
      go (Some r) a b c = rw (a, b, c)

  module _ (bs : List Layer) (l : Layer) (ms : List Layer) (t : Base) (o : OrderlyLayers (bs ++ (l ∷ ms)) t) where
    at-stack : (i : ℕ) (l : Layer) → stack i (bs ++ (l ∷ ms)) ≡ stack_on i ms (over? (get by_number i l) (stack i bs))
    unfolding stack_on
    at-stack i l = stack-append i bs (l ∷ ms) []

    here-orderly : (i : ℕ) → OrderlyStack (over? (get by_number i l) (stack i bs)) (get by_number i t)
    here-orderly i = stack-below i ms (over? (get by_number i l) (stack i bs)) (get by_number i t) (rw at-stack at (o i))

    under-orderly : OrderlyLayers bs t
    under-orderly i = over_below (get by_number i l) (stack i bs) (get by_number i t) (here-orderly i)

    here-right : (i : ℕ) → Right? (get by_number i l) (base_type (get by_number i (fold_all initial bs t)))
    here-right i = rw get-table (over-right initial (get by_number i l) (stack i bs) (get by_number i t) (here-orderly i))

    pub normal-table : fold_all initial (bs ++ (normal_layer bs t l ∷ ms)) t ≡ fold_all initial (bs ++ (l ∷ ms)) t
    unfolding fold_all
    normal-table =
        rw (all_append initial bs (normal_layer bs t l ∷ ms) t, all_append initial bs (l ∷ ms) t)
        (ap (fold_all initial ms) (map-ext by_number _ _ (λ i. simp (get-merge, normal-get bs t l under-orderly)
        (go (get by_number i l) (get by_number i (fold_all initial bs t)) (here-right i)))))
      where
        go : (q : Option Record) (n : Option Node) → Right? q (base_type n) → meet (fold_record initial) (map_if (normal_record (λ k. base_child k n) (base_type n)) q) n ≡ meet (fold_record initial) q n
        go None n h = refl
        go (Some r) n h = (like-record initial r n h).same

    pub normal-orderly : OrderlyLayers (bs ++ (normal_layer bs t l ∷ ms)) t
    unfolding look
    normal-orderly i = rw (at-stack i (normal_layer bs t l), normal-get bs t l under-orderly i)
        (stack-again i ms (over? (get by_number i l) (stack i bs)) _ (get by_number i t) (types (get by_number i l)) (order (get by_number i l) (here-right i)) (rw at-stack at (o i)))
      where
        types : (q : Option Record) → look type (over? (map_if (normal bs t i) q) (stack i bs)) (get by_number i t) ≡ look type (over? q (stack i bs)) (get by_number i t)
        types None = refl
        types (Some r) = normal-kind (λ k. base_child k (get by_number i (fold_all initial bs t))) (base_type (get by_number i (fold_all initial bs t))) (look type (stack i bs) (get by_number i t)) r

        order : (q : Option Record) → Right? q (base_type (get by_number i (fold_all initial bs t))) → OrderlyStack (over? (map_if (normal bs t i) q) (stack i bs)) (get by_number i t)
        order None h = under-orderly i
        order (Some r) h = (rw (type-folded initial (stack i bs) (get by_number i t) (under-orderly i), ← (get-table initial i bs t)) (like-record initial r (get by_number i (fold_all initial bs t)) h).right, under-orderly i)
