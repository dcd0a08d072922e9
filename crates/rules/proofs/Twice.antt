-- Folding a record twice is folding it once, and so for a layer.
use Rattle.std.specs.Prelude.{None, Option, Some}
use mathlib.Core.Path.{◌≡◌, refl, sym as inverse, ◌∙◌, ap}
use mathlib.Core.Bool.{Bool, true, false}
use Rattle.wire.specs.Orders.{by_number, by_bytes}
use Rattle.wire.specs.Maps.{meet, get, get-merge, map-ext}
use Rattle.image.specs.Meaning.{Text, Entries, Attributes, Body, Meta, Node, Base, Changes, Fields, Names, Change, Delta, Record, Layer, directory, file, symlink, special, tombstone, delta, kind_of, changed_kind}
use Rattle.rules.specs.Initial.{Initial}
use Rattle.rules.specs.Fold.{given, add_all, remove_all, alter_all, on_meta, on_body, applied, first_body, first_node, same_kind, fold_record}
use Rattle.rules.specs.Queue.{fold_layer}
use Rattle.rules.proofs.Laws.{fold_same, fold-none, fold-tombstone, kind-on, kind-first, added-removed}

given-twice : {A : Type 0} (o : Option A) (x : A) → given o (given o x) ≡ given o x
given-twice None x = refl
given-twice (Some a) x = refl

-- two steps that put values in place, twice
places : {A B X : Type 0} (a : Option A) (r : Option B) (f : A → X) (g : B → X) (x : X)
    → meet (λ i o. f i) a (meet (λ u o. g u) r (meet (λ i o. f i) a (meet (λ u o. g u) r x))) ≡ meet (λ i o. f i) a (meet (λ u o. g u) r x)
places None None f g x = refl
places None (Some r) f g x = refl
places (Some a) r f g x = refl

entries_twice : (a : Entries) (r : Names) (es : Entries) → add_all a (remove_all r (add_all a (remove_all r es))) ≡ add_all a (remove_all r es)
entries_twice a r es = map-ext by_bytes _ _ (λ k. simp added-removed (places (get by_bytes k a) (get by_bytes k r) Some (λ u. None) (get by_bytes k es)))

values-twice : (c : Option Changes) (vs : Attributes) → meet alter_all c (meet alter_all c vs) ≡ meet alter_all c vs
values-twice None vs = refl
values-twice (Some c) vs = map-ext by_bytes _ _ (λ k. simp get-merge (go (get by_bytes k c) (get by_bytes k vs)))
  where
    go : (o : Option (Option Text)) (x : Option Text) → meet (λ i o. i) o (meet (λ i o. i) o x) ≡ meet (λ i o. i) o x
    go None x = refl
    go (Some a) x = refl

meta-twice : (f : Fields) (m : Meta) → on_meta f (on_meta f m) ≡ on_meta f m
meta-twice f m = simp (given-twice, values-twice)

body_twice : (c : Change) (b : Body) → on_body c (on_body c b) ≡ on_body c b
body_twice (directory p a r) (directory q es) = rw (given-twice, entries_twice)
body_twice (directory p a r) (file n) = refl
body_twice (directory p a r) (symlink t) = refl
body_twice (directory p a r) (special d) = refl
body_twice (file n) (directory q es) = refl
body_twice (file n) (file m) = rw given-twice
body_twice (file n) (symlink t) = refl
body_twice (file n) (special d) = refl
body_twice (symlink t) (directory q es) = refl
body_twice (symlink t) (file n) = refl
body_twice (symlink t) (symlink u) = rw given-twice
body_twice (symlink t) (special d) = refl
body_twice (special s d) b = refl

applied-twice : (d : Delta) (n : Node) → applied d (applied d n) ≡ applied d n
applied-twice d n = λ i. record { meta = meta-twice d.fields n.meta i; body = body_twice d.change n.body i }

module _ (initial : Initial) where
  again : (d : Delta) (n : Node) (b : Bool) → same_kind (changed_kind d.change) (kind_of n.body) ≡ b
      → fold_record initial (delta d) (fold_record initial (delta d) (Some n)) ≡ fold_record initial (delta d) (Some n)
  unfolding fold_record
  again d n true e = rw e (rw (kind-on, e) (ap Some (applied-twice d n)))
  again d n false e = rw e (rw e)

  pub record-twice : (r : Record) (n : Option Node) → fold_record initial r (fold_record initial r n) ≡ fold_record initial r n
  record-twice tombstone n = simp fold-tombstone
  record-twice (delta d) None =
      let c = d.change in
      let first = first_node initial c in
      rw (fold-none, fold_same initial d (applied d first) (inverse (kind-on c (first_body c) ∙ kind-first c))) (ap Some (applied-twice d first))
  record-twice (delta d) (Some n) = again d n (same_kind (changed_kind d.change) (kind_of n.body)) refl

  pub layer-twice : (l : Layer) (t : Base) → fold_layer initial l (fold_layer initial l t) ≡ fold_layer initial l t
  layer-twice l t = map-ext by_number _ _ (λ i. simp get-merge (go (get by_number i l) (get by_number i t)))
    where
      go : (o : Option Record) (x : Option Node) → meet (fold_record initial) o (meet (fold_record initial) o x) ≡ meet (fold_record initial) o x
      go None x = refl
      go (Some r) x = record-twice r x
