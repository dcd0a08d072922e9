-- Rows (key, value) in rising order, over any ordered keys: lookup, insert, remove.
use Rattle.std.specs.Prelude.{◌≡◌, List, [], ◌∷◌, None, Option, Some}
use Rattle.std.specs.declared.cmp.Ordering.{Ordering}
use Rattle.std.specs.declared.cmp.Ordering.TheVariants.{Less, Equal, Greater}
use Rattle.wire.specs.Order.{Order}

-- the first where a comparison says equal, else the second
abbrev pub choose : {X : Type 0} → Ordering → X → X → X
choose Less a b = b
choose Equal a b = a
choose Greater a b = b

module _ {K : Type 0} (O : Order K) where
  module _ {A : Type 0} where
    unfoldable pub lookup : K → List (K × A) → Option A
    lookup k [] = None
    lookup k (e ∷ l) = choose (O.cmp k e.0) (Some e.1) (lookup k l)

    abbrev pub place : Ordering → K × A → K × A → List (K × A) → List (K × A) → List (K × A)
    place Less new e l rest = new ∷ (e ∷ l)
    place Equal new e l rest = new ∷ l
    place Greater new e l rest = e ∷ rest

    unfoldable pub insert : K → A → List (K × A) → List (K × A)
    insert k v [] = (k, v) ∷ []
    insert k v (e ∷ l) = place (O.cmp k e.0) (k, v) e l (insert k v l)

    unfoldable pub remove : K → List (K × A) → List (K × A)
    remove k [] = []
    remove k (e ∷ l) = choose (O.cmp k e.0) (remove k l) (e ∷ remove k l)

    unfoldable pub set : K → Option A → List (K × A) → List (K × A)
    set k None l = remove k l
    set k (Some v) l = insert k v l

    -- k is below each key
    abbrev pub Under : K → List (K × A) → Type 0
    Under k [] = Unit {0}
    Under k (e ∷ l) = (O.cmp k e.0 ≡ Less) × Under k l

    abbrev pub Rising : List (K × A) → Type 0
    Rising [] = Unit {0}
    Rising (e ∷ l) = Under e.0 l × Rising l
