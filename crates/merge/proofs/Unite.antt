-- The first row with the least key, of the topmost source that has one, is what the sources decide of that key.
-- Assumes nothing.
use Rattle.std.specs.Prelude.{None, Option, Some}
use mathlib.Core.Path.{◌≡◌, refl, ◌∙◌}
use mathlib.Core.List.{List, [], ◌∷◌}
use Prim.Native.Nat.{◌<◌}
use Rattle.std.specs.declared.cmp.Ordering.{Ordering}
use Rattle.std.specs.declared.cmp.Ordering.TheVariants.{Less, Equal, Greater}
use Rattle.wire.specs.Order.{Order}
use Rattle.merge.specs.Pile.{least_key, pass_all, Ascend, answer, row, total, itself, uppermost, upper, least, decisions}
use Rattle.merge.proofs.Piles.{pile-end, pile-step, pile-fewer}

module _ {K : Type 0} (O : Order K) {A : Type 0} where
  record Says (ss : List (List (K × Option A))) (e : K × Option A) : Type 0 where
    key : least_key O ss ≡ Some e.0
    says : answer O (itself O) e.0 ss ≡ e.1

  none-key : (ss : List (List (K × Option A))) → least O ss ≡ None → least_key O ss ≡ None
  unfolding least least_key
  none-key [] h = refl
  none-key ([] ∷ ss) h = none-key ss h
  none-key ((u ∷ s) ∷ ss) h = go (least O ss) h
    where
      go : (o : Option (K × Option A)) → upper O (Some u) o ≡ None → least_key O ((u ∷ s) ∷ ss) ≡ None
      go None h = cc
      go (Some l) h = cc

  least-says : (ss : List (List (K × Option A))) (e : K × Option A) → least O ss ≡ Some e → Says ss e
  unfolding least least_key answer
  least-says [] e h = cc
  least-says ([] ∷ ss) e h = let i = least-says ss e h in record { key = i.key; says = i.says }
  least-says ((u ∷ s) ∷ ss) e h = go (least O ss) refl h (least-says ss)
    where
      go : (o : Option (K × Option A)) → least O ss ≡ o → upper O (Some u) o ≡ Some e → ((l : K × Option A) → least O ss ≡ Some l → Says ss l)
          → Says ((u ∷ s) ∷ ss) e
      go None g h ih = let z : u ≡ e = cc in rw (← z) (record { key = rw (none-key ss g); says = rw (O.self u.0) })
      go (Some l) g h ih = choice (O.cmp u.0 l.0) refl h (ih l g)
        where
          choice : (d : Ordering) → O.cmp u.0 l.0 ≡ d → Some (uppermost O d u l) ≡ Some e → Says ss l → Says ((u ∷ s) ∷ ss) e
          choice Less q h i = let z : u ≡ e = cc in rw (← z) (record { key = rw (i.key, q); says = rw (O.self u.0) })
          choice Equal q h i = let z : u ≡ e = cc in rw (← z) (record { key = rw (i.key, q); says = rw (O.self u.0) })
          choice Greater q h i = let z : l ≡ e = cc in rw (← z) (record { key = rw (i.key, q); says = rw (O.flip u.0 l.0 q) i.says })

  -- no row is left: nothing is left
  pub decisions-end : (ss : List (List (K × Option A))) → least O ss ≡ None → decisions O ss ≡ []
  decisions-end ss h = pile-end O (itself O) ss (none-key ss h)

  module _ (ss : List (List (K × Option A))) {e : K × Option A} (h : least O ss ≡ Some e) where
    -- the least key goes first, as the topmost source that has it says, and then the rest
    pub decisions-step : Ascend O ss → decisions O ss ≡ row e.0 e.1 (decisions O (pass_all O e.0 ss))
    decisions-step r = let i = least-says ss e h in pile-step O (itself O) ss r e.0 i.key ∙ rw i.says

    pub decisions-fewer : total (pass_all O e.0 ss) < total ss
    decisions-fewer = pile-fewer O ss e.0 (least-says ss e h).key
