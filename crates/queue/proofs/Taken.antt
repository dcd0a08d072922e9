-- What `?` takes of an option that is there on a condition.
-- Assumes nothing.
use Rattle.std.specs.Prelude.{None, Option, Some, Result, Ok, Err, SomeIff}
use Rattle.std.specs.Option.{ok_or}
use mathlib.Core.Path.{◌≡◌}

module _ {A E : Type 0} (o : Option A) (e : E) {P : Type 0} (v : A) {u : Result A E} (s : SomeIff o P v) (d : u ≡ ok_or o e) where
  pub taken : {x : A} → u ≡ Ok x → P × (x ≡ v)
  taken {x} h = go o s d
    where
      go : (o : Option A) → SomeIff o P v → u ≡ ok_or o e → P × (x ≡ v)
      go None s d = absurd (cc)
      go (Some a) s d = let y : x ≡ a = cc in (s.0, cc)

  pub untaken : {f : E} → u ≡ Err f → {B : Type 0} {r : Result B E} → r ≡ Err f → (P → ⊥) × (r ≡ Err e)
  untaken {f} h {B} {r} z = go o s d
    where
      go : (o : Option A) → SomeIff o P v → u ≡ ok_or o e → (P → ⊥) × (r ≡ Err e)
      go None s d = let y : f ≡ e = cc in (s, cc)
      go (Some a) s d = absurd (cc)
