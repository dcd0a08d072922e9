-- A total order: a comparison that answers less, equal or greater, with its laws.
use Rattle.std.specs.Prelude.{◌≡◌, refl, ℕ, zero, suc}
use Rattle.std.proofs.Common.{sym, ap, ◌∙◌}
use mathlib.Core.HLevel.{hedberg}
use Rattle.std.proofs.Math.Decide.{ℕ_discrete}
use Rattle.std.specs.declared.cmp.Ordering.{Ordering}
use Rattle.std.specs.declared.cmp.Ordering.TheVariants.{Less, Equal, Greater}

pub record Order (K : Type 0) : Type 0 where
  pub cmp : K → K → Ordering
  pub same : (a b : K) → cmp a b ≡ Equal → a ≡ b
  pub self : (a : K) → cmp a a ≡ Equal
  pub flip : (a b : K) → cmp a b ≡ Greater → cmp b a ≡ Less
  pub trans : (a b c : K) → cmp a b ≡ Less → cmp b c ≡ Less → cmp a c ≡ Less

-- what is answered with the two sides exchanged
abbrev pub reversed : Ordering → Ordering
reversed Less = Greater
reversed Equal = Equal
reversed Greater = Less

module _ {K : Type 0} (O : Order K) where
  pub cmp-reversed : (a b : K) → O.cmp b a ≡ reversed (O.cmp a b)
  cmp-reversed a b = go (O.cmp a b) refl (O.cmp b a) refl
    where
      go : (c : Ordering) → O.cmp a b ≡ c → (d : Ordering) → O.cmp b a ≡ d → d ≡ reversed c
      go Less e Less f = cc (O.trans a b a e f, O.self a)
      go Less e Equal f = cc (O.same b a f, O.self a)
      go Less e Greater f = refl
      go Equal e d f = cc (O.same a b e, O.self a)
      go Greater e d f = cc (O.flip a b e)

abbrev code : Ordering → ℕ
code Less = 0
code Equal = 1
code Greater = 2

abbrev coded : ℕ → Ordering
coded zero = Less
coded (suc zero) = Equal
coded (suc (suc n)) = Greater

coded-code : (o : Ordering) → coded (code o) ≡ o
coded-code Less = refl
coded-code Equal = refl
coded-code Greater = refl

same_code : (x y : Ordering) → Dec (code x ≡ code y) → Dec (x ≡ y)
same_code x y (yes e) = yes (sym (coded-code x) ∙ ap coded e ∙ coded-code y)
same_code x y (no n) = no (λ e. n (ap code e))

pub Ordering-set : IsSet Ordering
Ordering-set = hedberg (λ x y. same_code x y (ℕ_discrete (code x) (code y)))
