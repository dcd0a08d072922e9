-- A format: how it is read, how it is written, what fits it, and the laws of the round trip.
use Rattle.std.specs.Prelude.{ℕ, ◌<◌, ◌≡◌}
use Rattle.std.proofs.Math.Path.{refl}
use Rattle.std.proofs.Common.{sym, ◌∙◌}
use mathlib.Core.List.{List, [], ◌∷◌, ◌++◌, append-nil}
use Rattle.wire.specs.Parse.{Parsed, fault, got, never-got, Extends}
use Rattle.wire.specs.declared.fault.Fault.TheVariants.{Ended, Malformed}

-- numbers below 256
abbrev pub Bytes : List ℕ → Type 0
Bytes [] = Unit {0}
Bytes (b ∷ s) = (b < 256) × Bytes s

-- `back`: what is written is read back. `steady`: more bytes behind alter only what had ended. `plain`: what is written are bytes.
pub record Codec (A : Type 0) : Type 1 where
  pub read : List ℕ → Parsed A
  pub write : A → List ℕ
  pub Fits : A → Type 0
  pub back : (a : A) (r : List ℕ) → Fits a → read (write a ++ r) ≡ got a r
  pub steady : (s t : List ℕ) → Extends t (read s) (read (s ++ t))
  pub plain : (a : A) → Fits a → Bytes (write a)

-- `forth`: what is read is written as the same bytes, and fits. So each value has one form.
pub record OneForm {A : Type 0} (c : Codec A) : Type 0 where
  pub forth : (s : List ℕ) (a : A) (r : List ℕ) → c.read s ≡ got a r → (s ≡ c.write a ++ r) × c.Fits a

pub plain-append : (s t : List ℕ) → Bytes s → Bytes t → Bytes (s ++ t)
plain-append [] t h k = k
plain-append (b ∷ s) t h k = (h.0, plain-append s t h.1 k)

-- a part of what is written, from its front, has ended
module _ {A : Type 0} (c : Codec A) (a : A) (t : List ℕ) where
  short : (p q : Parsed A) → Extends t p q → q ≡ got a [] → (t ≡ [] → ⊥) → p ≡ fault Ended
  short (fault Ended) q e d n = refl
  short (fault Malformed) q e d n = never-got (sym e ∙ d)
  short (got b r) q e d n = let z : r ++ t ≡ [] = cc in absurd (n (nil-right r t z))
    where
      nil-right : (r t : List ℕ) → r ++ t ≡ [] → t ≡ []
      nil-right [] t z = z
      nil-right (x ∷ r) t z = cc

  pub prefix-ended : (s : List ℕ) → c.Fits a → s ++ t ≡ c.write a → (t ≡ [] → ⊥) → c.read s ≡ fault Ended
  prefix-ended s h e n = short (c.read s) (c.read (s ++ t)) (c.steady s t) (rw (e, ← append-nil (c.write a)) (c.back a [] h)) n

-- a whole image: what the codec reads, with nothing after it
abbrev pub whole : {A : Type 0} → Parsed A → Parsed A
whole (fault f) = fault f
whole (got a []) = got a []
whole (got a (b ∷ r)) = fault Malformed

module _ {A : Type 0} (c : Codec A) where
  unfoldable pub decode : List ℕ → Parsed A
  decode s = whole (c.read s)
