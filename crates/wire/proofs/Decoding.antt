-- A whole image: what is written is read back, what is read is what is written of it, and an image that is cut off has ended.
-- Assumes nothing.
use Rattle.std.specs.Prelude.{ℕ, ◌≡◌}
use Rattle.std.proofs.Math.Path.{refl, ap}
use Rattle.std.proofs.Common.{sym, ◌∙◌, subst}
use mathlib.Core.List.{List, [], ◌∷◌, ◌++◌, append-nil}
use Rattle.wire.specs.Parse.{Parsed, fault, got, never-got}
use Rattle.wire.specs.Codec.{Codec, OneForm, prefix-ended, whole, decode}
use Rattle.wire.specs.declared.fault.Fault.TheVariants.{Ended}

module _ {A : Type 0} (c : Codec A) where
  -- what is written is read back
  pub decode-encode : (a : A) → c.Fits a → decode c (c.write a) ≡ got a []
  unfolding decode
  decode-encode a h = ap whole (ap c.read (sym (append-nil (c.write a))) ∙ c.back a [] h)

  -- an image that is cut off has ended
  pub decode-cut : (a : A) (s t : List ℕ) → c.Fits a → s ++ t ≡ c.write a → (t ≡ [] → ⊥) → decode c s ≡ fault Ended
  unfolding decode
  decode-cut a s t h e n = rw (prefix-ended c a t s h e n)

module _ {A : Type 0} (c : Codec A) (one : OneForm c) where
  -- what is read is what is written of it, and fits: so no two images mean the same
  encoded : (s : List ℕ) (p : Parsed A) (a : A) (r : List ℕ) → c.read s ≡ p → whole p ≡ got a r → (s ≡ c.write a) × c.Fits a
  encoded s (fault f) a r e d = never-got d
  encoded s (got b []) a r e d =
      let i : b ≡ a = cc in
      let f = one.forth s b [] e in
      subst (λ (x : A). (s ≡ c.write x) × c.Fits x) i (f.0 ∙ append-nil (c.write b), f.1)
  encoded s (got b (x ∷ q)) a r e d = never-got d

  pub encode-decode : (s : List ℕ) (a : A) (r : List ℕ) → decode c s ≡ got a r → (s ≡ c.write a) × c.Fits a
  unfolding decode
  encode-decode s a r e = encoded s (c.read s) a r refl e
