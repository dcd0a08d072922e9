-- Calls that are given a name: refusal 3 comes after 1 and 2.
-- Assumes nothing.
use Rattle.std.specs.Prelude.{Result, Ok, Err, None, Option, Some}
use mathlib.Core.Path.{◌≡◌, refl, sym, ◌∙◌}
use mathlib.Core.Bool.{Bool, true, false}
use mathlib.Core.List.{List, [], ◌∷◌}
use Prim.Native.Nat.{ℕ}
use Rattle.image.specs.Meaning.{Text, Store}
use Rattle.survey.specs.Verdict.{number_of, verdict_of}
use Rattle.survey.specs.declared.refusal.Refusal.{Refusal}
use Rattle.survey.specs.declared.refusal.Refusal.TheVariants.{BadName}
use Rattle.rules.specs.Answers.{Answer, refused, first_of, unless}
use Rattle.rules.specs.Asks.{bad_name}
use Rattle.rules.specs.ReadCalls.{over_image}
use Rattle.rules.proofs.Asked.{over-fine, verdict-fine, verdict-refused}
use Rattle.stack.specs.InStack.{Opens}
use Rattle.stack.specs.declared.stack.Stack.{Stack}
use Rattle.stack.specs.Named.{named_verdict, OpensNamed}

module _ {img : List ℕ} {i : ℕ} {name : Text} {o : Result Stack Refusal} (w : OpensNamed img i name o) where
  pub refused-by : {A : Type 0} (g : Store → A) {r : Refusal} → o ≡ Err r
      → over_image (λ s. unless (first_of ((3, bad_name name) ∷ [])) (g s)) img ≡ refused (number_of r)
  refused-by {A} g {r} d = go (verdict_of img) refl (bad_name name) refl (rw d at w).verdict
    where
      call : Store → Answer A
      call s = unless (first_of ((3, bad_name name) ∷ [])) (g s)

      go : (v : Option Refusal) → verdict_of img ≡ v → (b : Bool) → bad_name name ≡ b → Some r ≡ named_verdict v name → over_image call img ≡ refused
          (number_of r)
      go (Some x) ev b eb n = verdict-refused call img r (ev ∙ sym n)
      go None ev true eb n =
          let s = verdict-fine img ev in
          let z : r ≡ BadName = (let y = rw eb at n in cc) in
          over-fine call img s.2 s.1 ∙ rw (eb, z)
      go None ev false eb n = absurd (let y = rw eb at n in cc)

  pub named-opens : {s : Stack} → o ≡ Ok s → Opens img i o × (bad_name name ≡ false)
  named-opens {s} d = go (verdict_of img) refl (bad_name name) refl (rw d at w).verdict
    where
      go : (v : Option Refusal) → verdict_of img ≡ v → (b : Bool) → bad_name name ≡ b → None ≡ named_verdict v name → Opens img i o × (bad_name name ≡ false)
      go (Some x) ev b eb n = absurd cc
      go None ev true eb n = absurd (let y = rw eb at n in cc)
      go None ev false eb n = let g = rw d at w in (rw d (record { verdict = rw ev; stack = g.stack }), eb)
