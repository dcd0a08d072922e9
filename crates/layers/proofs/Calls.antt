-- The calls that read one inode.
-- Assumes nothing.
use Rattle.std.specs.Prelude.{Result, Ok, Err, None, Option, Some, is_some}
use mathlib.Core.Path.{◌≡◌, refl, sym, ◌∙◌}
use mathlib.Core.Bool.{Bool}
use mathlib.Core.List.{List}
use Prim.Native.Nat.{ℕ}
use Rattle.wire.specs.declared.part.Part.{Part}
use Rattle.image.specs.Meaning.{Text}
use Rattle.survey.specs.declared.refusal.Refusal.{Refusal}
use Rattle.nodes.specs.Options.{text_of}
use Rattle.wire.proofs.Readers.{handed}
use Rattle.rules.specs.Initial.{usual}
use Rattle.rules.specs.Answers.{Answer}
use Rattle.rules.specs.Asks.{Ask, Reply, ask}
use Rattle.rules.specs.Reads.{is_there}
use Rattle.rules.specs.ReadCalls.{over_image, map_answer}
use Rattle.image.specs.declared.kind.FileType.{FileType}
use Rattle.stack.specs.Stacks.{type_of}
use Rattle.stack.specs.declared.stack.Stack.{Stack}
use Rattle.stack.proofs.Asking.{OpensFor, told, asked-refused, asked-told}
use Rattle.layers.specs.Answered.{answered}

pub type-there : (o : Option FileType) → is_some o ≡ is_there (type_of o)
type-there None = refl
type-there (Some t) = refl

-- ---- the calls that open an image: refused, or answered by what the stack shows

module _ (img : List ℕ) (q : Ask) {o : Result Stack Refusal} (h : OpensFor q img o) where
  pub asked-stop : {A : Type 0} (m : A → Reply q) {f : Refusal} {r : Result A Refusal} → o ≡ Err f → r ≡ Err f
      → answered m r ≡ over_image (ask usual q) img
  asked-stop m d e = rw e (sym (asked-refused img q h d))

  pub asked-fine : {s : Stack} {a : Answer (Reply q)} → o ≡ Ok s → a ≡ told q s → a ≡ over_image (ask usual q) img
  asked-fine d e = e ∙ sym (asked-told img q h d)

-- ---- calls that say whether there is something

text-there : (img : List ℕ) (o : Option Part) → is_some o ≡ is_there (text_of img o)
text-there img None = refl
text-there img (Some t) = refl

-- where a text stands, or that there is none
module _ (img : List ℕ) {o : Result (Option Part) Refusal} {a : Answer (Option Text)} (h : answered (text_of img) o ≡ a) where
  pub there-stop : {f : Refusal} {r : Result Bool Refusal} → o ≡ Err f → r ≡ Err f → answered (λ yes. yes) r ≡ map_answer is_there a
  there-stop d e = rw (e, ← h, d)

  pub there-found : {x : Option Part} {b : Bool} → o ≡ Ok x → b ≡ is_some x → answered (λ yes. yes) (Ok b) ≡ map_answer is_there a
  there-found {x} d e = rw (e, ← h, d, text-there img x)

pub ruleset calls = (there-stop, there-found, handed)
