-- Questions that the topmost record which answers decides.
use Rattle.std.specs.Prelude.{◌≡◌, List, ℕ, Option}
use Rattle.std.specs.declared.ops.ControlFlow.{ControlFlow}
use Rattle.std.specs.declared.ops.ControlFlow.TheVariants as C
use Rattle.image.specs.Meaning.{Record}
use Rattle.rules.specs.Reads.{Read}
use Rattle.nodes.specs.declared.node.Node.{Node}
use Rattle.deltas.specs.declared.delta.EntryDelta.{EntryDelta}
use Rattle.stack.specs.Stacks.{RecordIs, BaseIs}

-- a record was read from the image; a node, or there is none
abbrev pub RecordRead : List ℕ → EntryDelta → Type 0
RecordRead img e = (place : ℕ) × RecordIs img place e

abbrev pub BaseRead : List ℕ → Option Node → Type 0
BaseRead img o = (place : Option ℕ) × BaseIs img place o

-- what a record answers, whatever is below it; or that it leaves the matter to that
abbrev pub RecordAnswers : {X A : Type 0} → Read X → (Option A → X) → Record → ControlFlow (Option A) (Unit {0}) → Type 0
RecordAnswers {X} R says r (C.Break a) = (below : X) → R.step r below ≡ says a
RecordAnswers {X} R says r (C.Continue u) = (below : X) → R.step r below ≡ below
