-- A stack and the image that it is in, as one.
use Rattle.std.specs.Prelude.{◌≡◌, List, ℕ, get_or, Result, IfOk, Option}
use Rattle.std.specs.Result.{result_err}
use Rattle.survey.specs.Gathering.{deltas_of}
use Rattle.survey.specs.Verdict.{verdict_of}
use Rattle.survey.specs.declared.refusal.Refusal.{Refusal}
use Rattle.rules.specs.PlacedStacks.{node_place, record_places}
use Rattle.rules.specs.Reads.{Read}
use Rattle.nodes.specs.declared.node.Node.{Node}
use Rattle.deltas.specs.declared.delta.EntryDelta.{EntryDelta}
use Rattle.stack.specs.Stacks.{RecordIs, BaseIs, shown_under, shown}
use Rattle.stack.specs.declared.stack.Stack.{Stack}

-- record i of the stack, counted from the lowest, and its node
abbrev pub RecordIn : Stack → ℕ → EntryDelta → Type 0
RecordIn s i e = RecordIs s.img.now (get_or s.places.deltas i 0) e

abbrev pub BaseIn : Stack → Option Node → Type 0
BaseIn s o = BaseIs s.img.now s.places.base o

-- what a read makes of the lowest i records and the node, and of the whole stack
abbrev pub shown_lowest : {X : Type 0} → Read X → Stack → ℕ → X
shown_lowest R s i = shown_under R s.img.now s.places i

abbrev pub shown_in : {X : Type 0} → Read X → Stack → X
shown_in R s = shown R s.img.now s.places

-- the stack of an inode: its node in the base, its record in each batch, its live record
pub record StackOf (img : List ℕ) (i : ℕ) (s : Stack) : Type 0 where
  pub image_is : s.img.now ≡ img
  pub node_is : s.places.base ≡ node_place img i
  pub records_are : deltas_of s.places ≡ record_places img i

-- "Always first: 1, 2": the refusal, or the stack where there is none
pub record Opens (img : List ℕ) (i : ℕ) (r : Result Stack Refusal) : Type 0 where
  pub verdict : result_err r ≡ verdict_of img
  pub stack : IfOk r (λ s. StackOf img i s)
