-- What a walk over the base and layers promises. Document 01: "An inode's stack is its base node, its record in each batch (front first),
-- its live record; any may be absent."
use Rattle.std.specs.Prelude.{◌≡◌, List, [], ◌∷◌, ℕ, None, Option, Some, IfSome}
use Rattle.wire.specs.Orders.{by_number}
use Rattle.image.specs.Meaning.{Node, Record}
use Rattle.passes.specs.declared.inode.Held.TheVariants as H
use Rattle.survey.specs.declared.batch.InodeLayerStack.{InodeLayerStack}
use Rattle.rules.specs.Reads.{is_there}
use Rattle.rules.specs.PlacedStacks.{unplaced, unplaced_node}
use Rattle.stack.specs.Stacks.{records_in, node_in}
use Rattle.merge.specs.Pile.{lower, least_key, head_if, pass_all, pile, answer}
use Rattle.walk.specs.Runs.{Piece, of_node, of_record, Row, EndsAt}
use Rattle.walk.specs.Ready.{sources_in, Whole}
use Rattle.stack.specs.declared.stack.Stack.{Stack}
use Rattle.walk.specs.declared.run.Run.{Run}
use Rattle.walk.specs.declared.run.Runs.{Runs}
use Rattle.walk.specs.declared.walk.Walk.{Walk}
use Rattle.walk.specs.declared.walk.Step.{Step}

-- ---- the stacks of runs, which stand topmost first

-- records, topmost first, and a node
abbrev pub Pieces : Type 0
Pieces = List Record × Option Node

abbrev pub lay : Piece → Pieces → Pieces
lay (of_node n) x = (x.0, Some n)
lay (of_record r) x = (r ∷ x.0, x.1)

abbrev pub or_nothing : Option Pieces → Pieces
or_nothing None = ([], None)
or_nothing (Some x) = x

-- a piece over what is beneath it
abbrev pub laying : ℕ → Piece → Option Pieces → Option Pieces
laying i c below = Some (lay c (or_nothing below))

-- each inode that stands in a run, rising, with its stack
abbrev pub stacks_of : List (List Row) → List (ℕ × Pieces)
stacks_of ss = pile by_number laying ss

abbrev pub top_of : {X : Type 0} → List (List X) → List X
top_of [] = []
top_of (s ∷ ss) = s

-- ---- walks

-- the rows that a walk has left of the base and of the layers over it, the topmost first
abbrev pub sources_of : Walk → List (List Row)
sources_of w = sources_in w.img.now w.runs

-- the stacks that a walk has left
abbrev pub stacks_left : Walk → List (ℕ × Pieces)
stacks_left w = stacks_of (sources_of w)

-- the records and the node at the places of a stack
abbrev pub pieces_at : List ℕ → InodeLayerStack → Pieces
pieces_at img s = (unplaced (records_in img s), unplaced_node (node_in img s))

abbrev pub pieces_in : Stack → Pieces
pieces_in s = pieces_at s.img.now s.places

-- ---- a step

abbrev pub key_of : Option Run → Option ℕ
key_of None = None
key_of (Some r) = Some r.inode

pub record Lower (best : Option ℕ) (r : Option Run) (out : Option ℕ) : Type 0 where
  pub is : out ≡ lower by_number (key_of r) best

pub record Least (w : Walk) (r : Option ℕ) : Type 0 where
  pub is : least_key by_number (sources_of w) ≡ r

-- the node at a place ends there; no place, no node
abbrev pub NodeEnds : List ℕ → Option ℕ → Option ℕ → Type 0
NodeEnds img o e = EndsAt img H.Node o e

-- the stack of the inode k, which no run is past
pub record StackOf (img : List ℕ) (sources : List (List Row)) (k : ℕ) (r : Step) : Type 0 where
  pub inode : r.inode ≡ k
  pub image_is : r.stack.img.now ≡ img
  pub ends : NodeEnds img r.stack.places.base r.end
  pub pieces : pieces_in r.stack ≡ or_nothing (answer by_number laying k sources)
  pub top : r.top ≡ is_there (head_if by_number k (top_of sources))

-- and the runs past it
pub record Taken (img : List ℕ) (old : Runs) (k : ℕ) (r : Step) (new : Runs) : Type 0 where
  pub stack : StackOf img (sources_in img old) k r
  pub rest : sources_in img new ≡ pass_all by_number k (sources_in img old)
  pub whole : Whole img new

-- a step, and the walk past its inode
pub record Passes (w : Walk) (r : Step) (after : Walk) : Type 0 where
  pub stack : StackOf w.img.now (sources_of w) r.inode r
  pub rest : sources_of after ≡ pass_all by_number r.inode (sources_of w)

abbrev pub stacks_if : Option Step → List (ℕ × Pieces) → List (ℕ × Pieces)
stacks_if (Some s) l = (s.inode, pieces_in s.stack) ∷ l
stacks_if None l = []

-- the least inode goes first, with its stack, and then the rest; where none is left, the walk stays as it is
pub record Steps (w : Walk) (r : Option Step) (rest : Walk) : Type 0 where
  pub image_is : rest.img.now ≡ w.img.now
  pub stacks : stacks_left w ≡ stacks_if r (stacks_left rest)
  pub taken : IfSome r (λ s. Passes w s rest)
  pub ended : r ≡ None → least_key by_number (sources_of w) ≡ None
  pub rests : r ≡ None → sources_of rest ≡ sources_of w
