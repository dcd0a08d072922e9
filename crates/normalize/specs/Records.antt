-- A record held against its stack below. Document 01: "Each directory delta there is held against the layers below."
use Rattle.std.specs.Prelude.{Bool, false, List, [], ◌∷◌, ℕ, None, Option, Some}
use Rattle.image.specs.Meaning.{Kind, Node, Record, tombstone}
use Rattle.survey.specs.declared.batch.InodeLayerStack.{InodeLayerStack}
use Rattle.rules.specs.Reads.{look, type, child}
use Rattle.rules.specs.Queue.{is_directory as of_directory}
use Rattle.rules.specs.Normalise.{normal_record}
use Rattle.stack.specs.Stacks.{shown, RecordIs}
use Rattle.stack.specs.declared.stack.Stack.{Stack}
use Rattle.wire.specs.Put.{Put}
use Rattle.image.specs.RecordLayout.{layer_record}
use Rattle.deltas.specs.Deltas.{entry_meant}
use Rattle.deltas.specs.declared.delta.EntryDelta.{EntryDelta}
use Rattle.walk.specs.Walks.{Pieces}

-- none is no directory
abbrev pub is_directory : Option Kind → Bool
is_directory None = false
is_directory (Some k) = of_directory k

-- held against a stack in the image
abbrev pub normal_at : List ℕ → InodeLayerStack → Record → Record
normal_at img s r = normal_record (λ name. shown (child name) img s) (shown type img s) r

abbrev pub normal_in : Stack → Record → Record
normal_in s r = normal_at s.img.now s.places r

-- held against records and a node
abbrev pub normal_on : List Record → Option Node → Record → Record
normal_on rs b r = normal_record (λ name. look (child name) rs b) (look type rs b) r

-- the topmost record of a stack, held against the others
abbrev pub normal_pieces : Pieces → Record
normal_pieces ([], b) = tombstone
normal_pieces (r ∷ rs, b) = normal_on rs b r

-- a record is written as it stands
pub record Copies (img : List ℕ) (place : ℕ) (old : List ℕ) (at r : ℕ) (new : List ℕ) : Type 0 where
  pub copies : (e : EntryDelta) → RecordIs img place e → Put old at (layer_record.write (entry_meant img e)) r new
