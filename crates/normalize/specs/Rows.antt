-- The records of a layer, each held against the layers below.
use Rattle.std.specs.Prelude.{◌≡◌, true, false, List, [], ◌∷◌, ◌++◌, map, ℕ, ◌≤◌, ◌<◌, length}
use Rattle.wire.specs.Number.{edge}
use Rattle.wire.specs.Orders.{by_number}
use Rattle.wire.specs.Maps.{get}
use Rattle.wire.specs.Put.{Put}
use Rattle.image.specs.Meaning.{Record, Base, Layer}
use Rattle.image.specs.FieldLayout.{inode}
use Rattle.image.specs.RecordLayout.{layer_record}
use Rattle.rules.specs.Stacks.{stack}
use Rattle.change.specs.Cuts.{rows_bytes}
use Rattle.walk.specs.Walks.{pieces_in}
use Rattle.walk.specs.Opens.{Over}
use Rattle.walk.specs.declared.walk.Step.{Step}
use Rattle.walk.specs.declared.walk.Walk.{Walk}
use Rattle.normalize.specs.Records.{normal_on, normal_pieces}

-- a row of a layer over a base and layers, and its rows
abbrev pub normal_row : Base → List Layer → ℕ × Record → ℕ × Record
normal_row b ls e = (e.0, normal_on (stack e.0 ls) (get by_number e.0 b) e.1)

abbrev pub normal_rows : Base → List Layer → List (ℕ × Record) → List (ℕ × Record)
normal_rows b ls l = map (normal_row b ls) l

pub record PutsStep (t : Step) (old : List ℕ) (at r : ℕ) (new : List ℕ) : Type 0 where
  pub topped : t.top ≡ true → 0 < t.stack.places.count
      → Put old at (inode.write t.inode ++ layer_record.write (normal_pieces (pieces_in t.stack))) r new
  pub passed : t.top ≡ false → (r ≡ at) × (new ≡ old)
  pub low : at ≤ edge → r ≤ edge
  pub same : length new ≡ length old

-- the records of the topmost layer
pub record PutsRows (w : Walk) (old : List ℕ) (at r : ℕ) (new : List ℕ) : Type 0 where
  pub puts : (b : Base) (ls : List Layer) (l : Layer) → Over b (ls ++ (l ∷ [])) w → Put old at (rows_bytes inode layer_record (normal_rows b ls l.rows)) r new
