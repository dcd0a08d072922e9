-- Images with another base. Document 01: "Fold applies the front batch to the base." "Snapshot folds every layer, then drops non-directories
-- with 0 links; no batches, live, counts or request remain; next id is kept."
use Rattle.std.specs.Prelude.{Bool, true, false, List, ◌++◌, ℕ, length}
use Rattle.wire.specs.Number.{number_bytes}
use Rattle.writers.specs.Tails.{tail}
use Rattle.change.specs.Sections.{between}
use Rattle.walk.specs.Walks.{stacks_left}
use Rattle.walk.specs.declared.walk.Walk.{Walk}
use Rattle.base.specs.Nodes.{base_bytes}
use Rattle.flush.specs.declared.write.Flush.{Flush}
use Rattle.flush.specs.declared.write.Flush.TheVariants as F

abbrev pub drops_of : Flush → Bool
drops_of (F.Fold p) = false
drops_of (F.Snapshot n) = true

-- "no batches, live, counts or request remain; next id is kept"
abbrev pub emptied : ℕ → List ℕ
emptied next = number_bytes 0 ++ (number_bytes 0 ++ tail.write (next, (0, (0, 0))))

abbrev pub rest_bytes : List ℕ → Flush → List ℕ
rest_bytes img (F.Fold p) = between img p (length img)
rest_bytes img (F.Snapshot n) = emptied n

abbrev pub flushed : Walk → Flush → List ℕ
flushed w f = base_bytes (drops_of f) (stacks_left w) ++ rest_bytes w.img.now f
