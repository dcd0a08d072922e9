-- The batches of a queue, as the code passes over them.
use Rattle.std.specs.Prelude.{List, ℕ}
use Rattle.wire.specs.declared.time.Time.{Time}
use Rattle.wire.specs.Parse.{Parsed, got, bind}
use Rattle.image.specs.RecordLayout.{records}
use Rattle.survey.specs.Gathering.{batch_head}

-- "Batch: id, bytes, operations, reason 1 to 5, commit time", without its records
abbrev pub HeadParts : Type 0
HeadParts = ℕ × (ℕ × (ℕ × (ℕ × Time)))

-- the head of a batch, and what is left after its records
abbrev pub pass_batch : List ℕ → Parsed HeadParts
pass_batch s = bind (batch_head.read s) (λ h r. bind (records.read r) (λ l q. got h q))
