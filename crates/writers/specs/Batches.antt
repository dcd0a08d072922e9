-- What the head of a batch by value means.
use Rattle.std.specs.Prelude.{ℕ}
use Rattle.wire.specs.declared.time.Time.{Time}
use Rattle.survey.specs.Reasons.{reason_number}
use Rattle.writers.specs.declared.batch.BatchHead.{BatchHead}

-- "Batch: id, bytes, operations, reason 1 to 5, commit time"
abbrev pub head_meant : BatchHead → ℕ × (ℕ × (ℕ × (ℕ × Time)))
head_meant h = (h.id, (h.bytes, (h.operations, (reason_number h.reason, h.committed))))
