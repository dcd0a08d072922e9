-- The batches of a queue in all, and what freeze makes of the staged counts.
use Rattle.std.specs.Prelude.{◌≡◌, Bool, ◌||◌, List, ℕ, zero, suc, ◌+◌, leb, drop, Result}
use Rattle.std.specs.Result.{result_unwrap_or}
use Rattle.wire.specs.declared.time.Time.{Time}
use Rattle.wire.specs.Parse.{Parsed, fault, got}
use Rattle.writers.specs.Tails.{TailParts}
use Rattle.rules.specs.Queue.{reason_of}
use Rattle.wire.specs.declared.fault.Fault.{Fault}
use Rattle.wire.specs.Number.{number_read}
use Rattle.wire.specs.Reading.{Reads}
use Rattle.change.specs.Batches.{HeadParts, pass_batch}
use Rattle.waiting.specs.declared.batch.Queue.{Queue}

abbrev pub head_bytes : HeadParts → ℕ
head_bytes h = h.1.0

abbrev pub head_operations : HeadParts → ℕ
head_operations h = h.1.1.0

abbrev pub or_zero : {A : Type 0} → Parsed A → (A → List ℕ → ℕ) → ℕ
or_zero (fault f) g = 0
or_zero (got a r) g = g a r

-- the sum over n batches
unfoldable pub sum_from : (HeadParts → ℕ) → ℕ → List ℕ → ℕ
sum_from f zero s = 0
sum_from f (suc n) s = or_zero (pass_batch s) (λ h q. f h + sum_from f n q)

-- "their bytes or their operations in all"
pub record Totalled (img : List ℕ) (first n : ℕ) (r : Queue) : Type 0 where
  pub from : r.rows.first ≡ first
  pub counts : r.rows.count ≡ n
  pub bytes : r.bytes ≡ sum_from head_bytes n (drop first img)
  pub operations : r.operations ≡ sum_from head_operations n (drop first img)

-- the count of batches, and the batches after it
pub record QueueAt (img : List ℕ) (at : ℕ) (r : Queue) : Type 0 where
  pub count : Result (ℕ × ℕ) Fault
  pub reads : Reads img (number_read 16) at count
  pub totals : Totalled img (result_unwrap_or count (0, 0)).1 (result_unwrap_or count (0, 0)).0 r

-- "6 if batches, their bytes or their operations in all have each reached or passed its own given limit in at least one of the three, or
-- there are 16 batches"
abbrev pub at_capacity : Queue → ℕ → ℕ → ℕ → Bool
at_capacity q depth bytes operations = (leb depth q.rows.count || leb bytes q.bytes) || (leb operations q.operations || leb 16 q.rows.count)

-- "with next id, staged counts, requested reason (else Threshold) and commit time"
abbrev pub frozen_head : TailParts → Time → HeadParts
frozen_head t time = (t.0, (t.1.0, (t.1.1.0, (reason_of t.1.1.1, time))))

-- "counts and request become empty and next id rises by 1"
abbrev pub tail_after_id : ℕ → TailParts
tail_after_id id = (id + 1, (0, (0, 0)))
