use Prim.Native.Nat.{◌-◌}
use Rattle.survey.proofs.Batches.{Going}
use Rattle.survey.proofs.batch.gather_batches.Given as goal

abbrev pub invariant-loop-batch : goal.invariant-loop-batch
invariant-loop-batch l = Going l.img l.sought l.fn.rows.first l.fn.rows.count l.fn.base l.last l.here (l.fn.rows.count - l._batch) l.stack
