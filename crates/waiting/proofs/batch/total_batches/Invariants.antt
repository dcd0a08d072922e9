use Prim.Native.Nat.{◌-◌}
use Rattle.waiting.proofs.Queues.{Totalling}
use Rattle.waiting.proofs.batch.total_batches.Given as goal

abbrev pub invariant-loop : goal.invariant-loop
invariant-loop l = Totalling l.img l.rows.first l.rows.count l.here (l.rows.count - l.counter) l.bytes l.operations
