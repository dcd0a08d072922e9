use native.Mathlib.Nat.{sub-add-eq}
use native.Mathlib.Omega.{arith}
use Rattle.waiting.proofs.Queues.{totalling-stop, totalling-on, totalling-all}
use Rattle.waiting.proofs.batch.total_batches.Goals as goal

pub returns-in_default : goal.returns-in_default
returns-in_default c = totalling-stop c.loop.invariant c.pass_batch.ensures c.in_default.is

pub loop-preserved : goal.loop-preserved
loop-preserved c = rw sub-add-eq (totalling-on c.loop.invariant c.pass_batch.ensures (omega arith) c.in-Ok.is (omega arith) (omega arith))

pub returns-after-loop : goal.returns-after-loop
returns-after-loop c = totalling-all c.loop.invariant (omega arith)
