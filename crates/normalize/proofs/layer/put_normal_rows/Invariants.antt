use Rattle.normalize.proofs.Laying.{Laying}
use Rattle.normalize.proofs.layer.put_normal_rows.Given as goal

abbrev pub invariant-loop-step : goal.invariant-loop-step
invariant-loop-step l = Laying l.walk l.initial.buf l.at l.step-iterator l.buf l.next
