use Rattle.trace.proofs.Saying.{Silent}
use Rattle.trace.proofs.said.deciding.Given as goal

abbrev pub invariant-loop-i : goal.invariant-loop-i
invariant-loop-i l = Silent l.stack.img.now l.stack.places l.name l.i
