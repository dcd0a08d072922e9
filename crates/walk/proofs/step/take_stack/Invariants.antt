use Rattle.walk.proofs.Stepping.{Taking}
use Rattle.walk.proofs.step.take_stack.Given as goal

abbrev pub invariant-loop-run : goal.invariant-loop-run
invariant-loop-run l = Taking l.img l.inode l.fn.runs.base l.initial.places.base l.initial.run-items l.run-items l.places l.top l.run-index
