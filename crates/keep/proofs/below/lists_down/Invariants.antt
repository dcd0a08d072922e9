use Rattle.keep.proofs.Leading.{Leading}
use Rattle.keep.proofs.below.lists_down.Given as goal

abbrev pub invariant-loop-i : goal.invariant-loop-i
invariant-loop-i l = Leading l.stack l.all l.i
