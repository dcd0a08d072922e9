use Rattle.gather.proofs.Gathering.{Gathering}
use Rattle.gather.proofs.gather.gather_lists.Given as goal

abbrev pub invariant-loop-i : goal.invariant-loop-i
invariant-loop-i l = Gathering l.stack l.listing l.of l.all l.i
