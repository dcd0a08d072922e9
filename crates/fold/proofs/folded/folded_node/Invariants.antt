use Rattle.fold.proofs.Folding.{Rising}
use Rattle.fold.proofs.folded.folded_node.Given as goal

abbrev pub invariant-loop-i : goal.invariant-loop-i
invariant-loop-i l = Rising l.stack l.node l.i
