use Rattle.merge.proofs.Settling.{left_of, Settling}
use Rattle.merge.proofs.merge.next_given.Given as goal

abbrev pub invariant-loop-head : goal.invariant-loop-head
invariant-loop-head l = Settling l.img l.initial.sources l.sources

abbrev pub decreases-loop-head : goal.decreases-loop-head
decreases-loop-head l = left_of l.img l.sources
