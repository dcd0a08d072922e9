use lib.ListN.{length as size}
use Rattle.keep.specs.Keeps.{names_of}
use Rattle.keep.proofs.Keeping.{Seeking}
use Rattle.keep.proofs.keep.leads_to.Given as goal

abbrev pub invariant-loop-names : goal.invariant-loop-names
invariant-loop-names l = Seeking l.img l.initial.names l.name l.names

abbrev pub decreases-loop-names : goal.decreases-loop-names
decreases-loop-names l = size (names_of l.names)
