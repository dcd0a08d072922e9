use Rattle.merge.proofs.Merging.{Best}
use Rattle.merge.proofs.merge.least.Given as goal

abbrev pub invariant-loop-source : goal.invariant-loop-source
invariant-loop-source l = Best l.img l.sources l.source-iterator.iter.rest.now l.best
