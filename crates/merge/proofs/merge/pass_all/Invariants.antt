use Rattle.merge.proofs.Merging.{Passing}
use Rattle.merge.proofs.merge.pass_all.Given as goal

abbrev pub invariant-loop-source : goal.invariant-loop-source
invariant-loop-source l = Passing l.img l.initial.sources l.name l.sources l.source-index
