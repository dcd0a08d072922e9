use Rattle.keep.specs.Keeps.{leads_from}
use Rattle.keep.proofs.Keeping.{KeepingRows}
use Rattle.keep.proofs.keep.put_kept.Given as goal

abbrev pub invariant-loop-start : goal.invariant-loop-start
invariant-loop-start g l =
    KeepingRows l.sources.img.now (leads_from l.fn.first l.sources) l.list l.initial.buf l.at l.initial.start-iterator l.start-iterator l.names l.buf l.kept
