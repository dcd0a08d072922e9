use Rattle.walk.proofs.Opening.{Opening}
use Rattle.walk.proofs.open.open_layers.Given as goal

abbrev pub invariant-loop-i : goal.invariant-loop-i
invariant-loop-i l = Opening l.img l.n l.batches.count l.initial.end l.end l.top l.base l.layer-items l.i
