use Rattle.layers.proofs.Attrs.{Risen}
use Rattle.layers.proofs.attr.shown_attr.Given as goal

abbrev pub invariant-loop-i : goal.invariant-loop-i
invariant-loop-i l = Risen l.ino l.stack l.i l.attr
