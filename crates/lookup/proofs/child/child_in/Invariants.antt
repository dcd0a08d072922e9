use Rattle.lookup.proofs.Children.{Above, Within}
use Rattle.lookup.proofs.child.child_in.Given as goal

abbrev pub invariant-loop-row : goal.invariant-loop-row
invariant-loop-row l = Within l.stack l.name l.found l.layer l.row-iterator

abbrev pub invariant-layers : goal.invariant-layers
invariant-layers l = Above l.stack l.name l.found l.layer
