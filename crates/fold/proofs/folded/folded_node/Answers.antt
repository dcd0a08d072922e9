use native.Mathlib.Omega.{arith}
use Rattle.fold.proofs.Folding.{rising-base, rising-more}
use Rattle.fold.proofs.folded.folded_node.Goals as goal

pub loop-i-init : goal.loop-i-init
loop-i-init c = rising-base c.base.ensures c.fold_base-node.ensures

pub loop-i-preserved : goal.loop-i-preserved
loop-i-preserved c = rising-more c.loop-i.invariant (omega arith) c.record.ensures c.fold_record-node.ensures
