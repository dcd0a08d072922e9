use native.Mathlib.Omega.{arith}
use Rattle.layers.proofs.Attrs.{rise-start, rise-on}
use Rattle.layers.proofs.attr.shown_attr.Goals as goal

pub loop-i-init : goal.loop-i-init
loop-i-init c = rise-start c.base-base.result c.base-base.ensures c.base_attr-attr.ensures

pub loop-i-preserved : goal.loop-i-preserved
loop-i-preserved c = rise-on c.loop-i.invariant (omega arith) c.record-entry.ensures c.step_attr-attr.ensures
