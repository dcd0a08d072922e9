use native.Mathlib.Omega.{arith}
use Rattle.normalize.proofs.Laying.{laying-start, laying-more, laying-end}
use Rattle.normalize.proofs.layer.put_normal_rows.Goals as goal

pub loop-step-init : goal.loop-step-init
loop-step-init c = rw c.into_iter-step-iterator.ensures.into_iter_gives (laying-start c.args.walk.now (omega arith) (omega arith))

pub loop-step-preserved : goal.loop-step-preserved
loop-step-preserved c = laying-more c.loop-step.invariant c.in-Some.ensures.steps c.put_normal_step-next.ensures

pub returns : goal.returns
returns c = laying-end c.loop-step.invariant c.in-None.ensures.steps
