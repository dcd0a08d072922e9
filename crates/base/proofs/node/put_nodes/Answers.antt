use native.Mathlib.Omega.{arith}
use Rattle.base.proofs.Sifting.{writing_more, writing-all}
use Rattle.base.proofs.node.put_nodes.Goals as goal

pub loop-step-preserved : goal.loop-step-preserved
loop-step-preserved c = writing_more c.loop-step.invariant c.in-Some.ensures.steps c.put_node_of-nodes.ensures

pub returns : goal.returns
returns c = writing-all c.loop-step.invariant c.in-None.ensures.steps (omega arith)
