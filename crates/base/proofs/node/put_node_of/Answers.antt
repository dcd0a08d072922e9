use native.Mathlib.Omega.{arith}
use Rattle.base.proofs.Sifting.{no-records}
use Rattle.base.proofs.node.put_node_of.Goals as goal

pub returns-then-step-eq0 : goal.returns-then-step-eq0
returns-then-step-eq0 c = rw (no-records c.args.step.now.stack (omega arith)) c.put_base_node.ensures
