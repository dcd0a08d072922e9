use native.Mathlib.Omega.{arith}
use Rattle.gather.proofs.Gathering.{gathering-more, gathering-all}
use Rattle.gather.proofs.gather.gather_lists.Goals as goal

pub loop-i-preserved : goal.loop-i-preserved
loop-i-preserved c =
    gathering-more c.delta_lists.result c.push.ensures (omega arith) c.loop-i.invariant c.record.ensures c.in-Node.is c.delta_lists.ensures

pub returns : goal.returns
returns c = gathering-all c.base_lists.result c.push-2.ensures (omega arith) c.loop-i.invariant c.base.result c.base.ensures c.base_lists.ensures
