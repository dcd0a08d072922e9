use lib.Seq.{take-length}
use Rattle.wire.proofs.Comparing.{compared}
use Rattle.wire.proofs.order.compare.Goals as goal

pub returns : goal.returns
returns c = compared c.args.a.now c.cmp.ensures (cc (take-length c.args.b.now))
