use native.Mathlib.Omega.{arith}
use Rattle.stack.proofs.Walks.{record-at, walk-decided, walk-on, walk_end}
use Rattle.stack.proofs.question.decided.Goals as goal

pub returns-in-Break : goal.returns-in-Break
returns-in-Break g c =
    walk-decided c.loop-i.invariant (omega arith) (record-at c.args.stack c.record-entry.ensures (omega arith)) _ c.record.ensures c.in-Break.is

pub loop-i-preserved : goal.loop-i-preserved
loop-i-preserved g c =
    walk-on c.loop-i.invariant (omega arith) (record-at c.args.stack c.record-entry.ensures (omega arith)) _ c.record.ensures c.in_default.is

pub returns : goal.returns
returns g c = walk_end c.loop-i.invariant (omega arith) c.base-base.result c.base-base.ensures c.base.ensures
