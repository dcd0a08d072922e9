use native.Mathlib.Omega.{arith}
use Rattle.lines.proofs.Rowed.{row-stops, row-gives}
use Rattle.lines.proofs.rows.BaseRowsIterator.next.Goals as goal

pub returns-in_default-clause-steps : goal.returns-in_default-clause-steps
returns-in_default-clause-steps c = row-stops c.args.self.now c.read_row.ensures c.args.self.now c.in_default.is

pub returns-clause-steps : goal.returns-clause-steps
returns-clause-steps c =
    row-gives c.args.self.now c.read_row.ensures c.node_attr.result c.in-Ok.is (grind arith) (grind arith) c.node_attr.ensures
