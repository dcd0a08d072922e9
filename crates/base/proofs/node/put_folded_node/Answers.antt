use borrow.Author.Rules.{rules}
use native.Mathlib.Omega.{arith}
use Rattle.base.proofs.Sifting.{row_put, row-dropped}
use Rattle.base.proofs.node.put_folded_node.Goals as goal

pub returns-then-stays : goal.returns-then-stays
returns-then-stays c =
    row_put c.args.step.now.stack c.folded_node.ensures c.in-Some.is c.stays.ensures c.args.step.now.inode c.args.so_far c.if-stays.true
    c.put_number-place.ensures c.put_folded-end.ensures c.more.ensures

pub returns : goal.returns
returns c =
    row-dropped c.args.step.now.stack c.folded_node.ensures c.in-Some.is c.stays.ensures c.args.step.now.inode c.args.so_far c.if-stays.false
    (omega arith) (search rules)
