use native.Mathlib.Omega.{arith}
use Rattle.fold.proofs.Spelling.{writing-room, writing_more, writing-all}
use Rattle.fold.proofs.list.put_rows.Goals as goal

pub overflow_add-count : goal.overflow_add-count
overflow_add-count c = record { fits = omega (arith, writing-room c.loop-row.invariant.writing c.next.ensures.steps c.in-Some.is c.requires) }

pub loop-row-preserved : goal.loop-row-preserved
loop-row-preserved c =
    record { can = tt; ends = tt; writing = writing_more c.loop-row.invariant.writing c.next.ensures.steps c.in-Some.is c.put_row-end.ensures }

pub returns : goal.returns
returns c = writing-all c.loop-row.invariant.writing c.next.ensures.steps c.in-None.is (omega arith)
