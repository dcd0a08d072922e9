use Rattle.fold.proofs.Spelling.{Writing}
use Rattle.fold.proofs.list.put_rows.Given as goal

abbrev pub invariant-loop-row : goal.invariant-loop-row
invariant-loop-row l = record {
  can : (goal.iterator-loop-row).can_next l.row-iterator;
  ends : (goal.iterator-loop-row).is_finite l.row-iterator;
  writing : Writing l.initial.buf l.at l.listing l.all l.row-iterator l.buf l.end l.count;
}
