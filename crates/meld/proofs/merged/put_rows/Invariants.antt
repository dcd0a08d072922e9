use Rattle.meld.proofs.Merging.{Merging}
use Rattle.meld.proofs.merged.put_rows.Given as goal

abbrev pub invariant-loop-row : goal.invariant-loop-row
invariant-loop-row l = record {
  can : (goal.iterator-loop-row).can_next l.row-iterator;
  ends : (goal.iterator-loop-row).is_finite l.row-iterator;
  merging : Merging l.initial.buf l.at l.both l.buf l.row-iterator l.end l.count;
}
