use mathlib.Core.Path.{◌≡◌}
use Prim.Native.Nat.{◌+◌, ◌≤◌}
use lib.ListN.{length}
use Rattle.merge.specs.Merges.{rows_decided}
use Rattle.merge.proofs.merge.count_rows.Given as goal

abbrev pub invariant-loop-row : goal.invariant-loop-row
invariant-loop-row l = record {
  can : (goal.iterator-loop-row).can_next l._row-iterator;
  ends : (goal.iterator-loop-row).is_finite l._row-iterator;
  are : length (rows_decided l.initial._row-iterator) ≡ l.count + length (rows_decided l._row-iterator);
  low : l.count ≤ l.room;
}
