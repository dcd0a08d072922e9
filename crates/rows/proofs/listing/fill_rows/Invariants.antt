use mathlib.Core.Path.{◌≡◌}
use Rattle.rows.specs.Plans.{plan_entries}
use Rattle.rows.proofs.Planning.{Going, filled_to}
use Rattle.rows.proofs.listing.fill_rows.Given as goal

-- so many rows are filled, and the others are left
abbrev pub invariant-loop-row : goal.invariant-loop-row
invariant-loop-row l = record {
  filled : l.row-items ≡ filled_to (plan_entries l.fn.plan) l.initial.row-items l.row-index;
  going : Going (plan_entries l.fn.plan) l.row-index l.all;
}
