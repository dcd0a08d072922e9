use mathlib.Core.Path.{◌≡◌}
use lib.ListN.{drop}
use Rattle.walk.proofs.Stepping.{lowest}
use Rattle.walk.proofs.step.least_inode.Given as goal

abbrev pub invariant-loop-run : goal.invariant-loop-run
invariant-loop-run l = lowest (drop l.run-index l.run-items) l.best ≡ lowest l.run-items l.initial.best
