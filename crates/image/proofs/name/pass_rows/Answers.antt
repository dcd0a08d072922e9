use mathlib.Core.Path.{refl}
use native.Mathlib.Omega.{arith}
use Rattle.image.proofs.Passing.{part-read, passed_on}
use Rattle.image.proofs.name.pass_rows.Goals as goal

pub loop-row-preserved : goal.loop-row-preserved
loop-row-preserved c =
    passed_on c.loop-row.invariant (omega arith) (part-read c.name_after.ensures c.in_ok-name.was) refl c.pass_under.ensures c.in_ok-here.was (omega arith)
