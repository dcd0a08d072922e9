use native.Mathlib.Omega.{arith}
use Rattle.merge.proofs.Sourced.{head-some}
use Rattle.merge.proofs.merge.passed.Goals as goal

pub overflow_sub-rows : goal.overflow_sub-rows
overflow_sub-rows c = search (head-some, arith)
