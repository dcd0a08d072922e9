use native.Mathlib.Omega.{arith}
use Rattle.wire.proofs.Groups.{first-end, first-only, first-long}
use Rattle.wire.proofs.number.read_number.Goals as goal

pub returns-in_default : goal.returns-in_default
returns-in_default c = search (first-end, arith)

pub returns-then-first-lt128 : goal.returns-then-first-lt128
returns-then-first-lt128 c = search (first-only, arith)

pub returns : goal.returns
returns c = search (first-long, arith)
