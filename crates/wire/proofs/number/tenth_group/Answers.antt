use native.Mathlib.Omega.{arith}
use Rattle.wire.proofs.Groups.{tenth-end, tenth-one, tenth-other}
use Rattle.wire.proofs.number.tenth_group.Goals as goal

pub returns-in-None : goal.returns-in-None
returns-in-None c = search (tenth-end, arith)

pub returns-in-Some-eq1 : goal.returns-in-Some-eq1
returns-in-Some-eq1 c = search (tenth-one, arith)

pub returns-in-Some : goal.returns-in-Some
returns-in-Some c = search (tenth-other, arith)
