use native.Mathlib.Omega.{arith}
use Rattle.trace.proofs.Saying.{decides-next}
use Rattle.trace.proofs.said.deciding.Goals as goal
use Rattle.trace.proofs.said.deciding.Goals.{in-Nothing, in_default}

pub returns-then-not-matches : goal.returns-then-not-matches
returns-then-not-matches c =
    decides-next c.loop-i.invariant (omega arith) c.says_at.ensures
    (elim c.match-matches.branch [ in-Nothing w ↦ cc w.matches-is | in_default w ↦ w.in_default.not-Nothing ])
