use Rattle.wire.specs.Number.{number_bytes}
use Rattle.wire.proofs.Puts.{Left}
use Rattle.wire.proofs.number.put_number.Given as goal

abbrev pub invariant-loop-rest : goal.invariant-loop-rest
invariant-loop-rest l = Left l.initial.buf l.at (number_bytes l.number) l.buf l.i (number_bytes l.rest)

abbrev pub decreases-loop-rest : goal.decreases-loop-rest
decreases-loop-rest l = l.rest
