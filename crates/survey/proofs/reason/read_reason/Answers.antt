use mathlib.Core.Path.{refl}
use Rattle.wire.proofs.Readers.{number-most, handed}
use Rattle.survey.proofs.Numbered.{reason-none}
use Rattle.survey.proofs.reason.read_reason.Goals as goal

pub returns-in_err-reason : goal.returns-in_err-reason
returns-in_err-reason c =
    let z = reason-none c.try_from.ensures c.in_err-reason.was (number-most c.read_number.ensures c.in_ok-number.was) in
    let h = rw z.0 at c.in_ok-number.ensures in
    rw (handed c.from_residual-in_err-reason.ensures, z.1) (record { same = rw h.same refl; within = tt })
