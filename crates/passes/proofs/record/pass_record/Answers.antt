use mathlib.Core.Path.{refl}
use Rattle.std.specs.Prelude.{Some}
use Rattle.wire.proofs.Readers.{handed}
use Rattle.image.specs.FileTypes.{kind_meant}
use Rattle.image.specs.RecordLayout.{change_part, layer_record, record_of}
use Rattle.image.proofs.Passing.{ends-made, ends-chosen, ends-then, ends-stop}
use Rattle.passes.proofs.record.pass_record.Goals as goal

pub returns-in_default : goal.returns-in_default
unfolding layer_record
returns-in_default c =
    let h = rw c.in_default.is at c.in_ok-code.ensures in
    ends-made record_of (ends-chosen _ h refl (record { same = refl; within = h.within }))

pub returns-in_err-change : goal.returns-in_err-change
unfolding layer_record
returns-in_err-change c =
    let h = rw c.in-Some.is at c.in_ok-code.ensures in
    let e = handed c.from_residual-in_err-change.ensures in
    ends-made record_of
    (ends-chosen _ h refl
    (ends-made (λ p. (Some (kind_meant c.in-Some.kind), p)) (ends-stop _ c.pass_fields.ensures c.in_err-change.was e)))

pub returns : goal.returns
unfolding layer_record
returns c =
    let h = rw c.in-Some.is at c.in_ok-code.ensures in
    let k = kind_meant c.in-Some.kind in
    ends-made record_of
    (ends-chosen _ h refl
    (ends-made (λ p. (Some k, p)) (ends-then (change_part k).read (λ a b. (a, b)) c.pass_fields.ensures c.in_ok-change.was c.pass_change.ensures)))
