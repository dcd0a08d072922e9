use Rattle.image.proofs.Passing.{ends-then}
use Rattle.passes.proofs.record.pass_later_fields.Goals as goal

pub returns : goal.returns
returns c =
    ends-then _ (λ a b. (a, b)) c.pass_if.ensures c.in_ok-mtime.was
    (ends-then _ (λ a b. (a, b)) c.pass_if-2.ensures c.in_ok-ctime.was
    (ends-then _ (λ a b. (a, b)) c.pass_if-3.ensures c.in_ok-created.was
    (ends-then _ (λ a b. (a, b)) c.pass_if-4.ensures c.in_ok-attributes.was c.pass_if-5.ensures)))
