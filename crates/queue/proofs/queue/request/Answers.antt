use borrow.Author.Rules.{rules}
use native.Mathlib.Omega.{arith}
use Rattle.survey.proofs.Numbered.{request_of}
use Rattle.rules.specs.Calls.{Call}
use Rattle.change.proofs.Queued.{tail-ok}
use Rattle.change.proofs.Finishing.{changes-unopened}
use Rattle.queue.proofs.Staging.{request-refused, request-made}
use Rattle.queue.proofs.queue.request.Goals as goal

pub returns-in_err-sections : goal.returns-in_err-sections
returns-in_err-sections c = changes-unopened (Call.request _) _ c.open_sections.ensures.verdict c.in_err-sections.was c.from_residual.ensures

pub returns-then-reason-gt-LAST_REASON : goal.returns-then-reason-gt-LAST_REASON
returns-then-reason-gt-LAST_REASON c = request-refused c.in_ok-sections.ensures.sections.1 (omega arith)

pub unwrap-requires : goal.unwrap-requires
unwrap-requires c = tail-ok c.in_ok-sections.ensures.sections.1 _ c.read_tail.ensures

pub returns : goal.returns
returns c = request-made c.in_ok-sections.ensures.sections.1 c.read_tail.ensures c.unwrap.ensures c.ok.result (omega arith)
    (rw c.ok.ensures.value (request_of _ c.try_from.ensures (omega arith))) (c.write_if_room.ensures _ (λ l q m h. search rules))
