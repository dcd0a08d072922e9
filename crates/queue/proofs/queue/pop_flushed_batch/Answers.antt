use borrow.Author.Rules.{rules}
use Rattle.wire.proofs.Readers.{handed}
use Rattle.rules.specs.Calls.{Call}
use Rattle.change.proofs.Finishing.{changes-unopened}
use Rattle.queue.proofs.Taken.{taken, untaken}
use Rattle.queue.proofs.Popping.{front-ok, pop-none, pop-other, pop-made}
use Rattle.queue.proofs.queue.pop_flushed_batch.Goals as goal

pub returns-in_err-sections : goal.returns-in_err-sections
returns-in_err-sections c = changes-unopened (Call.pop _) _ c.open_sections.ensures.verdict c.in_err-sections.was c.from_residual.ensures

pub returns-in_err-count : goal.returns-in_err-count
returns-in_err-count c =
    let e = untaken _ _ _ c.checked_sub.ensures c.ok_or.ensures.value c.in_err-count.was (handed c.from_residual-in_err-count.ensures) in
    rw e.1 (pop-none c.in_ok-sections.ensures.sections.1 c.rows_at-batches.ensures _ e.0)

pub unwrap-first-requires : goal.unwrap-first-requires
unwrap-first-requires c = front-ok c.in_ok-sections.ensures.sections.1 c.rows_at-batches.ensures
    (taken _ _ _ c.checked_sub.ensures c.ok_or.ensures.value c.in_ok-count.was) _ c.pass_batch.ensures

pub returns-then-head-batch_id : goal.returns-then-head-batch_id
returns-then-head-batch_id c = pop-other c.in_ok-sections.ensures.sections.1 c.rows_at-batches.ensures
    (taken _ _ _ c.checked_sub.ensures c.ok_or.ensures.value c.in_ok-count.was) _ c.pass_batch.ensures c.unwrap-first.ensures _ c.if-head-batch_id.true

pub returns : goal.returns
returns c = pop-made c.in_ok-sections.ensures.sections.1 c.rows_at-batches.ensures
    (taken _ _ _ c.checked_sub.ensures c.ok_or.ensures.value c.in_ok-count.was) _ c.pass_batch.ensures c.unwrap-first.ensures _ c.if-head-batch_id.false
    (c.write_if_room.ensures _ (λ l q m h. search rules))
