use borrow.Author.Rules.{rules}
use Rattle.wire.proofs.Readers.{handed}
use Rattle.rules.specs.Calls.{Call}
use Rattle.change.proofs.Queued.{tail-ok}
use Rattle.change.proofs.Finishing.{changes-unopened}
use Rattle.queue.proofs.Taken.{taken, untaken}
use Rattle.queue.proofs.Staging.{note-bytes, note-operations, note-made}
use Rattle.queue.proofs.queue.record_mutation.Goals as goal

pub returns-in_err-sections : goal.returns-in_err-sections
returns-in_err-sections c = changes-unopened (Call.note _) _ c.open_sections.ensures.verdict c.in_err-sections.was c.from_residual.ensures

pub unwrap-requires : goal.unwrap-requires
unwrap-requires c = tail-ok c.in_ok-sections.ensures.sections.1 _ c.read_tail.ensures

pub returns-in_err-bytes : goal.returns-in_err-bytes
returns-in_err-bytes c =
    let e = untaken _ _ _ c.counted.ensures c.ok_or.ensures.value c.in_err-bytes.was (handed c.from_residual-in_err-bytes.ensures) in
    rw e.1 (note-bytes c.in_ok-sections.ensures.sections.1 c.read_tail.ensures c.unwrap.ensures _ e.0)

pub returns-in_err-operations : goal.returns-in_err-operations
returns-in_err-operations c =
    let e = untaken _ _ _ c.counted-2.ensures c.ok_or-2.ensures.value c.in_err-operations.was (handed c.from_residual-in_err-operations.ensures) in
    rw e.1 (note-operations c.in_ok-sections.ensures.sections.1 c.read_tail.ensures c.unwrap.ensures _
    (taken _ _ _ c.counted.ensures c.ok_or.ensures.value c.in_ok-bytes.was) e.0)

pub returns : goal.returns
returns c = note-made c.in_ok-sections.ensures.sections.1 c.read_tail.ensures c.unwrap.ensures _
    (taken _ _ _ c.counted.ensures c.ok_or.ensures.value c.in_ok-bytes.was) (taken _ _ _ c.counted-2.ensures c.ok_or-2.ensures.value c.in_ok-operations.was)
    (c.write_if_room.ensures _ (λ l q m h. search rules))
