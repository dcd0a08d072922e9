use mathlib.Core.Path.{sym, ◌∙◌}
use borrow.Author.Rules.{rules}
use native.Mathlib.Omega.{arith}
use Rattle.rules.specs.Calls.{Call}
use Rattle.wire.proofs.Readers.{handed}
use Rattle.change.proofs.Queued.{tail-ok}
use Rattle.change.proofs.Finishing.{changes-unopened}
use Rattle.queue.proofs.Taken.{taken, untaken}
use Rattle.queue.proofs.Freezing.{freeze-time, freeze-full, freeze-empty, freeze-last, freeze-made}
use Rattle.queue.proofs.queue.freeze_live.Goals as goal

pub returns-in_err-sections : goal.returns-in_err-sections
returns-in_err-sections c = changes-unopened (Call.freeze _ _) _ c.open_sections.ensures.verdict c.in_err-sections.was c.from_residual.ensures

pub returns-then-wall_now-gt-LAST_NANO : goal.returns-then-wall_now-gt-LAST_NANO
returns-then-wall_now-gt-LAST_NANO c = freeze-time c.in_ok-sections.ensures.sections.1 _ _ _ _ (omega arith)

pub returns-then-flushing_at_capacity : goal.returns-then-flushing_at_capacity
returns-then-flushing_at_capacity c = freeze-full c.in_ok-sections.ensures.sections.1 _ _ _ _ (omega arith)
    c.read_queue-queue.ensures (sym c.flushing_at_capacity.ensures ∙ c.if-flushing_at_capacity.true)

pub unwrap-requires : goal.unwrap-requires
unwrap-requires c = tail-ok c.in_ok-sections.ensures.sections.1 _ c.read_tail.ensures

pub returns-then-live-eq0 : goal.returns-then-live-eq0
returns-then-live-eq0 c = freeze-empty c.in_ok-sections.ensures.sections.1 _ _ _ _ (omega arith) c.read_queue-queue.ensures
    (sym c.flushing_at_capacity.ensures ∙ c.if-flushing_at_capacity.false) c.rows_at-live.ensures c.if-live-eq0.true

pub returns-in_err-next_id : goal.returns-in_err-next_id
returns-in_err-next_id c =
    let e = untaken _ _ _ c.checked_add.ensures c.ok_or.ensures.value c.in_err-next_id.was (handed c.from_residual-in_err-next_id.ensures) in
    rw e.1 (freeze-last c.in_ok-sections.ensures.sections.1 _ _ _ _ (omega arith)
    c.read_queue-queue.ensures (sym c.flushing_at_capacity.ensures ∙ c.if-flushing_at_capacity.false)
    c.rows_at-live.ensures c.if-live-eq0.false c.read_tail.ensures c.unwrap.ensures e.0)

pub returns : goal.returns
returns c = freeze-made c.in_ok-sections.ensures.sections.1 _ _ _ _ (omega arith)
    c.read_queue-queue.ensures (sym c.flushing_at_capacity.ensures ∙ c.if-flushing_at_capacity.false) c.rows_at-live.ensures
    c.if-live-eq0.false c.read_tail.ensures c.unwrap.ensures _ _ (taken _ _ _ c.checked_add.ensures c.ok_or.ensures.value c.in_ok-next_id.was)
    c.frozen_head.ensures c.unstaged.ensures (c.write_if_room.ensures _ (λ l q m h. search rules))
