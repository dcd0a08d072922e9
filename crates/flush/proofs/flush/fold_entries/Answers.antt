use native.Mathlib.Omega.{arith}
use Rattle.rules.specs.Calls.{Call}
use Rattle.change.proofs.Finishing.{changes-unopened}
use Rattle.flush.proofs.Flushing.{fold-none, opened-ready, opened-few, fold-made}
use Rattle.flush.proofs.flush.fold_entries.Goals as goal

pub returns-in_err-sections : goal.returns-in_err-sections
returns-in_err-sections c = changes-unopened Call.fold c.args.img.now c.open_sections.ensures.verdict c.in_err-sections.was c.from_residual.ensures

pub returns-then-batches-eq0 : goal.returns-then-batches-eq0
returns-then-batches-eq0 c = fold-none c.in_ok-sections.ensures.sections.1 c.rows_at-batches.ensures c.if-batches-eq0.true

pub walk-walk-requires : goal.walk-walk-requires
walk-walk-requires c = opened-ready c.in_ok-sections.ensures.sections.1 c.rows_at-batches.ensures c.open_layers-layers.ensures (omega arith)

pub write_flushed-requires : goal.write_flushed-requires
write_flushed-requires c =
    opened-few c.in_ok-sections.ensures.sections.1 c.rows_at-batches.ensures c.open_layers-layers.ensures (omega arith)
    c.walk-walk.result c.walk-walk.ensures.0 c.walk-walk.ensures.1

pub returns : goal.returns
returns c =
    fold-made c.in_ok-sections.ensures.sections.1 c.rows_at-batches.ensures c.open_layers-layers.ensures c.walk-walk.result
    c.walk-walk.ensures.0 c.walk-walk.ensures.1 c.if-batches-eq0.false c.write_flushed.ensures
