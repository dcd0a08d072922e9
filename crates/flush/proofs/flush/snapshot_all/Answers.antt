use mathlib.Core.Path.{refl, ap}
use native.Mathlib.Omega.{arith}
use Rattle.wire.proofs.Readers.{handed}
use Rattle.writers.specs.Tails.{TailParts}
use Rattle.change.proofs.Queued.{tail-ok, stands-tail}
use Rattle.flush.proofs.Flushing.{snapshot-unopened, opened-ready, opened-few, snapshot-made}
use Rattle.flush.proofs.flush.snapshot_all.Goals as goal

pub returns-in_err-sections : goal.returns-in_err-sections
returns-in_err-sections c = snapshot-unopened c.args.img.now c.open_sections.ensures.verdict c.in_err-sections.was (handed c.from_residual.ensures)

pub walk-walk-requires : goal.walk-walk-requires
walk-walk-requires c = opened-ready c.in_ok-sections.ensures.sections.1 c.rows_at-batches.ensures c.open_layers-layers.ensures (omega arith)

pub unwrap-requires : goal.unwrap-requires
unwrap-requires c = tail-ok c.in_ok-sections.ensures.sections.1 _ c.read_tail.ensures

pub write_flushed-requires : goal.write_flushed-requires
write_flushed-requires c =
    opened-few c.in_ok-sections.ensures.sections.1 c.rows_at-batches.ensures c.open_layers-layers.ensures (omega arith)
    c.walk-walk.result c.walk-walk.ensures.0 c.walk-walk.ensures.1

pub returns : goal.returns
returns c =
    snapshot-made c.in_ok-sections.ensures.sections.1 c.rows_at-batches.ensures c.open_layers-layers.ensures c.walk-walk.result
    c.walk-walk.ensures.0 c.walk-walk.ensures.1 refl
    (ap (λ (t : TailParts). t.0) (stands-tail c.in_ok-sections.ensures.sections.1 _ c.read_tail.ensures c.unwrap.ensures)) c.write_flushed.ensures
