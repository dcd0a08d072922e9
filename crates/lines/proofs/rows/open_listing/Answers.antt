use mathlib.Core.Path.{refl}
use Rattle.wire.proofs.Readers.{handed}
use Rattle.lines.proofs.Opening.{opened-refused, opened-lines}
use Rattle.lines.proofs.rows.open_listing.Goals as goal

pub returns-in_err-snapshot_all : goal.returns-in_err-snapshot_all
returns-in_err-snapshot_all c = opened-refused c.snapshot_all.ensures c.in_err-snapshot_all.was (handed c.from_residual.ensures)

pub returns : goal.returns
returns c = opened-lines c.snapshot_all.ensures c.in_ok-snapshot_all.was c.rows_at.ensures refl
