use mathlib.Core.Path.{refl}
use Rattle.wire.proofs.Readers.{handed}
use Rattle.rows.proofs.Planning.{planned, planned-few}
use Rattle.rows.proofs.listing.plan_rows.Goals as goal

pub returns-in_err-count : goal.returns-in_err-count
returns-in_err-count c =
    planned-few c.args.listing c.gather_sources-all.ensures c.args.room c.count_rows.ensures c.ok_or.ensures.value c.in_err-count.was
    (handed c.from_residual.ensures)

pub returns : goal.returns
returns c = planned c.args.listing c.gather_sources-all.ensures c.args.room c.count_rows.ensures c.ok_or.ensures.value c.in_ok-count.was _ refl refl
