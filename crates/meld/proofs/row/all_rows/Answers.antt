use Rattle.meld.proofs.Merging.{rows-from}
use Rattle.meld.proofs.row.all_rows.Goals as goal

pub returns : goal.returns
returns c = rows-from _ c.rows_at-rows.ensures
