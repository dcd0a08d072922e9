use Rattle.change.proofs.Cutting.{cut_listed}
use Rattle.change.proofs.cut.cut_at.Goals as goal

pub returns : goal.returns
returns g c = cut_listed _ _ _ c.rows_at-rows.ensures c.cut_rows.ensures
