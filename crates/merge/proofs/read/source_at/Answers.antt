use mathlib.Core.Path.{refl}
use Rattle.merge.proofs.Sourced.{list-read}
use Rattle.merge.proofs.read.source_at.Goals as goal

pub returns : goal.returns
returns c = list-read c.rows_at-rows.ensures _ refl refl
