use mathlib.Core.Path.{refl}
use Rattle.lookup.proofs.Searching.{rows-listed, standing-rows}
use Rattle.lookup.proofs.list.NameList.rows.Goals as goal

pub invariant_of-result : goal.invariant_of-result
invariant_of-result c = record { there = standing-rows c.args.self.img.now c.args.self.what (rows-listed c.args.self c.rows_at.ensures) }

pub returns : goal.returns
returns c = record { image = refl; sort = refl; standing = rows-listed c.args.self c.rows_at.ensures }
