use Rattle.normalize.proofs.Imaging.{image-put}
use Rattle.normalize.proofs.normalize.put_normal.Goals as goal

pub returns : goal.returns
returns c = image-put c.rows_at-rows.ensures c.put_between-counted.ensures c.put_number-first.ensures c.put_normal_rows-next.ensures c.put_between.ensures
