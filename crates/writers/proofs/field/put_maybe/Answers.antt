use Rattle.wire.proofs.Puts.{put-append}
use Rattle.writers.proofs.field.put_maybe.Goals as goal

pub returns : goal.returns
returns g c = rw c.in-Some.is (put-append c.put_number-next.ensures c.put.ensures)
