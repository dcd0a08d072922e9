use Rattle.wire.proofs.Puts.{put-append}
use Rattle.waiting.proofs.write.put_requeued.Goals as goal

pub returns : goal.returns
returns c = put-append c.put_between-counted.ensures (put-append c.put_number-next.ensures c.put_between.ensures)
