use Rattle.wire.proofs.Puts.{put-append}
use Rattle.waiting.proofs.write.put_refrozen.Goals as goal

pub returns : goal.returns
returns c = put-append c.put_between-counted.ensures (put-append c.put_number-queued.ensures (put-append c.put_between-headed.ensures
    (put-append c.put_batch_head-recorded.ensures (put-append c.put_between-live.ensures (put-append c.put_number-next.ensures c.put_tail.ensures)))))
