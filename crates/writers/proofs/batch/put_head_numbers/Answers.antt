use Rattle.wire.proofs.Puts.{put-append}
use Rattle.writers.proofs.batch.put_head_numbers.Goals as goal

pub returns : goal.returns
returns c =
    put-append c.put_number-named.ensures
    (put-append c.put_number-sized.ensures
    (put-append c.put_number-counted.ensures (put-append c.put_number-reasoned.ensures c.put_time.ensures)))
