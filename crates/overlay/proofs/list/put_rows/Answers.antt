use Rattle.wire.proofs.Puts.{put-append}
use Rattle.change.specs.Splices.{spliced}
use Rattle.overlay.proofs.list.put_rows.Goals as goal

pub returns : goal.returns
unfolding spliced
returns c = put-append c.put_number-first.ensures (put-append c.put_between-below.ensures (put-append c.put_between-row.ensures
    (put-append c.put_row-after.ensures (put-append c.put_between-above.ensures c.put_between.ensures))))
