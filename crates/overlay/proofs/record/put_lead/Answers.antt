use Rattle.wire.proofs.Puts.{put-append}
use Rattle.overlay.proofs.record.put_lead.Goals as goal

pub returns-in-Head : goal.returns-in-Head
returns-in-Head c = rw c.in-Head.is (put-append c.put_between-counted.ensures (put-append c.put_number-first.ensures c.put_between.ensures))
