use Rattle.wire.proofs.Puts.{put-append}
use Rattle.waiting.proofs.write.put_restaged.Goals as goal

pub returns : goal.returns
returns c = put-append c.put_between-next.ensures c.put_tail.ensures
