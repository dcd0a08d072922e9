use Rattle.wire.proofs.Puts.{put-append}
use Rattle.writers.proofs.write.put_entry.Goals as goal

pub returns : goal.returns
returns c = put-append c.put_text_part-next.ensures c.put_number.ensures
