use Rattle.wire.proofs.Puts.{put-append}
use Rattle.overlay.proofs.list.put_row.Goals as goal

pub returns-in-Entry : goal.returns-in-Entry
returns-in-Entry c = rw c.in-Entry.is (put-append c.put_text-next.ensures c.put_number.ensures)
