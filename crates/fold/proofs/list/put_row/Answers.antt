use Rattle.wire.proofs.Puts.{put-append}
use Rattle.fold.proofs.list.put_row.Goals as goal

pub returns-in-Entries : goal.returns-in-Entries
returns-in-Entries c = rw c.in-Entries.is c.put_entry.ensures

pub returns-in-Attributes : goal.returns-in-Attributes
returns-in-Attributes c = rw c.in-Attributes.is (put-append c.put_text_part-next.ensures c.put_text_part.ensures)
