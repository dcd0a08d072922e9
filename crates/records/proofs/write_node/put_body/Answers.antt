use Rattle.wire.proofs.Puts.{put-append}
use Rattle.records.proofs.write_node.put_body.Goals as goal

pub returns-in-Directory : goal.returns-in-Directory
returns-in-Directory c = rw c.in-Directory.is (put-append c.put_number-list.ensures c.put_part.ensures)
