use Rattle.wire.proofs.Puts.{put-append}
use Rattle.overlay.proofs.record.put_record.Goals as goal

pub returns-in-Tombstone : goal.returns-in-Tombstone
returns-in-Tombstone c = rw c.in-Tombstone.is (put-append c.put_number-code.ensures c.put_number.ensures)

pub returns-in-Given : goal.returns-in-Given
returns-in-Given c = rw c.in-Given.is (put-append c.put_number-code-in-Given.ensures c.put_bytes.ensures)

pub returns-in-Directory : goal.returns-in-Directory
returns-in-Directory c = rw c.in-Directory.is (put-append c.put_number-code-in-Directory.ensures c.put_directory.ensures)

pub returns-in-Updated : goal.returns-in-Updated
returns-in-Updated c = rw c.in-Updated.is (put-append c.put_number-code-in-Updated.ensures c.put_updated.ensures)
