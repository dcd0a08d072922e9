use Rattle.wire.proofs.Puts.{put-append}
use Rattle.writers.proofs.write_attr.put_inode_meta.Goals as goal

pub returns : goal.returns
returns c =
    put-append (put-append (put-append (put-append (put-append (put-append c.put_number-links.ensures c.put_number-owner.ensures) c.put_number-group.ensures)
    c.put_number-times.ensures) c.put_time-modified.ensures) c.put_time-changed.ensures) c.put_time.ensures
