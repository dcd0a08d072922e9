use Rattle.wire.proofs.Puts.{put-append}
use Rattle.records.proofs.write_node.put_node.Goals as goal

pub returns : goal.returns
returns c =
    let number = rw (c.number.ensures.0, c.file_type.ensures c.args.img.now) at c.put_number-start.ensures in
    put-append (put-append (put-append number c.put_inode_meta-list.ensures) c.put_part-body.ensures) c.put_body.ensures
