use native.Mathlib.Numerals.{add-one}
use Rattle.wire.proofs.Puts.{put-append}
use Rattle.records.proofs.write_node.put_entry_delta.Goals as goal

pub returns-in-Node : goal.returns-in-Node
returns-in-Node c =
    let code = rw (c.code.ensures.0, c.file_type.ensures c.args.img.now, add-one) at c.put_number-start.ensures in
    let fields = rw c.attr_delta-attr.ensures at c.put_attr_delta-list.ensures in
    let changes = rw c.attr_delta-attr.ensures at c.put_list_if-change.ensures in
    rw c.in-Node.is (put-append (put-append (put-append code fields) changes) c.put_change.ensures)
