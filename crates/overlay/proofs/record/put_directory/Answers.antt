use Rattle.std.proofs.lemmas.Iterator.Adapters.{option_map_id}
use Rattle.wire.proofs.Puts.{put-append}
use Rattle.overlay.proofs.record.put_directory.Goals as goal

pub returns : goal.returns
returns c =
    let parent = rw (option_map_id c.args.directory.parent) at c.put_maybe-entries.ensures in
    put-append (rw c.code.ensures.0 at c.put_number-fields.ensures) (put-append c.put_attr_delta-list.ensures (put-append c.put_list_if-change.ensures
    (put-append parent (put-append c.put_list-names.ensures c.put_list.ensures))))
