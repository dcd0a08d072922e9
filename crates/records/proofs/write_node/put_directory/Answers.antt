use Rattle.std.proofs.lemmas.Iterator.Adapters.{option_map_id}
use Rattle.wire.proofs.Puts.{put-append}
use Rattle.records.proofs.write_node.put_directory.Goals as goal

pub returns : goal.returns
returns c =
    let parent = rw (option_map_id c.args.directory.parent) at c.put_maybe-entries.ensures in
    put-append (put-append parent c.put_part-names.ensures) c.put_part.ensures
