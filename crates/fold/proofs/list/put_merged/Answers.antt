use Rattle.fold.proofs.Merged.{merged-given, gathered-few}
use Rattle.fold.proofs.list.put_merged.Goals as goal

pub put_list-requires : goal.put_list-requires
put_list-requires c = gathered-few c.gather_sources-all.ensures

pub returns : goal.returns
returns c = rw (merged-given c.args.listing c.args.file_type c.gather_sources-all.ensures) at c.put_list.ensures
