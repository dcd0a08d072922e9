use Rattle.trace.proofs.Saying.{entries-inodes, base-says}
use Rattle.trace.proofs.said.base_says.Goals as goal

pub said_in-requires : goal.said_in-requires
said_in-requires c = entries-inodes c.args.stack c.args.name.now 0 _ (c.base_entries.ensures c.args.name.now)

pub returns : goal.returns
returns c = base-says c.args.stack c.args.name.now c.base_entries.result c.base_entries.ensures c.said_in.ensures
