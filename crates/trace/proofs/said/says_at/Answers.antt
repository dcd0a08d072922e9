use Prim.Native.Nat.{◌+◌}
use Rattle.trace.proofs.Saying.{entries-inodes}
use Rattle.trace.proofs.said.says_at.Goals as goal

pub said_in-requires : goal.said_in-requires
said_in-requires c = entries-inodes c.args.stack c.args.name.now (c.args.i + 1) _ c.entries_at.ensures
