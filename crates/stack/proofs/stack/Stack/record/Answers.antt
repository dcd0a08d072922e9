use Rattle.stack.proofs.Walks.{record-ok}
use Rattle.stack.proofs.stack.Stack.record.Goals as goal

pub unwrap-entry-requires : goal.unwrap-entry-requires
unwrap-entry-requires c = record-ok c.args.self.stacked c.args.i c.requires c.read_entry_delta.ensures
