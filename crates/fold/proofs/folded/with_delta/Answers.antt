use Rattle.fold.proofs.Folding.{with-delta}
use Rattle.fold.proofs.folded.with_delta.Goals as goal

pub returns : goal.returns
returns c = with-delta c.args.delta c.args.below _ c.apply_to_node.ensures c.attributes_after.ensures c.entries_after.ensures
