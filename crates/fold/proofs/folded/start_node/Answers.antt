use Rattle.fold.proofs.Folding.{record-first}
use Rattle.fold.proofs.folded.start_node.Goals as goal

pub returns : goal.returns
returns c = record-first c.args.delta c.initial_node.result _ c.initial_node.ensures c.with_delta.ensures
