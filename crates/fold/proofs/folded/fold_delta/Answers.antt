use Rattle.fold.proofs.Folding.{delta-applied, delta-other}
use Rattle.fold.proofs.folded.fold_delta.Goals as goal

pub returns-then-of_type : goal.returns-then-of_type
returns-then-of_type c =
    delta-applied c.args.delta c.args.below c.file_type.result c.of_type.ensures c.file_type.ensures _ c.with_delta.ensures c.if-of_type.true

pub returns : goal.returns
returns c = delta-other c.args.delta c.args.below c.file_type.result c.of_type.ensures c.file_type.ensures c.if-of_type.false
