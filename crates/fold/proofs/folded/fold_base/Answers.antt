use Rattle.std.proofs.Common.{rules}
use Rattle.fold.proofs.Folding.{base-folds}
use Rattle.fold.proofs.folded.fold_base.Goals as goal

pub returns : goal.returns
returns c = base-folds c.args.base (search rules)
