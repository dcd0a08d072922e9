use mathlib.Core.Path.{◌∙◌}
use Rattle.gather.proofs.Others.{same_types}
use Rattle.gather.proofs.gather.of_type.Goals as goal

pub returns : goal.returns
returns c = λ img. c.eq.ensures ∙ same_types c.file_type.result c.args.file_type (c.file_type.ensures img)
