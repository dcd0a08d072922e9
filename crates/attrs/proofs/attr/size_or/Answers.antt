use Rattle.attrs.proofs.Others.{other-size}
use borrow.Enum.Refused.{opened}
use Rattle.attrs.proofs.attr.size_or.Goals as goal

pub returns-in_default : goal.returns-in_default
returns-in_default c = λ img h. other-size img c.args.delta c.args.old (opened c.in_default.in_default-own.keys3)
