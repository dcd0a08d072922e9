use Rattle.attrs.proofs.Others.{other-perm}
use borrow.Enum.Refused.{opened}
use Rattle.attrs.proofs.attr.node_perm.Goals as goal

pub returns-in-Symlink : goal.returns-in-Symlink
returns-in-Symlink c = λ img. rw c.in-Symlink.is

pub returns-in_default : goal.returns-in_default
returns-in_default c = λ img. other-perm img c.args.kind c.args.perm (opened c.in_default.in_default-own.keys2)
