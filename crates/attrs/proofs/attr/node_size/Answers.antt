use Rattle.attrs.proofs.Others.{other-base-size}
use Rattle.attrs.proofs.Lengths.{base-link-size}
use borrow.Enum.Refused.{opened}
use Rattle.attrs.proofs.attr.node_size.Goals as goal

pub returns-in-File : goal.returns-in-File
returns-in-File c = λ img h. rw c.in-File.is

pub returns-in-Symlink : goal.returns-in-Symlink
returns-in-Symlink c = λ img h. base-link-size img c.in-Symlink.is h

pub returns-in_default : goal.returns-in_default
returns-in_default c = λ img h. other-base-size img c.args.kind (opened c.in_default.in_default-own.keys3)
