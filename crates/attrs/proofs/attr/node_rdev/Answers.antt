use mathlib.Core.Logic.{inl, inr}
use Rattle.attrs.proofs.Others.{other-base-device}
use borrow.Enum.Refused.{opened}
use Rattle.attrs.proofs.attr.node_rdev.Goals as goal

pub returns-in-CharDevice : goal.returns-in-CharDevice
returns-in-CharDevice c = λ img. elim c.in-CharDevice.is [ inl e ↦ rw e | inr e ↦ rw e ]

pub returns-in-CharDevice-2 : goal.returns-in-CharDevice-2
returns-in-CharDevice-2 c = λ img. elim c.in-CharDevice.is [ inl e ↦ rw e | inr e ↦ rw e ]

pub returns-in_default : goal.returns-in_default
returns-in_default c = λ img. other-base-device img c.args.kind (opened c.in_default.in_default-own.keys3)
