use mathlib.Core.Path.{refl}
use Rattle.stack.proofs.Opening.{survey-stacked}
use Rattle.change.proofs.Sections.{inode-opened}
use Rattle.change.proofs.section.open_inode.Goals as goal

pub invariant_of-result : goal.invariant_of-result
invariant_of-result c = record { stacked = survey-stacked c.read_image.ensures c.in_ok-survey.was }

pub returns : goal.returns
returns c = inode-opened c.read_image.ensures c.in_ok-survey.was _ refl refl
