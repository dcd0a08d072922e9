use mathlib.Core.Path.{refl}
use Rattle.stack.proofs.Opening.{survey-stacked, opens-stack}
use Rattle.stack.proofs.open.open_image.Goals as goal

pub invariant_of-result : goal.invariant_of-result
invariant_of-result c = record { stacked = survey-stacked c.read_image.ensures c.in_ok-survey.was }

pub returns : goal.returns
returns c = opens-stack c.read_image.ensures c.in_ok-survey.was _ refl refl
