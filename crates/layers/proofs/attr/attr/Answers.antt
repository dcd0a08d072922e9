use mathlib.Core.Path.{ap}
use Rattle.rules.specs.Answers.{answer}
use Rattle.layers.proofs.Calls.{asked-stop, asked-fine}
use Rattle.rules.specs.Asks.{Ask}
use Rattle.wire.proofs.Readers.{handed}
use Rattle.layers.proofs.attr.attr.Goals as goal

pub returns-in_err-stack : goal.returns-in_err-stack
returns-in_err-stack c = asked-stop _ (Ask.attributes c.args.ino) c.open_image.ensures _ c.in_err-stack.was (handed c.from_residual.ensures)

pub returns : goal.returns
returns c = asked-fine _ (Ask.attributes c.args.ino) c.open_image.ensures c.in_ok-stack.was (ap answer c.shown_attr.ensures)
