use mathlib.Core.Path.{ap}
use Rattle.wire.proofs.Readers.{handed}
use Rattle.rules.specs.Answers.{answer}
use Rattle.rules.specs.Asks.{Ask}
use Rattle.layers.proofs.Calls.{asked-stop, asked-fine}
use Rattle.lookup.proofs.child.lookup_child.Goals as goal

pub returns-in_err-stack : goal.returns-in_err-stack
returns-in_err-stack c = asked-stop _ (Ask.child c.args.ino c.args.name.now) c.open_named.ensures _ c.in_err-stack.was (handed c.from_residual.ensures)

pub returns : goal.returns
returns c = asked-fine _ (Ask.child c.args.ino c.args.name.now) c.open_named.ensures c.in_ok-stack.was (ap answer c.child_in-child.ensures)
