use borrow.Author.Tests.{ne_eqb}
use Rattle.layers.proofs.Calls.{asked-stop, asked-fine}
use Rattle.rules.specs.Asks.{Ask}
use Rattle.wire.proofs.Readers.{handed}
use Rattle.layers.proofs.layers.parent_dir_inode.Goals as goal

pub returns-in_err-stack : goal.returns-in_err-stack
returns-in_err-stack c = asked-stop _ (Ask.parent c.args.ino) c.open_image.ensures _ c.in_err-stack.was (handed c.from_residual.ensures)

pub returns-then-ino-eq1 : goal.returns-then-ino-eq1
returns-then-ino-eq1 c = asked-fine _ (Ask.parent c.args.ino) c.open_image.ensures c.in_ok-stack.was (rw c.if-ino-eq1.true)

pub returns : goal.returns
returns c = asked-fine _ (Ask.parent c.args.ino) c.open_image.ensures c.in_ok-stack.was (rw (ne_eqb c.args.ino 1 c.if-ino-eq1.false, c.decided.ensures))
