use Rattle.walk.proofs.Running.{moved_here}
use Rattle.walk.proofs.run.take_place.Goals as goal

pub returns : goal.returns
returns c = moved_here c.requires c.in_ok-row.was c.if-row-inode.false c.run_from.ensures
