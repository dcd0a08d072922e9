use Rattle.wire.proofs.Readers.{handed}
use Rattle.passes.proofs.Inodes.{finds-list, finds-uncounted}
use Rattle.passes.proofs.inode.find_inode.Goals as goal

pub returns-in_err-rows : goal.returns-in_err-rows
returns-in_err-rows c = finds-uncounted c.read_rows.ensures c.in_err-rows.was (handed c.from_residual.ensures)

pub returns : goal.returns
returns c = finds-list c.read_rows.ensures c.in_ok-rows.was c.find_in.ensures
