use Rattle.wire.proofs.Readers.{handed}
use Rattle.merge.proofs.Sourced.{row-unnamed, row-unread, row-there}
use Rattle.merge.proofs.read.first_row.Goals as goal

pub returns-in_err-name : goal.returns-in_err-name
returns-in_err-name c = row-unnamed c.requires c.read_name.ensures c.in_err-name.was (handed c.from_residual.ensures)

pub returns-in_err-given : goal.returns-in_err-given
returns-in_err-given c =
    row-unread c.requires c.read_name.ensures c.in_ok-name.was c.read_given.ensures c.in_err-given.was (handed c.from_residual-in_err-given.ensures)

pub returns : goal.returns
returns c = row-there c.requires c.read_name.ensures c.in_ok-name.was c.read_given.ensures c.in_ok-given.was
