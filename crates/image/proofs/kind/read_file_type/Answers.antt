use Rattle.wire.proofs.Readers.{number-most}
use Rattle.image.proofs.Numbered.{kind-known}
use Rattle.image.proofs.kind.read_file_type.Goals as goal

pub returns-in_err-kind : goal.returns-in_err-kind
returns-in_err-kind c = kind-known c.try_from.ensures c.in_err-kind.was (number-most c.read_number.ensures c.in_ok-number.was)
