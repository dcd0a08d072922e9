use Rattle.wire.proofs.Readers.{number-most}
use Rattle.nodes.proofs.field.read_maybe.Goals as goal

pub read_if-requires : goal.read_if-requires
read_if-requires g c = (number-most c.read_number.ensures c.in_ok-bit.was, c.in_ok-bit.ensures.within)
