use native.Mathlib.Omega.{arith}
use Rattle.wire.proofs.Readers.{number-most}
use Rattle.passes.proofs.record.pass_fields.Goals as goal

pub pass_later_fields-requires : goal.pass_later_fields-requires
pass_later_fields-requires c = (omega (arith, number-most c.read_number.ensures c.in_ok-bits.was), c.in_ok-times.ensures.within)
