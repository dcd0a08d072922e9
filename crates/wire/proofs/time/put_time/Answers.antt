use Rattle.wire.proofs.Puts.{put-append}
use mir.Syntax.{w64}
use mir.ValLaws.{to_z-of_z}
use Rattle.wire.specs.Time.{time}
use Rattle.wire.proofs.time.put_time.Goals as goal

pub returns : goal.returns
unfolding time
returns c = put-append (rw (c.zigzag.ensures, to_z-of_z w64 _ (record { sfits = c.struct_told-1.given.0.1 })) at c.put_number-next.ensures) c.put_number.ensures
