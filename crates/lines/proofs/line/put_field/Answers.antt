use Rattle.wire.proofs.Puts.{put-append}
use Rattle.lines.proofs.line.put_field.Goals as goal

pub returns : goal.returns
returns c = put-append c.put_decimal-next.ensures c.put_byte.ensures
