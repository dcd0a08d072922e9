use Rattle.wire.proofs.Puts.{put-append}
use Rattle.lines.proofs.line.put_refusal_number.Goals as goal

pub returns : goal.returns
returns c = put-append c.put_bytes-next.ensures c.put_field.ensures
