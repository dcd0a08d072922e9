use Rattle.wire.proofs.Puts.{put-append}
use Rattle.lines.proofs.line.put_mode.Goals as goal

pub returns : goal.returns
returns c = put-append c.put_byte-lettered.ensures (put-append c.put_byte-spaced.ensures (put-append c.put_octal-moded.ensures c.put_byte.ensures))
