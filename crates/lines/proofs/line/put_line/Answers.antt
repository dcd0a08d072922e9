use Rattle.wire.proofs.Puts.{put-append}
use Rattle.lines.proofs.line.put_line.Goals as goal

pub returns : goal.returns
returns c =
    rw (← c.letter-letter.ensures)
    (put-append c.put_field-named.ensures (put-append c.put_mode-moded.ensures (put-append c.put_field-linked.ensures c.put_field.ensures)))
