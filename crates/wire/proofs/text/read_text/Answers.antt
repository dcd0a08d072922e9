use Rattle.wire.proofs.Readers.{text-ended}
use Rattle.wire.proofs.text.read_text.Goals as goal

pub returns-then-left-count : goal.returns-then-left-count
returns-then-left-count c = text-ended _ _ c.read_number.ensures c.in_ok-count.was c.if-count-least.false c.if-left-count.true
