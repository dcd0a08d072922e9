use Rattle.wire.proofs.Readers.{handed}
use Rattle.nodes.proofs.Values.{field-none, field-some, field-stop}
use Rattle.nodes.proofs.field.read_if.Goals as goal

pub returns-then-bit-eq0 : goal.returns-then-bit-eq0
returns-then-bit-eq0 g c = field-none _ c.if-bit-eq0.true c.requires.1

pub returns-in_err-value : goal.returns-in_err-value
returns-in_err-value g c = field-stop _ c.if-bit-eq0.false c.requires.0 c.read.ensures c.in_err-value.was (handed c.from_residual.ensures)

pub returns : goal.returns
returns g c = field-some _ c.if-bit-eq0.false c.requires.0 c.read.ensures c.in_ok-value.was
