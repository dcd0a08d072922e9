use Rattle.wire.proofs.Puts.{left-digit, left-last}
use Rattle.wire.proofs.number.put_number.Goals as goal

pub loop-rest-preserved : goal.loop-rest-preserved
loop-rest-preserved c = search left-digit

pub returns : goal.returns
returns c = search left-last
