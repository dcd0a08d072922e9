use native.Mathlib.Omega.{arith}
use Rattle.lines.proofs.Spelling.{spelled-more, spelled-next, spelled-full, put_same}
use Rattle.lines.proofs.digit.put_digits.Goals as goal

pub returns-then-left-eq0 : goal.returns-then-left-eq0
returns-then-left-eq0 c =
    put_same c.loop-i.invariant.0 (spelled-next c.loop-i.invariant.1 (omega arith) c.if-rest-eq0.true c.if-left-eq0.true) c.put_bytes.ensures

pub loop-i-preserved : goal.loop-i-preserved
loop-i-preserved c = (c.loop-i.invariant.0, spelled-more c.loop-i.invariant.1 (omega arith) c.else-rest-eq0.either c.saturating_sub-left.ensures)

pub returns : goal.returns
returns c = put_same c.loop-i.invariant.0 (spelled-full c.loop-i.invariant.1 (omega arith)) c.put_bytes-2.ensures
