use native.Mathlib.Omega.{arith}
use Rattle.wire.proofs.Puts.{copied_none, copied_more, copied_all}
use Rattle.wire.proofs.put.put_bytes.Goals as goal
use Rattle.wire.proofs.put.put_bytes.Goals.{then-at-buf+else-loop-i-test, else-at-buf}

pub loop-i-preserved : goal.loop-i-preserved
loop-i-preserved c = copied_more c.loop-i.invariant (omega arith)

pub returns : goal.returns
returns c =
    elim c.if-at-buf.branch [
      | then-at-buf+else-loop-i-test w ↦ rw w.buf-is (copied_all w.loop-i.invariant w.min-count.ensures (omega arith) c.advance.ensures (omega arith))
      | else-at-buf w ↦ rw w.buf-is (copied_all copied_none {count = 0} (omega arith) (omega arith) c.advance.ensures (omega arith))
    ]
