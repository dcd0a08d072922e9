use mathlib.Core.Path.{refl}
use native.Mathlib.Omega.{arith}
use Rattle.std.proofs.lemmas.List.{length-take-le}
use Rattle.walk.proofs.Opening.{opening-start, starts-head, starts-plain, opening-more, opening-all}
use Rattle.walk.proofs.open.open_layers.Goals as goal
use Rattle.walk.proofs.open.open_layers.Goals.{then-i-batches, else-i-batches}

pub loop-i-init : goal.loop-i-init
loop-i-init c = opening-start c.run_at-base.ensures (length-take-le c.args.n _ c.requires)

pub loop-i-preserved : goal.loop-i-preserved
loop-i-preserved c =
    opening-more c.loop-i.invariant (omega arith)
    (elim c.if-i-batches.branch [
      | then-i-batches w ↦ rw w.top-is (starts-head w.if-i-batches.true w.batch_records.ensures w.unwrap_or-top.ensures)
      | else-i-batches w ↦ rw w.top-is (starts-plain (omega arith))
    ])
    c.run_at.ensures c.records_end.ensures c.unwrap_or-end.ensures

pub returns : goal.returns
returns c = opening-all c.rows_at-batches.ensures c.loop-i.invariant (omega arith) _ c.run_at-base.ensures refl
