use Rattle.meld.proofs.Merging.{merging-more, merging-all}
use Rattle.meld.proofs.merged.put_rows.Goals as goal

pub loop-row-preserved : goal.loop-row-preserved
loop-row-preserved c =
    record { can = tt; ends = tt; merging = merging-more c.loop-row.invariant.merging c.next.ensures.steps c.in-Some.is c.put_bytes-end.ensures }

pub returns : goal.returns
returns c = merging-all c.loop-row.invariant.merging c.next.ensures.steps c.in-None.is
