use Rattle.walk.proofs.Stepping.{lowest-more, lowest-last, least-all}
use Rattle.walk.proofs.step.least_inode.Goals as goal

pub loop-run-preserved : goal.loop-run-preserved
loop-run-preserved c = lowest-more _ _ c.loop-run-test.true c.loop-run.invariant _ c.lower-best-in-loop-run.ensures

pub returns : goal.returns
returns c = least-all c.lower-best.ensures (lowest-last _ _ c.loop-run-test.false c.loop-run.invariant)
