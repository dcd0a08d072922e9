use native.Mathlib.Omega.{arith}
use Rattle.merge.proofs.Settling.{settled-none, settled-given, settled-in, settling-less, settling-more}
use Rattle.merge.proofs.merge.next_given.Goals as goal

pub returns-in-Some-given : goal.returns-in-Some-given
returns-in-Some-given c =
    settled-in c.args.count _ (omega arith) (settled-given c.loop-head.invariant c.least.ensures c.in-Some.is c.pass_all.ensures c.in-Some-given.is)

pub loop-head-smaller : goal.loop-head-smaller
loop-head-smaller c = settling-less c.loop-head.invariant c.least.ensures c.in-Some.is c.pass_all.ensures

pub loop-head-preserved : goal.loop-head-preserved
loop-head-preserved c = settling-more c.loop-head.invariant c.least.ensures c.in-Some.is c.pass_all.ensures c.in_default-given.is

pub returns : goal.returns
returns c = settled-in c.args.count _ (omega arith) (settled-none c.loop-head.invariant c.least.ensures c.in_default.is)
