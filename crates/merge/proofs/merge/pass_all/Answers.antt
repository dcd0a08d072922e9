use native.Mathlib.Omega.{arith}
use Rattle.merge.proofs.Merging.{passing-none, passing-more, passing-all}
use Rattle.merge.proofs.merge.pass_all.Goals as goal

pub loop-source-init : goal.loop-source-init
loop-source-init c = passing-none c.args.img.now c.args.sources.now c.args.name

pub loop-source-preserved : goal.loop-source-preserved
loop-source-preserved c =
    passing-more c.args.img.now c.args.sources.now c.loop-source.sources c.args.name c.loop-source.source-index _ c.loop-source.invariant (omega arith)
    c.passed.ensures

pub returns : goal.returns
returns c = passing-all c.loop-source.source-index c.loop-source.invariant (omega arith)
