use mathlib.Core.Path.{◌≡◌}
use native.Mathlib.Nat.{sub-zero}
use lib.Seq.{take-length}
use Rattle.std.proofs.Common.{rules}
use Rattle.merge.proofs.Merging.{best_none, best-more}
use Rattle.merge.proofs.merge.least.Goals as goal

pub loop-source-init : goal.loop-source-init
loop-source-init c =
    let z : c.into_iter-source-iterator.result.iter.rest.now ≡ c.args.sources.now = search (rules, take-length, sub-zero) in
    rw z (best_none c.args.img.now c.args.sources.now)

pub loop-source-preserved : goal.loop-source-preserved
loop-source-preserved c = best-more c.in-Some.source.now c.loop-source.invariant c.in-Some.ensures.steps c.head_of.ensures c.upper-best.ensures
