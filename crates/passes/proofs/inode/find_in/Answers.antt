use native.Mathlib.Omega.{arith}
use Rattle.passes.specs.Held.{held}
use Rattle.image.proofs.Passing.{passed_on}
use Rattle.passes.proofs.Inodes.{seeking-on, finds-all}
use Rattle.passes.proofs.inode.find_in.Goals as goal

pub loop-row-preserved : goal.loop-row-preserved
loop-row-preserved c = record {
  passed = passed_on c.loop-row.invariant.passed (omega arith) c.inode_after.ensures c.in_ok-inode.was c.pass_held.ensures c.in_ok-here.was (omega arith);
  seeking =
      seeking-on (held c.args.what) c.args.img.now c.args.sought c.loop-row.invariant.seeking c.loop-row.before (omega arith) c.in_ok-inode.ensures
      c.in_ok-here.ensures c.then_some.ensures c.or-place.ensures (omega arith);
}

pub returns : goal.returns
returns c = finds-all c.loop-row.invariant.passed c.loop-row.invariant.seeking (omega arith)
