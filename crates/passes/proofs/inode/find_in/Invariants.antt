use Prim.Native.Nat.{◌-◌}
use Rattle.wire.specs.Orders.{by_number}
use Rattle.image.specs.FieldLayout.{inode}
use Rattle.passes.specs.Held.{held}
use Rattle.image.proofs.Passing.{Passed}
use Rattle.passes.proofs.Inodes.{Seeking}
use Rattle.passes.proofs.inode.find_in.Given as goal

abbrev pub invariant-loop-row : goal.invariant-loop-row
invariant-loop-row l = record {
  passed : Passed by_number inode (held l.what) l.img l.fn.rows.first l.fn.rows.count l.before l.here (l.fn.rows.count - l._row);
  seeking : Seeking (held l.what) l.img l.sought l.fn.rows.first l.fn.rows.count l.place l.here (l.fn.rows.count - l._row);
}
