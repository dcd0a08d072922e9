use Prim.Native.Nat.{◌-◌}
use Rattle.wire.specs.Orders.{by_bytes}
use Rattle.image.specs.FieldLayout.{name}
use Rattle.image.specs.Under.{under}
use Rattle.image.specs.Places.{name_before}
use Rattle.image.proofs.Passing.{Passed}
use Rattle.image.proofs.name.pass_rows.Given as goal

abbrev pub invariant-loop-row : goal.invariant-loop-row
invariant-loop-row l = Passed by_bytes name (under l.what) l.img l.fn.rows.first l.fn.rows.count (name_before l.img l.before) l.here (l.fn.rows.count - l._row)
