use Prim.Native.Nat.{◌-◌}
use Rattle.change.proofs.Cutting.{Cutting}
use Rattle.change.proofs.cut.cut_rows.Given as goal

abbrev pub invariant-loop : goal.invariant-loop
invariant-loop g l = Cutting g.S.Sought.order g.S.Sought.key (g.S.Sought.value l.sought) l.img l.rows.first l.rows.count (g.S.Sought.wanted l.sought) l.row
    (l.rows.count - l.counter)
