use Rattle.wire.proofs.Groups.{Far}
use Prim.Native.Nat.{◌≤◌}
use Rattle.wire.proofs.number.long_number.Given as goal

abbrev pub invariant-loop-i : goal.invariant-loop-i
invariant-loop-i l = Far l.s l.at l.low l.most l.i l.weight l.sum × (l.i ≤ l.end)
