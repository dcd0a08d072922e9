use native.Mathlib.Omega.{arith}
use Rattle.std.specs.Prelude.{◌≡◌}
use Rattle.wire.proofs.Groups.{far-last, far-more, far-group, far-sum, far-high, far-high-sum, far-weight, far-rest}
use Rattle.wire.proofs.number.long_number.Goals as goal

pub overflow_mul-group : goal.overflow_mul-group
overflow_mul-group c = search (far-group, arith)

pub overflow_add-group : goal.overflow_add-group
overflow_add-group c = search (far-sum, arith)

pub returns-then-group-lt128 : goal.returns-then-group-lt128
returns-then-group-lt128 c = search (far-last, arith)

pub overflow_mul-sum : goal.overflow_mul-sum
overflow_mul-sum c = search (far-high, arith)

pub overflow_add-sum : goal.overflow_add-sum
overflow_add-sum c = search (far-high-sum, arith)

pub overflow_mul-weight : goal.overflow_mul-weight
overflow_mul-weight c = search far-weight

pub loop-i-preserved : goal.loop-i-preserved
loop-i-preserved c = (search (far-more, arith), omega arith)

pub returns : goal.returns
returns c =
    let e : c.before_tenth-end.result ≡ c.loop-i.i = omega arith in
    let g = rw e at c.tenth_group.ensures in
    search (far-rest, arith)
