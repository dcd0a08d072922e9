use Rattle.std.proofs.Common.{arith}
use Rattle.walk.proofs.Stepping.{taking-start, taking-sound, taking-more, taking-other}
use Rattle.walk.proofs.step.take_stack.Goals as goal
use Rattle.walk.proofs.step.take_stack.Goals.{then-top, else-top}

pub loop-run-init : goal.loop-run-init
loop-run-init c = taking-start c.take_place-node.ensures c.bare_stack-places.ensures c.is_some-top.ensures _

pub take_place-place-requires : goal.take_place-place-requires
take_place-place-requires c = taking-sound c.loop-run.invariant (omega arith) _ c.requires.layers

pub loop-run-preserved : goal.loop-run-preserved
loop-run-preserved c =
    let here = c.take_place-place.ensures in
    let top = c.is_some-top-in-loop-run.ensures in
    elim c.if-top.branch [
      | then-top w ↦ rw w.places-is (taking-more c.loop-run.invariant (omega arith) _ here w.pushed-places.ensures top)
      | else-top w ↦ rw w.places-is (taking-other c.loop-run.invariant (omega arith) _ here top w.if-top.false)
    ]
