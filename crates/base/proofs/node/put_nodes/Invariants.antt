use Rattle.walk.specs.Walks.{stacks_left}
use Rattle.base.proofs.Sifting.{Writing}
use Rattle.base.proofs.node.put_nodes.Given as goal

abbrev pub invariant-loop-step : goal.invariant-loop-step
invariant-loop-step l = Writing l.initial.buf l.at (stacks_left l.walk) l.drops l.buf l.step-iterator l.nodes
