use mathlib.Core.Path.{refl}
use Rattle.walk.proofs.Stepping.{step-none, still-ready, step_taken, step-goes}
use Rattle.walk.proofs.step.WalkIterator.next.Goals as goal

pub returns-in_err-inode-clause-steps : goal.returns-in_err-inode-clause-steps
returns-in_err-inode-clause-steps c = step-none c.least_inode.ensures c.in_err-inode.was c.from_residual.ensures

pub invariant_of-self : goal.invariant_of-self
invariant_of-self c = record { ready = still-ready c.args.self.now.ready c.take_stack.ensures }

pub returns-clause-steps : goal.returns-clause-steps
returns-clause-steps c = step_taken c.least_inode.ensures c.in_ok-inode.was refl c.take_stack.ensures

pub returns-clause-goes : goal.returns-clause-goes
returns-clause-goes c = step-goes (step_taken c.least_inode.ensures c.in_ok-inode.was refl c.take_stack.ensures)
