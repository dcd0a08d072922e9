use native.Mathlib.Omega.{arith}
use Rattle.wire.proofs.Readers.{handed}
use Rattle.survey.proofs.Batches.{going-all, going-unkeyed, going-headless, going-stop, going_on}
use Rattle.survey.proofs.batch.gather_batches.Goals as goal

pub returns-in_err-id : goal.returns-in_err-id
returns-in_err-id c = going-unkeyed c.loop-batch.invariant (omega arith) c.inode_after.ensures c.in_err-id.was (handed c.from_residual.ensures)

pub returns-in_err-records : goal.returns-in_err-records
returns-in_err-records c =
    going-headless c.loop-batch.invariant (omega arith) c.inode_after.ensures c.in_ok-id.was c.pass_head_rest.ensures c.in_err-records.was
    (handed c.from_residual-in_err-records.ensures)

pub returns-in_err-place : goal.returns-in_err-place
returns-in_err-place c =
    going-stop c.loop-batch.invariant (omega arith) c.inode_after.ensures c.in_ok-id.was c.pass_head_rest.ensures c.in_ok-records.was c.find_inode.ensures
    c.in_err-place.was (handed c.from_residual-in_err-place.ensures)

pub loop-batch-preserved : goal.loop-batch-preserved
loop-batch-preserved c =
    going_on c.loop-batch.invariant (omega arith) c.inode_after.ensures c.in_ok-id.was c.pass_head_rest.ensures c.in_ok-records.was c.find_inode.ensures
    c.in_ok-place.was c.pushed-stack.ensures (omega arith)

pub returns : goal.returns
returns c = going-all c.loop-batch.invariant (omega arith)
