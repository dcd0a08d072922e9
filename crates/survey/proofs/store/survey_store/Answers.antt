use Rattle.std.proofs.Common.{rules}
use Rattle.wire.proofs.Readers.{handed}
use Rattle.survey.proofs.Stores.{surveys-live, surveys-tail, surveys-all}
use Rattle.survey.proofs.store.survey_store.Goals as goal

pub returns-in_err-record : goal.returns-in_err-record
returns-in_err-record c =
    surveys-live c.find_inode-node.ensures (search rules) c.in_ok-node.was c.gather_queue-queue.ensures (search rules) c.in_ok-queue.was
    c.find_inode-record.ensures (search rules) c.in_err-record.was (handed c.from_residual-in_err-record.ensures)

pub returns-in_err-end : goal.returns-in_err-end
returns-in_err-end c =
    surveys-tail c.find_inode-node.ensures (search rules) c.in_ok-node.was c.gather_queue-queue.ensures (search rules) c.in_ok-queue.was
    c.find_inode-record.ensures (search rules) c.in_ok-record.was c.pass_tail-end.ensures (search rules) c.in_err-end.was
    (handed c.from_residual-in_err-end.ensures)

pub returns : goal.returns
returns c =
    surveys-all c.find_inode-node.ensures (search rules) c.in_ok-node.was c.gather_queue-queue.ensures (search rules) c.in_ok-queue.was
    c.find_inode-record.ensures (search rules) c.in_ok-record.was c.pass_tail-end.ensures (search rules) c.in_ok-end.was c.pushed-stack.ensures
