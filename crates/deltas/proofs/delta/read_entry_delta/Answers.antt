use Rattle.wire.proofs.Readers.{handed}
use Rattle.deltas.proofs.Deltas.{code-stops, reads-tombstone, fields-stop, change-stops, reads-delta}
use Rattle.deltas.proofs.delta.read_entry_delta.Goals as goal

pub returns-in_err-code : goal.returns-in_err-code
returns-in_err-code c = code-stops c.read_code.ensures c.in_err-code.was (handed c.from_residual.ensures)

pub returns-in_default : goal.returns-in_default
returns-in_default c = reads-tombstone c.read_code.ensures c.in_ok-code.was c.in_default.is

pub returns-in_err-attr_delta : goal.returns-in_err-attr_delta
returns-in_err-attr_delta c =
    fields-stop c.read_code.ensures c.in_ok-code.was c.in-Some.is c.read_attr_delta.ensures c.in_err-attr_delta.was
    (handed c.from_residual-in_err-attr_delta.ensures)

pub returns-in_err-delta : goal.returns-in_err-delta
returns-in_err-delta c =
    change-stops c.read_code.ensures c.in_ok-code.was c.in-Some.is c.read_attr_delta.ensures c.in_ok-attr_delta.was c.read_node_delta.ensures c.in_err-delta.was
    (handed c.from_residual-in_err-delta.ensures)

pub returns : goal.returns
returns c =
    reads-delta c.read_code.ensures c.in_ok-code.was c.in-Some.is c.read_attr_delta.ensures c.in_ok-attr_delta.was c.read_node_delta.ensures c.in_ok-delta.was
