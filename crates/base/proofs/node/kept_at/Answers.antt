use Rattle.base.proofs.Kept.{kept-unkind, kept-unperm, kept-unlinked, kept-told}
use Rattle.base.proofs.node.kept_at.Goals as goal

pub returns-in_err-kind : goal.returns-in_err-kind
returns-in_err-kind c = kept-unkind c.read_file_type.ensures c.in_err-kind.was

pub returns-in_err-linked : goal.returns-in_err-linked
returns-in_err-linked c = kept-unperm c.read_file_type.ensures c.in_ok-kind.was c.pass.ensures c.in_err-linked.was

pub returns-in_err-links : goal.returns-in_err-links
returns-in_err-links c =
    kept-unlinked c.read_file_type.ensures c.in_ok-kind.was c.pass.ensures c.in_ok-linked.was c.read.ensures.reads c.in_err-links.was

pub returns : goal.returns
returns c =
    kept-told c.read_file_type.ensures c.in_ok-kind.was c.pass.ensures c.in_ok-linked.was c.read.ensures.reads c.in_ok-links.was
    c.is_kept.ensures
