use Rattle.fold.proofs.Folding.{merged-put, merged-folds}
use Rattle.fold.proofs.folded.put_folded.Goals as goal

pub returns : goal.returns
returns c =
    merged-folds c.requires
    (merged-put c.args.stack c.args.folded c.file_type-file_type.result c.file_type-file_type.ensures c.number.ensures.0 c.put_number-start.ensures
    c.put_inode_meta-list.ensures c.put_folded_list-body.ensures c.put_folded_body.ensures)
