use Rattle.fold.proofs.Folding.{body-directory, body-plain}
use Rattle.fold.proofs.folded.put_folded_body.Goals as goal

pub returns-in-Directory : goal.returns-in-Directory
returns-in-Directory c = body-directory c.in-Directory.is c.put_number-list.ensures c.put_folded_list.ensures

pub returns-in_default : goal.returns-in_default
returns-in_default c = body-plain c.args.kind c.in_default.not-Directory c.put_body.ensures
