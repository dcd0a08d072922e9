use Rattle.normalize.proofs.Recording.{copied}
use Rattle.normalize.proofs.record.put_record.Goals as goal

pub returns : goal.returns
returns c = copied c.pass_record.ensures c.unwrap_or-end.ensures c.put_between.ensures
