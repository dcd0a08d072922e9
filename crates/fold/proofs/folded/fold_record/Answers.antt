use Rattle.fold.proofs.Folding.{record-on, record-gone}
use Rattle.fold.proofs.folded.fold_record.Goals as goal

pub returns-in-Some : goal.returns-in-Some
returns-in-Some c = rw (c.in-Node.is, c.in-Some.is) (record-on c.fold_delta.ensures)

pub returns-in-Tombstone : goal.returns-in-Tombstone
returns-in-Tombstone c = rw c.in-Tombstone.is (record-gone c.args.below)
