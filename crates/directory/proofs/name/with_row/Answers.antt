use Rattle.directory.proofs.Entries.{some-changed, none-changed}
use Rattle.directory.proofs.name.with_row.Goals as goal

pub returns-in-Some : goal.returns-in-Some
returns-in-Some c = rw (c.with_cut.ensures, c.in-Some.is) (some-changed c.cut_at-cut.ensures c.advance.ensures)

pub returns-in-None : goal.returns-in-None
returns-in-None c = rw (c.with_cut-in-None.ensures, c.in-None.is) none-changed
