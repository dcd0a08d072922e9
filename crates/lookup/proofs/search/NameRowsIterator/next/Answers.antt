use native.Mathlib.Omega.{arith}
use Rattle.lookup.proofs.Searching.{row-there, row-read, rows-on}
use Rattle.lookup.proofs.search.NameRowsIterator.next.Goals as goal

pub invariant_of-self : goal.invariant_of-self
invariant_of-self c =
    let read = row-read (row-there c.args.self.now.there (omega arith)) (rw c.unwrap-row.ensures at c.read_row.ensures) in
    record { there = rows-on c.args.self.now.there (omega arith) read }
