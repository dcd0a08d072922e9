use Rattle.std.proofs.Common.{rules, length}
use Rattle.image.specs.Masks.{maybe}
use Rattle.image.specs.FieldLayout.{name, value}
use Rattle.change.specs.Cuts.{rows_bytes}
use Rattle.meld.specs.Merged.{both_rows}
use Rattle.meld.specs.declared.left.Both.{Both}
use Rattle.meld.proofs.Merging.{both-counted}
use Rattle.meld.proofs.merged.put_changes.Goals as goal

pub returns : goal.returns
returns c =
    let both : Both = record { upper = c.all_rows.result; lower = c.all_rows-2.result; few = (c.all_rows.ensures.few, c.all_rows-2.ensures.few) } in
    let e = both-counted both c.all_rows.ensures c.all_rows-2.ensures in
    let rows = both_rows both in
    rw (c.in-Some.is, c.in-Some-old.is)
    (rw e at (c.put_counted.ensures (length rows) (rows_bytes name (maybe value) rows) (λ l q w m h. (search rules, search rules))))
