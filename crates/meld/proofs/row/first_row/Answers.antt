use mathlib.Core.Path.{refl}
use native.Mathlib.Omega.{arith}
use Rattle.meld.proofs.Merging.{stopped, gave, row-none, row-unread, row-first}
use Rattle.meld.proofs.row.first_row.Goals as goal

pub returns-in_err-count : goal.returns-in_err-count
returns-in_err-count c = rw c.from_residual.ensures (row-none (omega (arith, c.in_err-count.ensures)))

pub returns-in_err-row : goal.returns-in_err-row
returns-in_err-row c =
    rw c.from_residual-in_err-row.ensures (row-unread c.read_row.ensures (stopped _ c.ok.ensures.value c.in_err-row.was).1)

pub returns : goal.returns
returns c = row-first c.read_row.ensures (gave _ c.ok.ensures.value c.in_ok-row.was) (omega (arith, c.in_ok-count.ensures)) c.of.ensures
    (rw (c.between.ensures.0, c.between.ensures.1) at c.of-2.ensures) refl refl refl
