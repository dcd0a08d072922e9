use mathlib.Core.Path.{ap}
use mathlib.Core.List.{List}
use Prim.Native.Nat.{ℕ}
use lib.ListN.{get_or}
use Rattle.attrs.proofs.Rows.{row_at}
use Rattle.attrs.proofs.attr.initial.Goals as goal

pub returns : goal.returns
returns c =
    rw c.number.ensures.0 (ap (λ (r : List ℕ). get_or r 0 0) (row_at c.args.file_type), ap (λ (r : List ℕ). get_or r 1 0) (row_at c.args.file_type))
