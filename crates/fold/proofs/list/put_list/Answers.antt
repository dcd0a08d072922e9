use mathlib.Core.Path.{sym}
use Rattle.std.proofs.lemmas.Map.Views.{exact_unsigned_eq}
use native.Mathlib.Omega.{arith}
use Rattle.fold.proofs.Counts.{measured, count_small, count-wide}
use Rattle.fold.proofs.list.put_list.Goals as goal

pub returns-then-is_empty : goal.returns-then-is_empty
returns-then-is_empty c = measured (exact_unsigned_eq _ _ (sym c.if-is_empty.ensures)) c.measure_list.ensures

pub returns-then-rows-lt128 : goal.returns-then-rows-lt128
returns-then-rows-lt128 c =
    rw c.put_rows-rows.ensures.counts at
    (count_small c.put_rows-rows.result.count c.advance.ensures c.put_rows-rows.ensures.puts c.put_number-first.ensures (omega arith))

pub returns : goal.returns
returns c = rw c.put_rows-rows.ensures.counts at
    (count-wide c.put_rows-rows.result.count c.advance.ensures c.put_rows-rows.ensures.puts c.put_number-first.ensures c.put_rows-again.ensures.puts)
