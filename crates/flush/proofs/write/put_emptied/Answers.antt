use mathlib.Core.Path.{◌≡◌}
use mathlib.Core.List.{List}
use Prim.Native.Nat.{ℕ}
use native.Mathlib.Omega.{arith}
use Rattle.wire.specs.Put.{Put}
use Rattle.wire.proofs.Puts.{put-append}
use Rattle.std.specs.Prelude.{None}
use Rattle.writers.specs.Tails.{tail as tailCodec, tail_meant}
use Rattle.writers.specs.declared.tail.Tail.{Tail}
use Rattle.flush.proofs.write.put_emptied.Goals as goal

-- a tail that was written has nothing staged and no request
emptied : {l m : List ℕ} {at r n : ℕ} (t : Tail) → Put l at (tailCodec.write (tail_meant t)) r m → t.next_id ≡ n → t.bytes ≡ 0 → t.operations ≡ 0
    → t.request ≡ None → Put l at (tailCodec.write (n, (0, (0, 0)))) r m
emptied t p next bytes operations request = rw (next, bytes, operations, request) at p

pub returns : goal.returns
returns c =
    let u = c.unstaged.ensures in
    put-append c.put_number-live.ensures
    (put-append c.put_number-end.ensures (emptied _ c.put_tail.ensures (omega (arith, u.0)) (omega (arith, u.1)) (omega (arith, u.2)) u.3))
