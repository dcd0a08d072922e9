-- How long what was read is.
-- Assumes nothing.
use mathlib.Core.Path.{◌≡◌, ap}
use mathlib.Core.List.{List}
use Prim.Native.Nat.{ℕ, ◌+◌, ◌≤◌}
use native.Mathlib.Omega.{arith}
use lib.ListN.{length, length-append, length-drop}
use Rattle.std.specs.Prelude.{Ok}
use Rattle.wire.specs.Codec.{Codec, OneForm}
use Rattle.wire.specs.Reading.{Reads}

-- what is read inside the image ends as many bytes on as are written of it
pub reads-length : {A : Type 0} {img : List ℕ} (c : Codec A) → OneForm c → {n q : ℕ} {a : A} → n ≤ length img → Reads img c.read n (Ok (a, q))
    → q ≡ n + length (c.write a)
reads-length c one h r = omega (arith, simp (length-drop, length-append) at (ap length (one.forth _ _ _ r.same).0), r.within)
