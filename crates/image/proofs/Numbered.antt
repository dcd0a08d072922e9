-- Kinds by their numbers, as they are read.
-- Assumes nothing.
use mathlib.Core.Path.{◌≡◌}
use lib.ListN.{length}
use Rattle.std.specs.Prelude.{Result, Err, Option}
use Prim.Native.Nat.{ℕ, ◌≤◌}
use native.Mathlib.Omega.{arith}
use Rattle.wire.specs.declared.fault.Fault.{Fault}
use Rattle.wire.specs.Number.{number_small}
use Rattle.image.specs.Meaning.{Kind, kind_number}
use Rattle.image.specs.KindLayout.{kind, kind-small, code, code_number, code-small}
use Rattle.image.specs.declared.kind.FileType.{FileType}
use Rattle.image.specs.FileTypes.{KindOf}

-- a number of at most 6 has one
pub kind-known : {n : ℕ} {r : Result FileType Fault} {f : Fault} {X : Type 0} → KindOf n r → r ≡ Err f → n ≤ 6 → X
kind-known h e k = absurd (let z = rw e at h in omega (arith, z.0, k))

-- a kind is one byte, and so is a code
pub kind-length : (k : Kind) → length (kind.write k) ≡ 1
unfolding kind
kind-length k = rw (number_small (kind_number k) (omega (arith, kind-small k)))

pub code-length : (c : Option Kind) → length (code.write c) ≡ 1
unfolding code
code-length c = rw (number_small (code_number c) (omega (arith, code-small c)))
