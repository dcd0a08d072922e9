-- Reasons by their numbers, as they are read.
-- Assumes nothing.
use mathlib.Core.Path.{◌≡◌, refl}
use Rattle.std.specs.Prelude.{Result, Ok, Err}
use Rattle.std.specs.Result.{result_ok}
use Prim.Native.Nat.{ℕ, zero, suc, ◌≤◌}
use native.Mathlib.Omega.{arith}
use Rattle.wire.specs.declared.fault.Fault.{Fault}
use Rattle.wire.specs.declared.fault.Fault.TheVariants.{Malformed}
use Rattle.survey.specs.declared.reason.Reason.{Reason}
use Rattle.survey.specs.Reasons.{ReasonOf, request_number}

-- of the numbers up to 5 only 0 is no reason
pub reason-none : {n : ℕ} {r : Result Reason Fault} {f : Fault} → ReasonOf n r → r ≡ Err f → n ≤ 5 → (n ≡ 0) × (f ≡ Malformed)
reason-none {n = zero} h e k = let z = rw e at h in (refl, z.1)
reason-none {n = suc m} h e k = absurd (let z = rw e at h in let q = z.0 (omega arith) in omega (arith, q, k))

-- so a number up to 5 is that of a request: 0 is none
pub request_of : {n : ℕ} (r : Result Reason Fault) → ReasonOf n r → n ≤ 5 → request_number (result_ok r) ≡ n
request_of (Ok x) h k = h
request_of {n} (Err f) h k = let z = reason-none {n = n} {r = Err f} h refl k in rw (z.0) refl
