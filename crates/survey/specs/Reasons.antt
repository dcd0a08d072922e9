-- "reason 1 to 5", and "request 0 none or a reason 1 to 5".
use Rattle.std.specs.Prelude.{◌≡◌, ℕ, ◌≤◌, ◌<◌, None, Option, Some, Result, Ok, Err}
use Rattle.wire.specs.declared.fault.Fault.{Fault}
use Rattle.wire.specs.declared.fault.Fault.TheVariants.{Malformed}
use Rattle.survey.specs.declared.reason.Reason.{Reason}
use Rattle.survey.specs.declared.reason.Reason.TheVariants as R

abbrev pub reason_number : Reason → ℕ
reason_number R.Fsync = 1
reason_number R.Fsyncdir = 2
reason_number R.Quiesce = 3
reason_number R.Periodic = 4
reason_number R.Threshold = 5

-- 0 for none
abbrev pub request_number : Option Reason → ℕ
request_number None = 0
request_number (Some r) = reason_number r

-- the reason of a number, which is badly formed if it is none of 1 to 5
abbrev pub ReasonOf : ℕ → Result Reason Fault → Type 0
ReasonOf n (Ok r) = reason_number r ≡ n
ReasonOf n (Err f) = (1 ≤ n → 5 < n) × (f ≡ Malformed)
