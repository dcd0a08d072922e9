-- What the programs print of a fault and of a time.
use Rattle.std.specs.Prelude.{ℕ, List, ◌++◌, codes, decimal}
use Rattle.std.specs.Fmt.{signed_decimal}
use Rattle.wire.specs.declared.fault.Fault.{Fault}
use Rattle.wire.specs.declared.fault.Fault.TheVariants.{Ended, Malformed}
use Rattle.wire.specs.declared.time.Time.{Time}

abbrev pub fault_text : Fault → List ℕ
fault_text Ended = codes "ended"
fault_text Malformed = codes "malformed"

-- the seconds in decimal with their sign, a point, the nanoseconds in decimal
abbrev pub time_text : Time → List ℕ
time_text t = signed_decimal t.seconds ++ codes "." ++ decimal t.nanos
