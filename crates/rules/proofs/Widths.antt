-- P12 for every width: of the numbers below 2^64, those up to a limit are read and those above it are malformed.
use mathlib.Core.Path.{◌≡◌, refl}
use mathlib.Core.List.{List, ◌++◌}
use Prim.Native.Nat.{ℕ, ◌≤◌, ◌<◌}
use lib.Dec.{leb}
use borrow.Author.Tests.{le-leb, lt-leb}
use Rattle.wire.specs.declared.fault.Fault.TheVariants.{Malformed}
use Rattle.wire.specs.Parse.{fault, got, check, bind_inv, check_inv}
use Rattle.wire.specs.Number.{edge, number_bytes, groups-read, number_read, number-back}

-- a number is judged by its limit alone
judged : (most n : ℕ) (r : List ℕ) → n ≤ edge → number_read most (number_bytes n ++ r) ≡ check Malformed (leb n most) (got n r)
unfolding number_read
judged most n r h =
    let i = bind_inv (groups-read (number_bytes n ++ r) 9) (λ v r. check Malformed (leb v edge) (got v r)) (number-back edge refl n r h) in
    let j = check_inv Malformed (leb i.0 edge) (got i.0 i.1) i.3 in
    let d : got i.0 i.1 ≡ got n r = j.1 in
    rw i.2 (let v : i.0 ≡ n = cc in let q : i.1 ≡ r = cc in rw (v, q))

pub number-accepted : (most n : ℕ) (r : List ℕ) → n ≤ edge → n ≤ most → number_read most (number_bytes n ++ r) ≡ got n r
number-accepted most n r h l = rw (judged most n r h, le-leb n most l)

pub number-refused : (most n : ℕ) (r : List ℕ) → n ≤ edge → most < n → number_read most (number_bytes n ++ r) ≡ fault Malformed
number-refused most n r h l = rw (judged most n r h, lt-leb n most l)
