-- Worked examples of the formats, as entries of one table for each: bytes, and what they are read as.
-- Assumes nothing.
use mathlib.Core.Path.{◌≡◌, refl}
use mathlib.Core.List.{List, [], ◌∷◌}
use Prim.Native.Nat.{ℕ}
use lib.IntN.{pos, negsuc}
use Rattle.wire.specs.Parse.{Parsed, fault, got}
use Rattle.wire.specs.Number.{edge, groups, number_bytes, groups-read, number_read}
use Rattle.wire.specs.Text.{text-read}
use Rattle.wire.specs.Time.{time}
use Rattle.wire.specs.Lists.{Every}
use Rattle.wire.specs.declared.fault.Fault.TheVariants.{Ended, Malformed}
use Rattle.wire.specs.declared.time.Time.{Time}

-- "300 is hexadecimal AC 02"
three-hundred : number_bytes 300 ≡ 0xAC ∷ 0x02 ∷ []
unfolding number_bytes groups
three-hundred = refl

record Example (A : Type 0) : Type 0 where
  bytes : List ℕ
  answer : Parsed A

abbrev Right : {A : Type 0} → (List ℕ → Parsed A) → Example A → Type 0
Right read e = read e.bytes ≡ e.answer

numbers : List (Example ℕ)
numbers =
    record { bytes = 0xAC ∷ 0x02 ∷ 7 ∷ []; answer = got 300 (7 ∷ []) }
    -- P3: "number 80 00, bad"
    ∷ record { bytes = 0x80 ∷ 0x00 ∷ []; answer = fault Malformed }
    ∷ record { bytes = []; answer = fault Ended }
    ∷ record { bytes = 0x80 ∷ []; answer = fault Ended }
    ∷ record { bytes = 255 ∷ 255 ∷ 255 ∷ 255 ∷ 255 ∷ 255 ∷ 255 ∷ 255 ∷ 255 ∷ []; answer = fault Ended }
    ∷ record { bytes = 255 ∷ 255 ∷ 255 ∷ 255 ∷ 255 ∷ 255 ∷ 255 ∷ 255 ∷ 255 ∷ 1 ∷ []; answer = got edge [] }
    ∷ record { bytes = 255 ∷ 255 ∷ 255 ∷ 255 ∷ 255 ∷ 255 ∷ 255 ∷ 255 ∷ 255 ∷ 2 ∷ []; answer = fault Malformed }
    ∷ record { bytes = 255 ∷ 255 ∷ 255 ∷ 255 ∷ 255 ∷ 255 ∷ 255 ∷ 255 ∷ 255 ∷ 129 ∷ []; answer = fault Malformed }
    ∷ []

numbers-right : Every (Right (number_read edge)) numbers
unfolding numbers number_read groups-read
numbers-right = (refl, (refl, (refl, (refl, (refl, (refl, (refl, (refl, tt))))))))

-- names: 1 to 255 bytes; a length that is too large is judged before the bytes are missed
names : List (Example (List ℕ))
names =
    record { bytes = 2 ∷ 104 ∷ 105 ∷ 0 ∷ []; answer = got (104 ∷ 105 ∷ []) (0 ∷ []) }
    ∷ record { bytes = 2 ∷ 104 ∷ []; answer = fault Ended }
    ∷ record { bytes = 0 ∷ []; answer = fault Malformed }
    ∷ record { bytes = 0x80 ∷ 0x02 ∷ []; answer = fault Malformed }
    ∷ []

names-right : Every (Right (text-read 1 255)) names
unfolding names text-read number_read groups-read
names-right = (refl, (refl, (refl, (refl, tt))))

-- the second before 1970 and its last nanosecond; a nanosecond too many
times : List (Example Time)
times =
    record { bytes = 1 ∷ 0xFF ∷ 0x93 ∷ 0xEB ∷ 0xDC ∷ 0x03 ∷ []; answer = got (record { seconds = negsuc 0; nanos = 999999999 }) [] }
    ∷ record { bytes = 2 ∷ 0 ∷ 9 ∷ []; answer = got (record { seconds = pos 1; nanos = 0 }) (9 ∷ []) }
    ∷ record { bytes = 1 ∷ 0x80 ∷ 0x94 ∷ 0xEB ∷ 0xDC ∷ 0x03 ∷ []; answer = fault Malformed }
    ∷ record { bytes = 1 ∷ []; answer = fault Ended }
    ∷ []

times-right : Every (Right time.read) times
unfolding times time number_read groups-read
times-right = (refl, (refl, (refl, (refl, tt))))
