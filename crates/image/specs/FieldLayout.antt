-- The fields of the image, with document 01's limits: "Sizes are below 2^63; perm, mode, links, owner, group, device and counts below
-- 2^32"; other numbers "below 2^64"; "names 1 to 255, targets to 4,095, values to 4,096".
use Rattle.std.specs.Prelude.{ℕ, refl}
use Rattle.std.proofs.Common.{arith}
use Rattle.wire.specs.declared.time.Time.{Time}
use Rattle.wire.specs.Codec.{Codec}
use Rattle.wire.specs.Combinators.{restated}
use Rattle.wire.specs.Number.{edge, below}
use Rattle.wire.specs.Text.{text}
use Rattle.wire.specs.Time.{time}
use Rattle.wire.specs.Order.{Order}
use Rattle.wire.specs.Orders.{by_bytes}
use Rattle.wire.specs.Maps.{Map}
use Rattle.wire.specs.Lists.{last_count, rising}
use Rattle.image.specs.Meaning.{Text, Entries, Attributes}
use Rattle.image.specs.Fits.{FitsMap, FitsTime}

-- an inode, a parent or an id: below 2^64
abbrev pub inode : Codec ℕ
inode = below edge refl

-- below 2^32
abbrev pub word : Codec ℕ
word = below last_count refl

-- below 2^63
abbrev pub size : Codec ℕ
size = below 9223372036854775807 refl

abbrev pub name : Codec Text
name = text 1 255 refl

abbrev pub target : Codec Text
target = text 0 4095 refl

abbrev pub value : Codec Text
value = text 0 4096 refl

-- a time, with its limits as Fits says them
pub time-fits : (t : Time) → FitsTime t → time.Fits t
unfolding time
time-fits t h = (h.seconds, omega (arith, h.nanos))

pub fits-time : (t : Time) → time.Fits t → FitsTime t
unfolding time
fits-time t h = record { seconds = h.0; nanos = omega (arith, h.1) }

abbrev pub moment : Codec Time
moment = restated FitsTime time time-fits fits-time

-- "Every list has its count first", "counts below 2^32", with its limits as Fits says them
abbrev pub listed : {K A : Type 0} (O : Order K) → Codec K → Codec A → Codec (Map O A)
listed O key value =
    restated (FitsMap key.Fits value.Fits) (rising O key value last_count refl)
    (λ m h. (omega (arith, h.count), h.each)) (λ m h. record { count = omega (arith, h.0); each = h.1 })

-- "entries (name, inode) rising"
abbrev pub entries : Codec Entries
entries = listed by_bytes name inode

-- "attributes (name, value) rising"
abbrev pub attributes : Codec Attributes
attributes = listed by_bytes name value
