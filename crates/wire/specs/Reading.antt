-- What an answer of the readers says of the image: a value with the place after it, or why there is none.
use Rattle.std.specs.Prelude.{◌≡◌, cond, List, [], ℕ, ◌+◌, ◌≤◌, ◌<◌, eqb, ltb, length, take, drop, None, Option, Some, Result, Ok, Err}
use Rattle.wire.specs.Parse.{Parsed, fault, got}
use Rattle.wire.specs.declared.fault.Fault.{Fault}
use Rattle.wire.specs.declared.fault.Fault.TheVariants.{Malformed}
use Rattle.wire.specs.declared.part.Part.{Part}

-- a part of the image; past the end there is nothing
abbrev pub part : List ℕ → ℕ → ℕ → List ℕ
part img start size = take size (drop start img)

-- the same, if there is one
abbrev pub part_if : List ℕ → Option Part → List ℕ
part_if img None = []
part_if img (Some p) = part img p.start p.length

-- a value with the bytes from the place after it on, or the fault
abbrev pub said : {A : Type 0} → List ℕ → Result (A × ℕ) Fault → Parsed A
said img (Ok r) = got r.0 (drop r.1 img)
said img (Err f) = fault f

-- the place after the value is in the image
abbrev pub next_in : {A : Type 0} → List ℕ → Result (A × ℕ) Fault → Type 0
next_in img (Ok r) = r.1 ≤ length img
next_in img (Err f) = Unit {0}

-- what was read, by what its value means
abbrev pub meant : {X A : Type 0} → (X → A) → Result (X × ℕ) Fault → Result (A × ℕ) Fault
meant m (Ok r) = Ok (m r.0, r.1)
meant m (Err f) = Err f

-- What the parser reads at a place: the value and the place after it, or the fault at which it stops.
pub record Reads {A : Type 0} (img : List ℕ) (p : List ℕ → Parsed A) (at : ℕ) (result : Result (A × ℕ) Fault) : Type 0 where
  pub same : p (drop at img) ≡ said img result
  pub within : next_in img result

-- the same, where the value is the bytes of a part
abbrev pub part_said : List ℕ → Result (Part × ℕ) Fault → Parsed (List ℕ)
part_said img (Ok r) = got (part img r.0.start r.0.length) (drop r.1 img)
part_said img (Err f) = fault f

-- the part is in the image, and the place after it is its end
abbrev pub part_in : List ℕ → Result (Part × ℕ) Fault → Type 0
part_in img (Ok r) = (r.0.start + r.0.length ≤ length img) × (r.1 ≡ r.0.start + r.0.length)
part_in img (Err f) = Unit {0}

-- What the parser reads at a place is a part of the image, which ends at the place after it.
pub record ReadsPart (img : List ℕ) (p : List ℕ → Parsed (List ℕ)) (at : ℕ) (result : Result (Part × ℕ) Fault) : Type 0 where
  pub same : p (drop at img) ≡ part_said img result
  pub within : part_in img result

-- ---- the answers that readers of numbers make

-- a complete number is judged
abbrev pub judged_number : ℕ → ℕ → ℕ → Result (ℕ × ℕ) Fault
judged_number value most next = cond (ltb most value) (Err Malformed) (Ok (value, next))

abbrev pub last_group : ℕ → ℕ → ℕ → ℕ → Result (ℕ × ℕ) Fault
last_group group value most next = cond (eqb group 0) (Err Malformed) (judged_number value most next)

-- where the tenth byte of a number stands whose second is at `at`, or the end of the bytes if that comes first
pub record Tenth (img : List ℕ) (at r : ℕ) : Type 0 where
  pub inside : r ≤ length img
  pub near : r ≤ at + 8
  pub last : r < at + 8 → length img ≤ r
