-- Where the rows of a list stand, and where one of them does. Document 01: "Every list has its count first".
use Rattle.std.specs.Prelude.{◌≡◌, List, ℕ, ◌≤◌, length, drop, Result, Ok, Err}
use Rattle.wire.specs.Parse.{fault, got}
use Rattle.wire.specs.Number.{number_read}
use Rattle.wire.specs.declared.fault.Fault.{Fault}
use Rattle.wire.specs.Reading.{Reads, ReadsPart}
use Rattle.wire.specs.declared.part.Part.{Part}
use Rattle.image.specs.FieldLayout.{name as nameText}
use Rattle.image.specs.declared.name.Under.{Under}
use Rattle.image.specs.declared.name.RowRead.{RowRead}
use Rattle.image.specs.Under.{under}
use Rattle.image.specs.Places.{Ends}
use Rattle.image.specs.declared.rows.Rows.{Rows}

-- the count, and the place after it
abbrev pub counted : Result Rows Fault → Result (ℕ × ℕ) Fault
counted (Ok r) = Ok (r.count, r.first)
counted (Err f) = Err f

-- the rows stand after their count, which is at most this one
abbrev pub ReadsRows : List ℕ → ℕ → ℕ → Result Rows Fault → Type 0
ReadsRows img most at r = Reads img (number_read most) at (counted r)

-- the count that is read at a place, at most this one, and the place after it; no rows, if none is read
pub record RowsAt (img : List ℕ) (most at : ℕ) (r : Rows) : Type 0 where
  pub counted : (n : ℕ) (s : List ℕ) → number_read most (drop at img) ≡ got n s → (r.count ≡ n) × (drop r.first img ≡ s)
  pub uncounted : (f : Fault) → number_read most (drop at img) ≡ fault f → (r.count ≡ 0) × (r.first ≡ 0)
  pub within : r.first ≤ length img
  pub few : r.count ≤ most

-- what stands under a name is passed, or stops
abbrev pub RowAfter : List ℕ → Under → Result RowRead Fault → Result (Part × ℕ) Fault → Type 0
RowAfter img u (Ok r) o = (o ≡ Ok (r.name, r.under)) × Ends img (under u).read r.under (Ok r.next)
RowAfter img u (Err f) (Ok o) = Ends img (under u).read o.1 (Err f)
RowAfter img u (Err f) (Err g) = f ≡ g

-- a row of a list by name: the name, which is a part of the image, and what stands under it
pub record ReadsRow (img : List ℕ) (u : Under) (at : ℕ) (r : Result RowRead Fault) : Type 0 where
  pub name : Result (Part × ℕ) Fault
  pub named : ReadsPart img nameText.read at name
  pub after : RowAfter img u r name
