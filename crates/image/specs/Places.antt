-- Where the fields of an image stand: what the readers that pass over a construct promise.
use Rattle.std.specs.Prelude.{◌≡◌, ◌≤◌, Result, Ok, Err, Some, None, List, [], ◌∷◌, ℕ, zero, suc, ◌-◌, length, drop, Option}
use Rattle.std.specs.Prelude.{Option}
use Rattle.wire.specs.declared.fault.Fault.{Fault}
use Rattle.wire.specs.declared.part.Part.{Part}
use Rattle.wire.specs.Parse.{Parsed, fault, got, bind}
use Rattle.wire.specs.Codec.{Codec}
use Rattle.wire.specs.Combinators.{opt-read}
use Rattle.wire.specs.Number.{number_read}
use Rattle.wire.specs.Order.{Order}
use Rattle.wire.specs.Rows.{choose}
use Rattle.wire.specs.Lists.{chain_read, row, onto, last_count}
use Rattle.wire.specs.Reading.{part}

-- that something was read, whatever it was
abbrev pub passed : {A : Type 0} → Parsed A → Parsed (Unit {0})
passed (fault f) = fault f
passed (got a r) = got tt r

-- the bytes from the place after it on, or the fault
abbrev pub left_at : List ℕ → Result ℕ Fault → Parsed (Unit {0})
left_at img (Ok n) = got tt (drop n img)
left_at img (Err f) = fault f

-- the place after it is in the image
abbrev pub ends_in : List ℕ → Result ℕ Fault → Type 0
ends_in img (Ok n) = n ≤ length img
ends_in img (Err f) = Unit {0}

-- What the parser reads at a place ends at the place after it, or stops with the fault.
pub record Ends {A : Type 0} (img : List ℕ) (p : List ℕ → Parsed A) (at : ℕ) (result : Result ℕ Fault) : Type 0 where
  pub same : passed (p (drop at img)) ≡ left_at img result
  pub within : ends_in img result

-- "0 or 1 and" what the parser reads
abbrev pub maybe_read : {A : Type 0} → (List ℕ → Parsed A) → List ℕ → Parsed (Option A)
maybe_read p s = bind (number_read 1 s) (λ bit r. opt-read p bit r)

-- n rows of a rising list, after the key `prev`
abbrev pub rows_from : {K A : Type 0} → Order K → Codec K → Codec A → ℕ → Option K → List ℕ → Parsed (List (K × A))
rows_from O key value = chain_read (row O key value) (onto O key value)

-- the last key of rows that come after the key `prev`
abbrev pub last_key : {K A : Type 0} → Option K → List (K × A) → Option K
last_key prev [] = prev
last_key prev (e ∷ l) = last_key (Some e.0) l

abbrev pub last_of : {K A : Type 0} → Option K → Parsed (List (K × A)) → Parsed (Option K)
last_of prev (fault f) = fault f
last_of prev (got l r) = got (last_key prev l) r

-- what follows from what was read, if it was
abbrev pub if_read : {A B : Type 0} → Parsed A → (A → List ℕ → Option B) → Option B
if_read (fault f) g = None
if_read (got a r) g = g a r

-- the place of what stands under the key k, in the n rows at the front of the bytes s, which are the end of an image of `size` bytes
unfoldable pub place_under : {K A : Type 0} → Order K → Codec K → Codec A → ℕ → K → ℕ → List ℕ → Option ℕ
place_under O key value size k zero s = None
place_under O key value size k (suc n) s =
    if_read (key.read s) (λ j r.
    choose (O.cmp k j) (Some (size - length r)) (if_read (value.read r) (λ v q. place_under O key value size k n q)))

-- the same in the whole list at a place, its count first
abbrev pub place_in : {K A : Type 0} → Order K → Codec K → Codec A → List ℕ → K → ℕ → Option ℕ
place_in O key value img k n = if_read (number_read last_count (drop n img)) (λ c r. place_under O key value (length img) k c r)

-- a place holds a value: it is read there; no place, no value
abbrev pub Holds : {A : Type 0} → List ℕ → (List ℕ → Parsed A) → Option ℕ → Option A → Type 0
Holds img p None None = Unit {0}
Holds img p None (Some a) = ⊥
Holds img p (Some n) None = ⊥
Holds img p (Some n) (Some a) = (r : List ℕ) × (p (drop n img) ≡ got a r)

-- the name before, if there is one
abbrev pub name_before : List ℕ → Option Part → Option (List ℕ)
name_before img None = None
name_before img (Some p) = Some (part img p.start p.length)
