-- Document 01, "Refusing, operation by operation": the refusals of a change in order. 1 and 2, about the image, stand before all these,
-- and 5, about the new image, after them.
use Rattle.std.specs.Prelude.{List, [], ◌∷◌, Bool, true, false, ◌||◌, not, ℕ, ◌+◌, eqb, leb, ltb, length, None, Option, Some}
use Rattle.wire.specs.declared.time.Time.{Time}
use Rattle.image.specs.Meaning.{Record, Batch, Store, tombstone, delta}
use Rattle.rules.specs.Answers.{first_of}
use Rattle.rules.specs.Asks.{bad_name}
use Rattle.rules.specs.Calls.{Limits, Call}

-- "4 if nanoseconds are 1,000,000,000 or more"
abbrev pub bad_time : Time → Bool
bad_time t = leb 1000000000 t.nanos

-- "4 if the delta given breaks the layout, has bytes left over, or (insert) is a tombstone"
abbrev pub no_delta : Option Record → Bool
no_delta None = true
no_delta (Some tombstone) = true
no_delta (Some (delta d)) = false

abbrev pub is_none : {A : Type 0} → Option A → Bool
is_none None = true
is_none (Some a) = false

abbrev pub is_empty : {A : Type 0} → List A → Bool
is_empty [] = true
is_empty (a ∷ l) = false

abbrev pub sum_of : (Batch → ℕ) → List Batch → ℕ
sum_of f [] = 0
sum_of f (b ∷ bs) = f b + sum_of f bs

-- "6 if batches, their bytes or their operations in all have each reached or passed its own given limit in at least one of the three, or
-- there are 16 batches"
abbrev pub is_full : Limits → List Batch → Bool
is_full limits bs =
    (leb limits.batches (length bs) || leb limits.bytes (sum_of (λ b. b.bytes) bs))
    || (leb limits.operations (sum_of (λ b. b.operations) bs) || leb 16 (length bs))

-- "9 if the id isn't the front's"
abbrev pub other_id : ℕ → List Batch → Bool
other_id id [] = false
other_id id (b ∷ bs) = not (eqb id b.id)

-- "10 if a count would pass 2^32 − 1", "10 if next id is 2^64 − 1"
abbrev pub past_count : ℕ → Bool
past_count n = ltb 4294967295 n

abbrev pub last_id : ℕ
last_id = 18446744073709551615

abbrev pub refusal : Call → Store → Option ℕ
refusal (Call.insert i r) s = first_of ((4, no_delta r) ∷ [])
refusal (Call.tombstone i) s = None
refusal (Call.add i name inode t) s = first_of ((3, bad_name name) ∷ (4, bad_time t) ∷ [])
refusal (Call.remove i name t) s = first_of ((3, bad_name name) ∷ (4, bad_time t) ∷ [])
refusal (Call.set_parent i p) s = None
refusal (Call.update i new) s = first_of ((4, is_none new) ∷ [])
refusal (Call.normalise p) s = first_of ((11, ltb (length s.batches) p) ∷ [])
refusal (Call.freeze limits t) s = first_of ((4, bad_time t) ∷ (6, is_full limits s.batches) ∷ (7, is_empty s.live.rows) ∷ (10, eqb s.next last_id) ∷ [])
refusal Call.fold s = first_of ((8, is_empty s.batches) ∷ [])
refusal (Call.pop id) s = first_of ((8, is_empty s.batches) ∷ (9, other_id id s.batches) ∷ [])
refusal (Call.note n) s = first_of ((10, past_count (s.bytes + n) || past_count (s.operations + 1)) ∷ [])
refusal (Call.request r) s = first_of ((4, ltb 5 r) ∷ [])
