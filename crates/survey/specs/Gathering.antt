-- What the pass over an image gathers of one inode: the place of its node, and of its record in each batch, front first, and in live.
use Rattle.std.specs.Prelude.{◌≡◌, refl, List, [], ◌∷◌, ◌++◌, ℕ, zero, suc, ◌+◌, ◌≤◌, length, take, drop, None, Option, Some}
use Rattle.std.specs.Prelude.{Result, Ok, Err}
use Rattle.std.specs.Prelude.{Option}
use Rattle.wire.specs.declared.fault.Fault.{Fault}
use Rattle.wire.specs.Parse.{Parsed, fault, got}
use Rattle.wire.specs.Codec.{Codec}
use Rattle.wire.specs.declared.time.Time.{Time}
use Rattle.wire.specs.Combinators.{◌then◌}
use Rattle.wire.specs.Number.{number_read, between}
use Rattle.wire.specs.Orders.{by_number}
use Rattle.wire.specs.Lists.{rows, last_count}
use Rattle.image.specs.FieldLayout.{inode, word, moment}
use Rattle.image.specs.RecordLayout.{layer_record, records}
use Rattle.image.specs.StoreLayout.{BatchRest, batch_rest}
use Rattle.image.specs.Places.{Ends, if_read, place_under, rows_from, last_of}
use Rattle.survey.specs.declared.batch.InodeLayerStack.{InodeLayerStack}
use Rattle.survey.specs.declared.batch.Batches.{Batches}

abbrev pub list_if : Option ℕ → List ℕ
list_if None = []
list_if (Some p) = p ∷ []

-- the records of a stack, the lowest first
abbrev pub deltas_of : InodeLayerStack → List ℕ
deltas_of s = take s.count s.deltas

-- "Batch: id, bytes, operations, reason 1 to 5, commit time, records": its head, and the rest of that after the id
abbrev pub head_rest : Codec (ℕ × (ℕ × (ℕ × Time)))
head_rest = word then word then between 1 5 refl then moment

abbrev pub batch_head : Codec (ℕ × (ℕ × (ℕ × (ℕ × Time))))
batch_head = inode then head_rest

-- the place of an inode's record in the list of records at the front of s
abbrev pub record_place : ℕ → ℕ → List ℕ → Option ℕ
record_place size sought s = if_read (number_read last_count s) (λ c r. place_under by_number inode layer_record size sought c r)

abbrev pub or_none : {A B : Type 0} → Option A → (A → List B) → List B
or_none None g = []
or_none (Some a) g = g a

abbrev pub rest_of : {A : Type 0} → Parsed A → Option (List ℕ)
rest_of (fault f) = None
rest_of (got a r) = Some r

-- the places of an inode's record in each of n batches
unfoldable pub batch_places : ℕ → ℕ → ℕ → List ℕ → List ℕ
batch_places size sought zero s = []
batch_places size sought (suc n) s =
    or_none (rest_of (batch_head.read s)) (λ r. list_if (record_place size sought r) ++ or_none (rest_of (records.read r)) (λ q. batch_places size sought n q))

-- no record
pub record Bare (base : Option ℕ) (new : InodeLayerStack) : Type 0 where
  pub few : new.count ≡ 0
  pub wide : length new.deltas ≡ 17
  pub base_kept : new.base ≡ base

-- a place more, if it is one
pub record Pushed (old : InodeLayerStack) (place : Option ℕ) (new : InodeLayerStack) : Type 0 where
  pub places : deltas_of new ≡ deltas_of old ++ list_if place
  pub few : new.count ≤ old.count + 1
  pub wide : length new.deltas ≡ 17
  pub base : new.base ≡ old.base

-- the batches as rows by id
abbrev pub queue_rows : Codec (List (ℕ × BatchRest))
queue_rows = rows by_number inode batch_rest 16 refl

abbrev pub as_option : {A : Type 0} → Parsed A → Option (A × List ℕ)
as_option (fault f) = None
as_option (got a r) = Some (a, r)

-- where the batches end
abbrev pub queue_end : Result (Batches × ℕ) Fault → Result ℕ Fault
queue_end (Ok r) = Ok r.1
queue_end (Err f) = Err f

-- what was gathered of n batches, from `first` on, which end at `end`: the last id, and the places over the node found in the base
pub record Gathered (img : List ℕ) (sought first n : ℕ) (base : Option ℕ) (b : Batches) (end : ℕ) : Type 0 where
  pub last : last_of None (rows_from by_number inode batch_rest n None (drop first img)) ≡ got b.last (drop end img)
  pub places : deltas_of b.stack ≡ batch_places (length img) sought n (drop first img)
  pub base_kept : b.stack.base ≡ base
  pub few : b.stack.count ≤ n
  pub wide : length b.stack.deltas ≡ 17

abbrev pub gathered_rows : List ℕ → ℕ → ℕ → ℕ → Option ℕ → Result (Batches × ℕ) Fault → Type 0
gathered_rows img sought first n base (Ok r) = Gathered img sought first n base r.0 r.1
gathered_rows img sought first n base (Err f) = Unit {0}

-- n batches were passed, from `first` on
pub record Gathers (img : List ℕ) (sought first n : ℕ) (base : Option ℕ) (r : Result (Batches × ℕ) Fault) : Type 0 where
  pub ends : Ends img (rows_from by_number inode batch_rest n None) first (queue_end r)
  pub gathered : gathered_rows img sought first n base r

-- the places in the whole list of batches at a place
abbrev pub queue_places : List ℕ → ℕ → ℕ → List ℕ
queue_places img sought n = or_none (as_option (number_read 16 (drop n img))) (λ p. batch_places (length img) sought p.0 p.1)

-- what was gathered of the whole list
pub record GatheredQueue (img : List ℕ) (sought at : ℕ) (base : Option ℕ) (b : Batches) (end : ℕ) : Type 0 where
  pub last : last_of None (queue_rows.read (drop at img)) ≡ got b.last (drop end img)
  pub places : deltas_of b.stack ≡ queue_places img sought at
  pub base_kept : b.stack.base ≡ base
  pub few : b.stack.count ≤ 16
  pub wide : length b.stack.deltas ≡ 17

abbrev pub gathered_queue : List ℕ → ℕ → ℕ → Option ℕ → Result (Batches × ℕ) Fault → Type 0
gathered_queue img sought at base (Ok r) = GatheredQueue img sought at base r.0 r.1
gathered_queue img sought at base (Err f) = Unit {0}

-- the whole list was passed
pub record GathersQueue (img : List ℕ) (sought at : ℕ) (base : Option ℕ) (r : Result (Batches × ℕ) Fault) : Type 0 where
  pub ends : Ends img queue_rows.read at (queue_end r)
  pub gathered : gathered_queue img sought at base r
