-- The calls that change a store, with "its arguments other than image and target".
use Rattle.std.specs.Prelude.{ℕ, Option}
use Rattle.wire.specs.declared.time.Time.{Time}
use Rattle.image.specs.Meaning.{Text, Fields, Record}

-- what freeze is given: a limit on the number of batches, on their bytes and on their operations in all
pub record Limits : Type 0 where
  pub batches : ℕ
  pub bytes : ℕ
  pub operations : ℕ

-- "Insert is given a record from its code on, update a mask and its fields": none is an argument that "breaks the layout, has bytes left
-- over". Snapshot "is outside demand 3", and no call here.
pub data Call : Type 0 where
  insert : ℕ → Option Record → Call
  tombstone : ℕ → Call
  -- a directory, a name, the inode that it shall lead to, the time
  add : ℕ → Text → ℕ → Time → Call
  remove : ℕ → Text → Time → Call
  set_parent : ℕ → ℕ → Call
  update : ℕ → Option Fields → Call
  normalise : ℕ → Call
  freeze : Limits → Time → Call
  fold : Call
  pop : ℕ → Call
  note : ℕ → Call
  request : ℕ → Call
