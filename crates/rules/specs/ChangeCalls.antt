-- The public calls that change a store, each as one definition over bytes: the image, the arguments as the code is given them, and the length
-- of the lent target. Document 01: "Always first: 1, image over 65,536 bytes; 2, image not by the layout"; then the call's own refusals in
-- order; "last 5: the new image is over 65,536 bytes or over the lent target."
use Rattle.std.specs.Prelude.{List, ◌++◌, ℕ, length, drop, None, Option, Some}
use Rattle.wire.specs.declared.time.Time.{Time}
use Rattle.wire.specs.Parse.{Parsed, fault, got}
use Rattle.wire.specs.Codec.{decode}
use Rattle.image.specs.Meaning.{Text, Fields, Record, Store}
use Rattle.image.specs.RecordLayout.{fields, layer_record}
use Rattle.image.specs.RoundTrip.{write_image}
use Rattle.rules.specs.Initial.{Initial}
use Rattle.rules.specs.Answers.{Answer, refused, answer}
use Rattle.rules.specs.Calls.{Call}
use Rattle.rules.specs.Queue.{snapshot}
use Rattle.rules.specs.Outcomes.{change, if_room}
use Rattle.rules.specs.Room.{has_room}
use Rattle.rules.specs.ReadCalls.{over_image, map_answer}

-- ---- what is given

abbrev pub if_read : {A : Type 0} → Parsed A → Option A
if_read (fault f) = None
if_read (got a r) = Some a

-- "Insert is given a record from its code on": none where it "breaks the layout, has bytes left over"
abbrev pub given_record : List ℕ → Option Record
given_record bytes = if_read (decode layer_record bytes)

-- "update a mask and its fields"
abbrev pub given_fields : List ℕ → Option Fields
given_fields bytes = if_read (decode fields bytes)

-- ---- what is answered

-- the image of the new store of the store that the image holds, if the target has room for it
unfoldable pub new_image : (Store → Answer Store) → List ℕ → ℕ → Answer (List ℕ)
new_image f img target = over_image (λ s. map_answer write_image (if_room (has_room target) (f s))) img

-- the target at exit: "On success the target's bytes past the new image stay." "A refusal gives its number, length 0; target and rows stay."
abbrev pub written : Answer (List ℕ) → List ℕ → List ℕ
written (refused n) old = old
written (answer new) old = new ++ drop (length new) old

-- the length answered
abbrev pub length_of : Answer (List ℕ) → ℕ
length_of (refused n) = 0
length_of (answer new) = length new

-- ---- the calls

module _ (initial : Initial) where
  -- what the rules give of a call
  abbrev pub by_rules : Call → List ℕ → ℕ → Answer (List ℕ)
  by_rules c = new_image (change initial c)

  -- "Insert replaces the live record"
  abbrev pub insert_new_node : List ℕ → ℕ → List ℕ → ℕ → Answer (List ℕ)
  insert_new_node img i delta = by_rules (Call.insert i (given_record delta)) img

  -- "Tombstone replaces it too"
  abbrev pub tombstone : List ℕ → ℕ → ℕ → Answer (List ℕ)
  tombstone img i = by_rules (Call.tombstone i) img

  -- "Add entry, remove entry and set parent act on the live directory delta"
  abbrev pub add_dir_entry : List ℕ → ℕ → Text → ℕ → Time → ℕ → Answer (List ℕ)
  add_dir_entry img i name inode now = by_rules (Call.add i name inode now) img

  abbrev pub remove_dir_entry : List ℕ → ℕ → Text → Time → ℕ → Answer (List ℕ)
  remove_dir_entry img i name now = by_rules (Call.remove i name now) img

  abbrev pub update_dir_parent : List ℕ → ℕ → ℕ → ℕ → Answer (List ℕ)
  update_dir_parent img i parent = by_rules (Call.set_parent i parent) img

  -- "Update merges into a live delta"
  abbrev pub update_attr_delta : List ℕ → ℕ → List ℕ → ℕ → Answer (List ℕ)
  update_attr_delta img i delta = by_rules (Call.update i (given_fields delta)) img

  -- "Normalise takes a layer's position (live = number of batches)."
  abbrev pub normalize_directory_deltas : List ℕ → ℕ → ℕ → Answer (List ℕ)
  normalize_directory_deltas img position = by_rules (Call.normalise position) img

  -- "Freeze moves live to the back as a batch"; it is given a limit on the number of batches, on their bytes and on their operations
  abbrev pub freeze_live : List ℕ → ℕ → ℕ → ℕ → Time → ℕ → Answer (List ℕ)
  freeze_live img depth bytes operations now = by_rules (Call.freeze (record { batches = depth; bytes = bytes; operations = operations }) now) img

  -- "Fold applies the front batch to the base."
  abbrev pub fold_entries : List ℕ → ℕ → Answer (List ℕ)
  fold_entries = by_rules Call.fold

  -- "Pop removes the front"
  abbrev pub pop_flushed_batch : List ℕ → ℕ → ℕ → Answer (List ℕ)
  pop_flushed_batch img id = by_rules (Call.pop id) img

  -- "Note adds one operation and given bytes to the staged counts"
  abbrev pub record_mutation : List ℕ → ℕ → ℕ → Answer (List ℕ)
  record_mutation img additional = by_rules (Call.note additional) img

  -- "request sets the reason"
  abbrev pub request_freeze : List ℕ → ℕ → ℕ → Answer (List ℕ)
  request_freeze img reason = by_rules (Call.request reason) img

  -- "Snapshot folds every layer, then drops non-directories with 0 links"; "snapshot: 1, 2, 5"
  abbrev pub snapshot_all : List ℕ → ℕ → Answer (List ℕ)
  snapshot_all = new_image (λ s. answer (snapshot initial s))
