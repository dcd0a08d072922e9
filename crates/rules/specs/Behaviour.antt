-- Demand 3 on bytes, for any behaviour: "From an orderly image, after any list of calls (refused ones included, accepted ones within
-- document 01's conditions), every read answers as one plain table of inodes to which the accepted changes were applied directly; and each
-- call has the result or refusal that the rules give."
use Rattle.std.specs.Prelude.{◌≡◌, List, [], ◌∷◌, ℕ, ◌≤◌, length}
use Rattle.wire.specs.declared.time.Time.{Time}
use Rattle.wire.specs.Parse.{Parsed, fault, got}
use Rattle.wire.specs.Codec.{Bytes}
use Rattle.image.specs.Meaning.{Text, Store}
use Rattle.image.specs.Fits.{FitsInode}
use Rattle.image.specs.RoundTrip.{read_image}
use Rattle.rules.specs.Initial.{Initial}
use Rattle.rules.specs.Answers.{Answer, refused, answer, is_refused}
use Rattle.rules.specs.Asks.{Ask, Reply}
use Rattle.rules.specs.Calls.{Call}
use Rattle.rules.specs.Arguments.{FitsSeconds}
use Rattle.rules.specs.Table.{Told, table_of, tell_all, ask_table}
use Rattle.rules.specs.Orderly.{Orderly, Condition}
use Rattle.rules.specs.ReadCalls.{asked}
use Rattle.rules.specs.ChangeCalls as C

-- ---- the calls as the code is given them

-- numbers, times, and slices of bytes
pub data CodeCall : Type 0 where
  insert_new_node : ℕ → List ℕ → CodeCall
  tombstone : ℕ → CodeCall
  add_dir_entry : ℕ → Text → ℕ → Time → CodeCall
  remove_dir_entry : ℕ → Text → Time → CodeCall
  update_dir_parent : ℕ → ℕ → CodeCall
  update_attr_delta : ℕ → List ℕ → CodeCall
  normalize_directory_deltas : ℕ → CodeCall
  freeze_live : ℕ → ℕ → ℕ → Time → CodeCall
  fold_entries : CodeCall
  pop_flushed_batch : ℕ → CodeCall
  record_mutation : ℕ → CodeCall
  request_freeze : ℕ → CodeCall

-- which call that is, with its arguments' meanings
abbrev pub meant : CodeCall → Call
meant (CodeCall.insert_new_node i delta) = Call.insert i (C.given_record delta)
meant (CodeCall.tombstone i) = Call.tombstone i
meant (CodeCall.add_dir_entry i name inode now) = Call.add i name inode now
meant (CodeCall.remove_dir_entry i name now) = Call.remove i name now
meant (CodeCall.update_dir_parent i parent) = Call.set_parent i parent
meant (CodeCall.update_attr_delta i delta) = Call.update i (C.given_fields delta)
meant (CodeCall.normalize_directory_deltas position) = Call.normalise position
meant (CodeCall.freeze_live depth bytes operations now) = Call.freeze (record { batches = depth; bytes = bytes; operations = operations }) now
meant CodeCall.fold_entries = Call.fold
meant (CodeCall.pop_flushed_batch id) = Call.pop id
meant (CodeCall.record_mutation additional) = Call.note additional
meant (CodeCall.request_freeze reason) = Call.request reason

-- What the arguments' types hold: inodes of 64 bits, slices of bytes, seconds of signed 64 bits. No more of it is used than this.
abbrev pub Typed : CodeCall → Type 0
Typed (CodeCall.insert_new_node i delta) = FitsInode i
Typed (CodeCall.tombstone i) = FitsInode i
Typed (CodeCall.add_dir_entry i name inode now) = FitsInode i × Bytes name × FitsInode inode × FitsSeconds now
Typed (CodeCall.remove_dir_entry i name now) = FitsInode i × Bytes name × FitsSeconds now
Typed (CodeCall.update_dir_parent i parent) = FitsInode i × FitsInode parent
Typed (CodeCall.update_attr_delta i delta) = FitsInode i
Typed (CodeCall.normalize_directory_deltas position) = Unit {0}
Typed (CodeCall.freeze_live depth bytes operations now) = FitsSeconds now
Typed CodeCall.fold_entries = Unit {0}
Typed (CodeCall.pop_flushed_batch id) = Unit {0}
Typed (CodeCall.record_mutation additional) = Unit {0}
Typed (CodeCall.request_freeze reason) = Unit {0}

-- a call with a target of so many bytes
pub record Called : Type 0 where
  pub call : CodeCall
  pub target : ℕ
  pub typed : Typed call

-- ---- what each call and read answers, on bytes

-- A call is given the image and the length of the target, and answers the bytes of the new image or a refusal. A read answers texts and rows
-- by their bytes: "neither by place in the image".
pub record Behaviour : Type 0 where
  pub change : CodeCall → List ℕ → ℕ → Answer (List ℕ)
  pub read : (q : Ask) → List ℕ → Answer (Reply q)

-- "a refusal: target and rows stay", so the image so far is what it was
abbrev pub image_after : Answer (List ℕ) → List ℕ → List ℕ
image_after (refused n) img = img
image_after (answer new) img = new

abbrev pub WhereAccepted : {A : Type 0} → Answer A → Type 0 → Type 0
WhereAccepted (refused n) P = Unit {0}
WhereAccepted (answer a) P = P

-- of the store that an image holds; nothing, if it holds none
abbrev pub OfStore : (Store → Type 0) → Parsed Store → Type 0
OfStore P (fault f) = Unit {0}
OfStore P (got s r) = P s

-- "an orderly image", and the store that it holds
pub record OrderlyImage (img : List ℕ) (s : Store) : Type 0 where
  pub short : length img ≤ 65536
  pub holds : read_image img ≡ got s []
  pub orderly : Orderly s

module _ (B : Behaviour) where
  abbrev pub answered : Called → List ℕ → Answer (List ℕ)
  answered c img = B.change c.call img c.target

  -- the image after a list of calls, each made on the image so far
  unfoldable pub image_after_all : List Called → List ℕ → List ℕ
  image_after_all [] img = img
  image_after_all (c ∷ cs) img = image_after_all cs (image_after (answered c img) img)

  -- "it is fed the calls alone: which call, its arguments other than image and target, and whether it was refused"
  unfoldable pub told_of : List Called → List ℕ → List Told
  told_of [] img = []
  told_of (c ∷ cs) img = record { call = meant c.call; refused = is_refused (answered c img) } ∷ told_of cs (image_after (answered c img) img)

  module _ (initial : Initial) where
    -- each accepted call is within its condition
    abbrev pub ConditionsOf : List Called → List ℕ → Type 0
    ConditionsOf [] img = Unit {0}
    ConditionsOf (c ∷ cs) img =
        WhereAccepted (answered c img) (OfStore (Condition initial (meant c.call)) (read_image img))
        × ConditionsOf cs (image_after (answered c img) img)

    -- After a list of calls on the image of a store s:
    pub record Agrees (s : Store) (calls : List Called) (img : List ℕ) : Type 0 where
      -- whichever call comes next has the result or refusal that the rules give;
      pub results : (c : Called) → answered c (image_after_all calls img) ≡ C.by_rules initial (meant c.call) (image_after_all calls img) c.target
      -- every read answers as the table that started as the folded store and was told the calls.
      pub reads : (q : Ask) → B.read q (image_after_all calls img) ≡ ask_table initial q (tell_all initial (told_of calls img) (table_of initial s))

    -- DEMAND 3 of a behaviour
    abbrev pub Meets-3 : Type 0
    Meets-3 = (img : List ℕ) (s : Store) → OrderlyImage img s → (calls : List Called) → ConditionsOf calls img → Agrees s calls img

-- ---- our own: the definitions that the code's contracts cite

module _ (initial : Initial) where
  abbrev pub changed : CodeCall → List ℕ → ℕ → Answer (List ℕ)
  changed (CodeCall.insert_new_node i delta) img = C.insert_new_node initial img i delta
  changed (CodeCall.tombstone i) img = C.tombstone initial img i
  changed (CodeCall.add_dir_entry i name inode now) img = C.add_dir_entry initial img i name inode now
  changed (CodeCall.remove_dir_entry i name now) img = C.remove_dir_entry initial img i name now
  changed (CodeCall.update_dir_parent i parent) img = C.update_dir_parent initial img i parent
  changed (CodeCall.update_attr_delta i delta) img = C.update_attr_delta initial img i delta
  changed (CodeCall.normalize_directory_deltas position) img = C.normalize_directory_deltas initial img position
  changed (CodeCall.freeze_live depth bytes operations now) img = C.freeze_live initial img depth bytes operations now
  changed CodeCall.fold_entries img = C.fold_entries initial img
  changed (CodeCall.pop_flushed_batch id) img = C.pop_flushed_batch initial img id
  changed (CodeCall.record_mutation additional) img = C.record_mutation initial img additional
  changed (CodeCall.request_freeze reason) img = C.request_freeze initial img reason

  abbrev pub ours : Behaviour
  ours = record { change = changed; read = asked initial }
