-- What a call that changes a store gives: its refusal, or a new store.
use Rattle.std.specs.Prelude.{[], Bool, cond, None, Some}
use Rattle.image.specs.Meaning.{Store, tombstone}
use Rattle.rules.specs.Initial.{Initial}
use Rattle.rules.specs.Answers.{Answer, refused, answer, unless}
use Rattle.rules.specs.Calls.{Call}
use Rattle.rules.specs.Changes.{on_directory, adding, removing, setting_parent, updated}
use Rattle.rules.specs.Normalise.{normal_batches, normal_live}
use Rattle.rules.specs.Queue.{set_live, set_batches, set_base, on_live, type_below, frozen, popped, noted, requested, fold_front}
use Rattle.rules.specs.Refusals.{refusal}

module _ (initial : Initial) where
  -- The new store, where the call isn't refused.
  -- "Insert replaces the live record. Tombstone replaces it too."
  unfoldable pub result : Call → Store → Store
  result (Call.insert i None) s = s
  result (Call.insert i (Some r)) s = on_live i (λ o. Some r) s
  result (Call.tombstone i) s = on_live i (λ o. Some tombstone) s
  result (Call.add i name inode t) s = on_live i (on_directory (adding name inode t)) s
  result (Call.remove i name t) s = on_live i (on_directory (removing name t)) s
  result (Call.set_parent i p) s = on_live i (on_directory (setting_parent p)) s
  result (Call.update i None) s = s
  result (Call.update i (Some new)) s = on_live i (updated new (type_below s i)) s
  result (Call.normalise p) s = set_batches (normal_batches [] s.base s.batches p) (set_live (normal_live [] s.base s.batches p s.live) s)
  result (Call.freeze limits t) s = frozen t s
  result Call.fold s = set_base (fold_front initial s.batches s.base) s
  result (Call.pop id) s = set_batches (popped s.batches) s
  result (Call.note n) s = noted n s
  result (Call.request r) s = requested r s

  -- what a call gives, whatever room there is
  unfoldable pub change : Call → Store → Answer Store
  change c s = unless (refusal c s) (result c s)

-- "5 stands for: the new image is over 65,536 bytes or over the lent target", and comes last.
abbrev pub if_room : (Store → Bool) → Answer Store → Answer Store
if_room room (refused n) = refused n
if_room room (answer s) = cond (room s) (answer s) (refused 5)
