-- The live directory delta of an inode, as it is read.
-- Assumes nothing.
use Rattle.std.specs.Prelude.{Result, Ok, None, Option, Some}
use mathlib.Core.Path.{◌≡◌, refl, sym, ◌∙◌}
use mathlib.Core.List.{List}
use Prim.Native.Nat.{ℕ}
use lib.ListN.{drop}
use Rattle.wire.specs.declared.fault.Fault.{Fault}
use Rattle.wire.specs.Parse.{got}
use Rattle.image.specs.Meaning.{Record, tombstone}
use Rattle.image.specs.RecordLayout.{layer_record}
use Rattle.image.specs.Places.{Holds}
use Rattle.deltas.specs.Deltas.{entry_meant, AttrListed, EntryListed, ReadsEntry}
use Rattle.deltas.specs.declared.delta.NodeDelta.TheVariants.{Directory, File, Symlink, Fifo, CharDevice, BlockDevice, Socket}
use Rattle.deltas.specs.declared.delta.EntryDelta.{EntryDelta}
use Rattle.deltas.specs.declared.delta.EntryDelta.TheVariants as E
use Rattle.overlay.specs.Directories.{bare_delta, directory_of, Lives, LivesAt}

-- ---- the live record, read

lives-as : (img : List ℕ) (e : EntryDelta) (mid q : ℕ) → AttrListed img e mid → EntryListed img e q → Lives img (directory_of e) (Some (entry_meant img e))
lives-as img (E.Node (Directory d)) mid q a l = record { becomes = λ D. refl; attributes = (mid, a); added = (d.removed.start, l.0); removed = (q, l.1) }
lives-as img (E.Node (File d)) mid q a l = record { is = entry_meant img (E.Node (File d)); same = refl; stays = λ D. refl }
lives-as img (E.Node (Symlink d)) mid q a l = record { is = entry_meant img (E.Node (Symlink d)); same = refl; stays = λ D. refl }
lives-as img (E.Node (Fifo d)) mid q a l = record { is = entry_meant img (E.Node (Fifo d)); same = refl; stays = λ D. refl }
lives-as img (E.Node (CharDevice d)) mid q a l = record { is = entry_meant img (E.Node (CharDevice d)); same = refl; stays = λ D. refl }
lives-as img (E.Node (BlockDevice d)) mid q a l = record { is = entry_meant img (E.Node (BlockDevice d)); same = refl; stays = λ D. refl }
lives-as img (E.Node (Socket d)) mid q a l = record { is = entry_meant img (E.Node (Socket d)); same = refl; stays = λ D. refl }
lives-as img E.Tombstone mid q a l = record { is = tombstone; same = refl; stays = λ D. refl }

-- with no record an empty directory delta
pub lives-bare : {img : List ℕ} → LivesAt img None (Some bare_delta)
lives-bare {img} = record { lives = go }
  where
    go : (o : Option Record) → Holds img layer_record.read None o → Lives img (Some bare_delta) o
    go None h = record { becomes = λ D. refl; attributes = (0, tt); added = (0, tt); removed = (0, tt) }
    go (Some a) h = absurd h

module _ {img : List ℕ} {at : ℕ} {o : Result (EntryDelta × ℕ) Fault} (r : ReadsEntry img at o) where
  -- a record was read, as the place holds one
  pub lives_at : {e : EntryDelta} {q : ℕ} → o ≡ Ok (e, q) → LivesAt img (Some at) (directory_of e)
  lives_at {e} {q} d = record { lives = go }
    where
      w : ReadsEntry img at (Ok (e, q))
      w = rw d at r

      go : (o : Option Record) → Holds img layer_record.read (Some at) o → Lives img (directory_of e) o
      go None h = absurd h
      go (Some a) h =
          let d : got (entry_meant img e) (drop q img) ≡ got a h.0 = sym w.reads.same ∙ h.1 in
          let z : entry_meant img e ≡ a = cc in
          rw (← z) (lives-as img e _ q w.attributes w.lists)
