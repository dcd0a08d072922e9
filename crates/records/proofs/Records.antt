-- What is written of a record or node whose lists stand in the image is what the layout writes.
-- Assumes nothing.
use Rattle.wire.specs.declared.part.Part.{Part}
use Rattle.std.specs.Prelude.{None, Option, Some}
use mathlib.Core.Path.{◌≡◌, refl, sym}
use mathlib.Core.List.{List, ◌++◌, append_assoc, append-nil}
use Prim.Native.Nat.{ℕ, suc}
use Rattle.wire.specs.Combinators.{opt_write}
use Rattle.wire.specs.Number.{number_bytes}
use Rattle.image.specs.declared.name.Under.TheVariants as U
use Rattle.image.specs.Meaning.{kind_number, changed_kind, kind_of}
use Rattle.image.specs.FieldLayout.{attributes}
use Rattle.image.specs.KindLayout.{kind, code}
use Rattle.image.specs.NodeLayout.{body_part, body_part_of, node}
use Rattle.image.specs.RecordLayout.{changes, change_part, change_part_of, layer_record}
use Rattle.nodes.specs.Listed.{list_at, list_of, ListedIf, Listed}
use Rattle.deltas.specs.Deltas.{attr_of, change_meant, entry_meant, ChangeListed, AttrListed, EntryListed}
use Rattle.nodes.specs.Nodes.{body_meant, node_meant, EntriesListed}
use Rattle.writers.specs.Writes.{attr_bytes, meta_bytes, fields-bytes}
use Rattle.writers.proofs.Written.{meta-bytes}
use Rattle.records.specs.Records.{list_bytes, change_bytes, entry_bytes, body_bytes, node_bytes}
use Rattle.deltas.specs.declared.delta.NodeDelta.{NodeDelta}
use Rattle.deltas.specs.declared.delta.NodeDelta.TheVariants.{Directory, File, Symlink, Fifo, CharDevice, BlockDevice, Socket}
use Rattle.deltas.specs.declared.delta.EntryDelta.{EntryDelta}
use Rattle.deltas.specs.declared.delta.EntryDelta.TheVariants as E
use Rattle.nodes.specs.declared.node.NodeKind.{NodeKind}
use Rattle.nodes.specs.declared.node.NodeKind.TheVariants as K
use Rattle.nodes.specs.declared.node.Node.{Node}
use Rattle.writers.proofs.Writing.{list_written}

module _ (img : List ℕ) (end : ℕ) where
  pub list-bytes : (o : Option Part) → ListedIf img U.Change o end → list_bytes img o ≡ opt_write changes (list_of img U.Change o)
  list-bytes (Some p) h = list_written U.Change h
  list-bytes None h = refl

  change-bytes : (n : NodeDelta) → ChangeListed img n end → change_bytes img n ≡ (change_part (changed_kind (change_meant img n))).write
      (change_part_of (change_meant img n))
  change-bytes (Directory d) h = rw (list_written U.Inode h.0, list_written U.Nothing h.1, append_assoc) refl
  change-bytes (File d) h = refl
  change-bytes (Symlink d) h = refl
  change-bytes (Fifo d) h = refl
  change-bytes (CharDevice d) h = refl
  change-bytes (BlockDevice d) h = refl
  change-bytes (Socket d) h = refl

  body_bytes_lem : (k : NodeKind) → EntriesListed img k end → body_bytes img k ≡ (body_part (kind_of (body_meant img k))).write
      (body_part_of (body_meant img k))
  body_bytes_lem (K.Directory parent es) h = rw (list_written U.Inode h)
  body_bytes_lem (K.File n) h = refl
  body_bytes_lem (K.Symlink t) h = refl
  body_bytes_lem K.Fifo h = refl
  body_bytes_lem (K.CharDevice d) h = refl
  body_bytes_lem (K.BlockDevice d) h = refl
  body_bytes_lem K.Socket h = refl

regroup : (a b c d : List ℕ) → a ++ b ++ c ++ d ≡ a ++ ((b ++ c) ++ d)
regroup a b c d = simp append_assoc

module _ (img : List ℕ) (end : ℕ) where
  pub entry-written : (e : EntryDelta) (mid : ℕ) → AttrListed img e mid → EntryListed img e end → entry_bytes img e ≡ layer_record.write (entry_meant img e)
  unfolding layer_record code
  entry-written (E.Node n) mid a h = rw (list-bytes img mid (attr_of n).xattrs a, change-bytes img end n h, fields-bytes img (attr_of n))
      (regroup (number_bytes (suc (kind_number (changed_kind (change_meant img n))))) (attr_bytes (attr_of n))
      (opt_write changes (list_of img U.Change (attr_of n).xattrs))
      ((change_part (changed_kind (change_meant img n))).write (change_part_of (change_meant img n))))
  entry-written E.Tombstone mid a h = sym (append-nil (number_bytes 0))

  pub node-written : (n : Node) (mid : ℕ) → Listed img U.Value n.meta.xattrs mid → EntriesListed img n.kind end → node_bytes img n ≡ node.write
      (node_meant img n)
  unfolding node kind
  node-written n mid a h = rw (list_written U.Value a, body_bytes_lem img end n.kind h, meta-bytes img n.meta)
      (regroup (number_bytes (kind_number (kind_of (body_meant img n.kind)))) (meta_bytes n.meta) (attributes.write (list_at img U.Value n.meta.xattrs))
      ((body_part (kind_of (body_meant img n.kind))).write (body_part_of (body_meant img n.kind))))
