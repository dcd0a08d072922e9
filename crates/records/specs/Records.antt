-- What the writers of whole records and nodes write: the fields by value, the lists and texts as they stand in the image.
use Rattle.wire.specs.declared.part.Part.{Part}
use Rattle.std.specs.Prelude.{List, [], ◌++◌, ℕ, suc, None, Option, Some}
use Rattle.wire.specs.Number.{number_bytes}
use Rattle.wire.specs.Text.{text_bytes}
use Rattle.image.specs.Meaning.{kind_number, kind_of, changed_kind}
use Rattle.image.specs.Masks.{maybe}
use Rattle.image.specs.FieldLayout.{inode, size, target}
use Rattle.nodes.specs.Options.{text_at, text_of}
use Rattle.deltas.specs.Deltas.{attr_of, change_meant}
use Rattle.nodes.specs.Nodes.{body_meant}
use Rattle.writers.specs.Writes.{attr_bytes, meta_bytes}
use Rattle.deltas.specs.declared.delta.DirectoryDelta.{DirectoryDelta}
use Rattle.deltas.specs.declared.delta.NodeDelta.{NodeDelta}
use Rattle.deltas.specs.declared.delta.NodeDelta.TheVariants.{Directory, File, Symlink, Fifo, CharDevice, BlockDevice, Socket}
use Rattle.deltas.specs.declared.delta.EntryDelta.{EntryDelta}
use Rattle.deltas.specs.declared.delta.EntryDelta.TheVariants as E
use Rattle.nodes.specs.declared.node.NodeKind.{NodeKind}
use Rattle.nodes.specs.declared.node.NodeKind.TheVariants as K
use Rattle.nodes.specs.declared.node.Node.{Node}

module _ (img : List ℕ) where
  abbrev pub list_bytes : Option Part → List ℕ
  list_bytes (Some p) = text_at img p
  list_bytes None = []

  -- "directory: 0 or 1 and parent, added, removed"
  abbrev pub directory_bytes : DirectoryDelta → List ℕ
  directory_bytes d = (maybe inode).write d.parent ++ text_at img d.added ++ text_at img d.removed

  -- "file: 0 or 1 and size; symlink: 0 or 1 and target; other four: device"
  abbrev pub change_bytes : NodeDelta → List ℕ
  change_bytes (Directory d) = directory_bytes d
  change_bytes (File d) = (maybe size).write d.size
  change_bytes (Symlink d) = (maybe target).write (text_of img d.target)
  change_bytes (Fifo d) = number_bytes d.rdev
  change_bytes (CharDevice d) = number_bytes d.rdev
  change_bytes (BlockDevice d) = number_bytes d.rdev
  change_bytes (Socket d) = number_bytes d.rdev

  -- "code 0 tombstone or kind + 1; a mask; the fields present, attribute changes; then" by kind
  abbrev pub entry_bytes : EntryDelta → List ℕ
  entry_bytes (E.Node n) =
      number_bytes (suc (kind_number (changed_kind (change_meant img n)))) ++ attr_bytes (attr_of n) ++ list_bytes (attr_of n).xattrs ++ change_bytes n
  entry_bytes E.Tombstone = number_bytes 0

  -- "parent and entries, or size, or target, or device, or nothing, by kind"
  abbrev pub body_bytes : NodeKind → List ℕ
  body_bytes (K.Directory parent es) = number_bytes parent ++ text_at img es
  body_bytes (K.File n) = number_bytes n
  body_bytes (K.Symlink t) = text_bytes (text_at img t)
  body_bytes K.Fifo = []
  body_bytes (K.CharDevice d) = number_bytes d
  body_bytes (K.BlockDevice d) = number_bytes d
  body_bytes K.Socket = []

  -- "kind; perm, links, owner, group; atime, mtime, ctime; attributes; then" by kind
  abbrev pub node_bytes : Node → List ℕ
  node_bytes n = number_bytes (kind_number (kind_of (body_meant img n.kind))) ++ meta_bytes n.meta ++ text_at img n.meta.xattrs ++ body_bytes n.kind
