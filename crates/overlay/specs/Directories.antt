-- The live directory delta of an inode. Document 01: "Add entry, remove entry and set parent act on the live directory delta, making an empty
-- one if there is no live record; on a live record of another sort they do nothing."
use Rattle.wire.specs.declared.part.Part.{Part}
use Rattle.std.specs.Prelude.{◌≡◌, List, ℕ, None, Option, Some}
use Rattle.wire.specs.Orders.{by_bytes}
use Rattle.wire.specs.Maps.{Map, empty}
use Rattle.image.specs.Meaning.{Record, directory}
use Rattle.image.specs.declared.name.Under.{Under}
use Rattle.image.specs.declared.name.Under.TheVariants as U
use Rattle.image.specs.Under.{UnderName}
use Rattle.image.specs.RecordLayout.{layer_record}
use Rattle.image.specs.Places.{Holds}
use Rattle.nodes.specs.Listed.{list_at, ListedIf}
use Rattle.nodes.specs.Attrs.{fields_meant}
use Rattle.deltas.specs.declared.delta.DirectoryDelta.{DirectoryDelta}
use Rattle.deltas.specs.declared.delta.NodeDelta.{NodeDelta}
use Rattle.deltas.specs.declared.delta.NodeDelta.TheVariants.{Directory, File, Symlink, Fifo, CharDevice, BlockDevice, Socket}
use Rattle.deltas.specs.declared.delta.EntryDelta.{EntryDelta}
use Rattle.deltas.specs.declared.delta.EntryDelta.TheVariants as E
use Rattle.rules.specs.Changes.{DirectoryChange, on_delta, on_directory}
use Rattle.overlay.specs.declared.delta.LiveDelta.{LiveDelta}

-- ---- what the code makes of a record

abbrev pub whole_of : DirectoryDelta → LiveDelta
whole_of d = record { attr_delta = d.attr_delta; parent = d.parent; added = Some d.added; removed = Some d.removed }

abbrev pub bare_delta : LiveDelta
bare_delta = record {
  attr_delta = record { mode = None; uid = None; gid = None; nlink = None; atime = None; mtime = None; ctime = None; created_at = None; xattrs = None };
  parent = None;
  added = None;
  removed = None;
}

abbrev pub node_directory : NodeDelta → Option LiveDelta
node_directory (Directory d) = Some (whole_of d)
node_directory (File d) = None
node_directory (Symlink d) = None
node_directory (Fifo d) = None
node_directory (CharDevice d) = None
node_directory (BlockDevice d) = None
node_directory (Socket d) = None

abbrev pub directory_of : EntryDelta → Option LiveDelta
directory_of (E.Node n) = node_directory n
directory_of E.Tombstone = None

-- ---- what it means

-- a list that isn't there is empty
abbrev pub list_or : List ℕ → (u : Under) → Option Part → Map by_bytes (UnderName u)
list_or img u (Some p) = list_at img u p
list_or img u None = empty by_bytes

-- the live record is this directory delta, or there is none
pub record IsDirectory (img : List ℕ) (d : LiveDelta) (o : Option Record) : Type 0 where
  pub becomes : (D : DirectoryChange) → on_directory D o
      ≡ Some (on_delta D (fields_meant img d.attr_delta) (directory d.parent (list_or img U.Inode d.added) (list_or img U.Nothing d.removed)))
  pub attributes : (end : ℕ) × ListedIf img U.Change d.attr_delta.xattrs end
  pub added : (end : ℕ) × ListedIf img U.Inode d.added end
  pub removed : (end : ℕ) × ListedIf img U.Nothing d.removed end

-- the live record is of another sort
pub record IsOther (o : Option Record) : Type 0 where
  pub is : Record
  pub same : o ≡ Some is
  pub stays : (D : DirectoryChange) → on_directory D o ≡ Some is

abbrev pub Lives : List ℕ → Option LiveDelta → Option Record → Type 0
Lives img (Some d) o = IsDirectory img d o
Lives img None o = IsOther o

-- of the record that the place holds
pub record LivesAt (img : List ℕ) (place : Option ℕ) (r : Option LiveDelta) : Type 0 where
  pub lives : (o : Option Record) → Holds img layer_record.read place o → Lives img r o
