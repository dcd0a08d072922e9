-- What a change makes of an inode's live record.
use Rattle.std.specs.Prelude.{ℕ, None, Option, Some}
use Rattle.wire.specs.declared.time.Time.{Time}
use Rattle.wire.specs.Orders.{by_number, by_bytes}
use Rattle.wire.specs.Maps.{Map, merge, empty, get, put}
use Rattle.image.specs.Meaning.{Text, Kind, Entries, Changes, Fields, Names, Change, Record, directory, file, symlink, special, tombstone, delta}
use Rattle.rules.specs.Reads.{or_else}

-- what stands under one inode, changed
abbrev pub alter : {A : Type 0} → ℕ → (Option A → Option A) → Map by_number A → Map by_number A
alter i f m = put by_number i (f (get by_number i m)) m

abbrev pub map_if : {A B : Type 0} → (A → B) → Option A → Option B
map_if f None = None
map_if f (Some a) = Some (f a)

-- ---- "Add entry, remove entry and set parent act on the live directory delta"

abbrev pub no_fields : Fields
no_fields = record { mode = None; owner = None; group = None; links = None; atime = None; mtime = None; ctime = None; created = None; attributes = None }

-- "set mtime and ctime to the given time"
abbrev pub stamp : Time → Fields → Fields
stamp t f = record {
  mode = f.mode;
  owner = f.owner;
  group = f.group;
  links = f.links;
  atime = f.atime;
  mtime = Some t;
  ctime = Some t;
  created = f.created;
  attributes = f.attributes;
}

-- a change of a directory delta, part by part
pub record DirectoryChange : Type 0 where
  pub parent : Option ℕ → Option ℕ
  pub added : Entries → Entries
  pub removed : Names → Names
  pub fields : Fields → Fields

-- "Adding takes the name out of removed, and the reverse; both set mtime and ctime to the given time."
abbrev pub adding : Text → ℕ → Time → DirectoryChange
adding name inode t = record { parent = λ p. p; added = put by_bytes name (Some inode); removed = put by_bytes name None; fields = stamp t }

abbrev pub removing : Text → Time → DirectoryChange
removing name t = record { parent = λ p. p; added = put by_bytes name None; removed = put by_bytes name (Some tt); fields = stamp t }

abbrev pub setting_parent : ℕ → DirectoryChange
setting_parent q = record { parent = λ p. Some q; added = λ a. a; removed = λ r. r; fields = λ f. f }

-- "making an empty one if there is no live record; on a live record of another sort they do nothing"
module _ (D : DirectoryChange) where
  abbrev pub on_delta : Fields → Change → Record
  on_delta fs (directory p added removed) = delta (record { fields = D.fields fs; change = directory (D.parent p) (D.added added) (D.removed removed) })
  on_delta fs (file n) = delta (record { fields = fs; change = file n })
  on_delta fs (symlink t) = delta (record { fields = fs; change = symlink t })
  on_delta fs (special s device) = delta (record { fields = fs; change = special s device })

  abbrev pub on_directory : Option Record → Option Record
  on_directory None = Some (on_delta no_fields (directory None (empty by_bytes) (empty by_bytes)))
  on_directory (Some tombstone) = Some tombstone
  on_directory (Some (delta d)) = Some (on_delta d.fields d.change)

-- ---- "Update merges into a live delta, field by field and attribute by attribute; does nothing on a live tombstone; with no live record
-- makes a delta of the type below, device 0, or does nothing if none exists"

abbrev pub merge_changes : Option Changes → Option Changes → Option Changes
merge_changes None old = old
merge_changes (Some new) None = Some new
merge_changes (Some new) (Some old) = Some (merge by_bytes (λ name change o. Some change) new old)

abbrev pub merge_fields : Fields → Fields → Fields
merge_fields new old = record {
  mode = or_else new.mode old.mode;
  owner = or_else new.owner old.owner;
  group = or_else new.group old.group;
  links = or_else new.links old.links;
  atime = or_else new.atime old.atime;
  mtime = or_else new.mtime old.mtime;
  ctime = or_else new.ctime old.ctime;
  created = or_else new.created old.created;
  attributes = merge_changes new.attributes old.attributes;
}

abbrev pub bare_change : Kind → Change
bare_change directory = directory None (empty by_bytes) (empty by_bytes)
bare_change file = file None
bare_change symlink = symlink None
bare_change (special s) = special s 0

abbrev pub bare_delta : Fields → Kind → Record
bare_delta new k = delta (record { fields = new; change = bare_change k })

abbrev pub updated : Fields → Option Kind → Option Record → Option Record
updated new below None = map_if (bare_delta new) below
updated new below (Some tombstone) = Some tombstone
updated new below (Some (delta d)) = Some (delta (record { fields = merge_fields new d.fields; change = d.change }))
