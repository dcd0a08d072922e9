-- Document 01: "Attributes: from the bottom. Start at the base's; a tombstone clears; a delta on nothing starts from its initial values; then
-- it sets the fields it has, whatever its kind, except created. Mode is cut to its low 12 bits. A file size or link target sets size. The
-- type stays that of the start."
use Rattle.std.specs.Prelude.{ℕ, length, None, Option, Some}
use Rattle.wire.specs.declared.time.Time.{Time}
use Rattle.wire.specs.Time.{epoch}
use Rattle.image.specs.Meaning.{Text, Special, Kind, Device, Body, Node, Change, Delta, Record, directory, file, symlink, special, pipe, character, block, socket, tombstone, delta, kind_of, changed_kind}
use Rattle.rules.specs.Initial.{Initial}
use Rattle.rules.specs.Fold.{given, cut}
use Rattle.rules.specs.Reads.{Read}

pub record FileAttr : Type 0 where
  pub inode : ℕ
  pub type : Kind
  pub perm : ℕ
  pub links : ℕ
  pub owner : ℕ
  pub group : ℕ
  pub device : ℕ
  pub size : ℕ
  pub atime : Time
  pub mtime : Time
  pub ctime : Time

-- "a base symlink starts at 777, whatever is stored"
abbrev pub base_perm : Body → ℕ → ℕ
base_perm (directory p es) perm = perm
base_perm (file size) perm = perm
base_perm (symlink target) perm = 0o777
base_perm (special device) perm = perm

abbrev pub device_number : Device → ℕ
device_number pipe = 0
device_number (character device) = device
device_number (block device) = device
device_number socket = 0

abbrev pub base_device : Body → ℕ
base_device (directory p es) = 0
base_device (file size) = 0
base_device (symlink target) = 0
base_device (special device) = device_number device

-- "A base size is a file's, a target's length, else 0"
abbrev pub base_size : Body → ℕ
base_size (directory p es) = 0
base_size (file size) = size
base_size (symlink target) = length target
base_size (special device) = 0

abbrev pub base_attr : ℕ → Option Node → Option FileAttr
base_attr i None = None
base_attr i (Some n) = Some (record {
  inode = i;
  type = kind_of n.body;
  perm = base_perm n.body n.meta.perm;
  links = n.meta.links;
  owner = n.meta.owner;
  group = n.meta.group;
  device = base_device n.body;
  size = base_size n.body;
  atime = n.meta.atime;
  mtime = n.meta.mtime;
  ctime = n.meta.ctime;
})

-- "the device number is the delta's for the two devices, else 0"
abbrev pub special_device : Special → ℕ → ℕ
special_device pipe device = 0
special_device character device = device
special_device block device = device
special_device socket device = 0

abbrev pub change_device : Change → ℕ
change_device (directory p added removed) = 0
change_device (file n) = 0
change_device (symlink t) = 0
change_device (special s device) = special_device s device

abbrev pub length_if : Option Text → Option ℕ
length_if None = None
length_if (Some t) = Some (length t)

-- "A file size or link target sets size."
abbrev pub change_size : Change → Option ℕ
change_size (directory p added removed) = None
change_size (file n) = n
change_size (symlink t) = length_if t
change_size (special s device) = None

abbrev pub on_attr : Delta → FileAttr → FileAttr
on_attr d a = record {
  inode = a.inode;
  type = a.type;
  perm = given (cut d.fields.mode) a.perm;
  links = given d.fields.links a.links;
  owner = given d.fields.owner a.owner;
  group = given d.fields.group a.group;
  device = a.device;
  size = given (change_size d.change) a.size;
  atime = given d.fields.atime a.atime;
  mtime = given d.fields.mtime a.mtime;
  ctime = given d.fields.ctime a.ctime;
}

module _ (initial : Initial) where
  -- "Owner, group, size and times are 0"
  abbrev pub first_attr : ℕ → Change → FileAttr
  first_attr i c = record {
    inode = i;
    type = changed_kind c;
    perm = (initial (changed_kind c)).perm;
    links = (initial (changed_kind c)).links;
    owner = 0;
    group = 0;
    device = change_device c;
    size = 0;
    atime = epoch;
    mtime = epoch;
    ctime = epoch;
  }

  abbrev pub step_attr : ℕ → Record → Option FileAttr → Option FileAttr
  step_attr i tombstone below = None
  step_attr i (delta d) None = Some (on_attr d (first_attr i d.change))
  step_attr i (delta d) (Some a) = Some (on_attr d a)

  abbrev pub attributes : ℕ → Read (Option FileAttr)
  attributes i = record { base = base_attr i; step = step_attr i }
