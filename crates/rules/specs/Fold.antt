-- Folding one record into a node. Document 01: "Tombstone: node gone. Delta on nothing: a node of initial values (parent 1, empty target),
-- then applied. Delta of the node's kind: applied, entries sorted, no empty attribute map; created time is dropped, device kept. Other
-- kind: nothing."
use Rattle.std.specs.Prelude.{[], Bool, cond, ℕ, ◌%◌, eqb, None, Option, Some}
use Rattle.wire.specs.Time.{epoch}
use Rattle.wire.specs.Orders.{by_bytes}
use Rattle.wire.specs.Maps.{meet, merge, empty}
use Rattle.image.specs.Meaning.{Special, Kind, Entries, Attributes, Device, Body, Meta, Node, Changes, Fields, Names, Change, Delta, Record, directory, file, symlink, special, pipe, character, block, socket, tombstone, delta, kind_number, kind_of, changed_kind}
use Rattle.rules.specs.Initial.{Initial}

-- a new value, if there is one: a delta "sets the fields it has"
abbrev pub given : {A : Type 0} → Option A → A → A
given None a = a
given (Some x) a = x

-- "Mode is cut to its low 12 bits"
abbrev pub cut : Option ℕ → Option ℕ
cut None = None
cut (Some mode) = Some (mode % 4096)

-- a directory delta "removes then adds"
abbrev pub add_all : Entries → Entries → Entries
add_all added es = merge by_bytes (λ name inode old. Some inode) added es

abbrev pub remove_all : Names → Entries → Entries
remove_all removed es = merge by_bytes (λ name u old. None) removed es

-- attribute changes: set, or removed
abbrev pub alter_all : Changes → Attributes → Attributes
alter_all changes vs = merge by_bytes (λ name change old. change) changes vs

-- the fields of a delta but for the created time, which "is dropped"
abbrev pub on_meta : Fields → Meta → Meta
on_meta f m = record {
  perm = given (cut f.mode) m.perm;
  links = given f.links m.links;
  owner = given f.owner m.owner;
  group = given f.group m.group;
  atime = given f.atime m.atime;
  mtime = given f.mtime m.mtime;
  ctime = given f.ctime m.ctime;
  attributes = meet alter_all f.attributes m.attributes;
}

-- "the device number is the delta's for the two devices, else 0"
abbrev pub first_device : Special → ℕ → Device
first_device pipe device = pipe
first_device character device = character device
first_device block device = block device
first_device socket device = socket

-- what a delta changes by its kind: "device kept", and nothing where the kinds differ
abbrev pub on_body : Change → Body → Body
on_body (directory p added removed) (directory q es) = directory (given p q) (add_all added (remove_all removed es))
on_body (directory p added removed) (file size) = file size
on_body (directory p added removed) (symlink target) = symlink target
on_body (directory p added removed) (special device) = special device
on_body (file n) (directory q es) = directory q es
on_body (file n) (file size) = file (given n size)
on_body (file n) (symlink target) = symlink target
on_body (file n) (special device) = special device
on_body (symlink t) (directory q es) = directory q es
on_body (symlink t) (file size) = file size
on_body (symlink t) (symlink target) = symlink (given t target)
on_body (symlink t) (special device) = special device
on_body (special s device) b = b

abbrev pub applied : Delta → Node → Node
applied d n = record { meta = on_meta d.fields n.meta; body = on_body d.change n.body }

-- "(parent 1, empty target)"
abbrev pub first_body : Change → Body
first_body (directory p added removed) = directory 1 (empty by_bytes)
first_body (file n) = file 0
first_body (symlink t) = symlink []
first_body (special s device) = special (first_device s device)

unfoldable pub same_kind : Kind → Kind → Bool
same_kind k j = eqb (kind_number k) (kind_number j)

module _ (initial : Initial) where
  -- "Owner, group, size and times are 0"
  abbrev pub first_meta : Kind → Meta
  first_meta k = record {
    perm = (initial k).perm;
    links = (initial k).links;
    owner = 0;
    group = 0;
    atime = epoch;
    mtime = epoch;
    ctime = epoch;
    attributes = empty by_bytes;
  }

  -- "a node of initial values"
  abbrev pub first_node : Change → Node
  first_node c = record { meta = first_meta (changed_kind c); body = first_body c }

  unfoldable pub fold_record : Record → Option Node → Option Node
  fold_record tombstone n = None
  fold_record (delta d) None = Some (applied d (first_node d.change))
  fold_record (delta d) (Some n) = Some (cond (same_kind (changed_kind d.change) (kind_of n.body)) (applied d n) n)
