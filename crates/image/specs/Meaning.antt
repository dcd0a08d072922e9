-- What an image means, in document 01's words: "A call gets an image, the store as bytes."
-- Lists that rise by inode or by name are maps, which hold the proof that they rise.
use Rattle.std.specs.Prelude.{List, ℕ, Option}
use Rattle.wire.specs.declared.time.Time.{Time}
use Rattle.wire.specs.Orders.{by_number, by_bytes}
use Rattle.wire.specs.Maps.{Map}

-- "a text is its length, then bytes": its meaning is the bytes alone
abbrev pub Text : Type 0
Text = List ℕ

-- "directory; file; symlink; pipe; character; block; socket"
pub data Special : Type 0 where
  pipe character block socket : Special

pub data Kind : Type 0 where
  directory file symlink : Kind
  special : Special → Kind

-- "kind 0 to 6 in the order above"
abbrev pub special_number : Special → ℕ
special_number pipe = 3
special_number character = 4
special_number block = 5
special_number socket = 6

abbrev pub kind_number : Kind → ℕ
kind_number directory = 0
kind_number file = 1
kind_number symlink = 2
kind_number (special s) = special_number s

-- "entries (name, inode) rising"
abbrev pub Entries : Type 0
Entries = Map by_bytes ℕ

-- "attributes (name, value) rising"
abbrev pub Attributes : Type 0
Attributes = Map by_bytes Text

-- ---- the base

-- "or device, or nothing, by kind"
pub data Device : Type 0 where
  pipe : Device
  character : ℕ → Device
  block : ℕ → Device
  socket : Device

-- "then parent and entries, or size, or target, or device, or nothing, by kind"
pub data Body : Type 0 where
  directory : ℕ → Entries → Body
  file : ℕ → Body
  symlink : Text → Body
  special : Device → Body

-- "perm, links, owner, group; atime, mtime, ctime; attributes"
pub record Meta : Type 0 where
  pub perm : ℕ
  pub links : ℕ
  pub owner : ℕ
  pub group : ℕ
  pub atime : Time
  pub mtime : Time
  pub ctime : Time
  pub attributes : Attributes

pub record Node : Type 0 where
  pub meta : Meta
  pub body : Body

abbrev pub special_of : Device → Special
special_of pipe = pipe
special_of (character d) = character
special_of (block d) = block
special_of socket = socket

abbrev pub kind_of : Body → Kind
kind_of (directory parent entries) = directory
kind_of (file size) = file
kind_of (symlink target) = symlink
kind_of (special d) = special (special_of d)

-- "Base: by rising inode"
abbrev pub Base : Type 0
Base = Map by_number Node

-- ---- the layers

-- "attribute changes rising by name; each is name, then 0 removed or 1 and value"
abbrev pub Changes : Type 0
Changes = Map by_bytes (Option Text)

-- "a mask (bit 0 upward: mode, owner, group, links, atime, mtime, ctime, created, attributes)": a field is there, or not
pub record Fields : Type 0 where
  pub mode : Option ℕ
  pub owner : Option ℕ
  pub group : Option ℕ
  pub links : Option ℕ
  pub atime : Option Time
  pub mtime : Option Time
  pub ctime : Option Time
  pub created : Option Time
  pub attributes : Option Changes

abbrev pub Names : Type 0
Names = Map by_bytes (Unit {0})

-- "directory: 0 or 1 and parent, added, removed; file: 0 or 1 and size; symlink: 0 or 1 and target; other four: device"
pub data Change : Type 0 where
  directory : Option ℕ → Entries → Names → Change
  file : Option ℕ → Change
  symlink : Option Text → Change
  special : Special → ℕ → Change

pub record Delta : Type 0 where
  pub fields : Fields
  pub change : Change

-- "A record is a tombstone or a node delta of one of seven kinds."
pub data Record : Type 0 where
  tombstone : Record
  delta : Delta → Record

abbrev pub changed_kind : Change → Kind
changed_kind (directory parent added removed) = directory
changed_kind (file size) = file
changed_kind (symlink target) = symlink
changed_kind (special s device) = special s

-- "Records by rising inode"
abbrev pub Layer : Type 0
Layer = Map by_number Record

-- "Batch: id, bytes, operations, reason 1 to 5, commit time, records"
pub record Batch : Type 0 where
  pub id : ℕ
  pub bytes : ℕ
  pub operations : ℕ
  pub reason : ℕ
  pub committed : Time
  pub records : Layer

-- "Order: base, batches, live, next id, staged bytes, staged operations, request"
pub record Store : Type 0 where
  pub base : Base
  pub batches : List Batch
  pub live : Layer
  pub next : ℕ
  pub bytes : ℕ
  pub operations : ℕ
  pub request : ℕ
