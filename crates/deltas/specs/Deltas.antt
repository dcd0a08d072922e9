-- What a record by value means. Document 01: "`EntryDelta` stays an enum whose node case wraps the enum of kinds, texts as places beside it."
use Rattle.std.specs.Prelude.{◌≡◌, List, ℕ, ◌+◌, length, Result, IfOk}
use Rattle.wire.specs.declared.fault.Fault.{Fault}
use Rattle.wire.specs.Parse.{Parsed, got, bind}
use Rattle.wire.specs.Reading.{Reads, meant}
use Rattle.image.specs.Meaning.{Kind, Special, Fields, Change, Delta, Record, tombstone, delta}
use Rattle.image.specs.Meaning.{directory, file, symlink, special, pipe, character, block, socket}
use Rattle.image.specs.RecordLayout.{fields, change_part, change_of, layer_record}
use Rattle.image.specs.declared.name.Under.TheVariants as U
use Rattle.nodes.specs.Options.{text_of, InsideIf}
use Rattle.nodes.specs.Listed.{list_at, Listed, ListedIf}
use Rattle.nodes.specs.Attrs.{fields_meant}
use Rattle.nodes.specs.declared.attr.AttrDelta.{AttrDelta}
use Rattle.deltas.specs.declared.delta.NodeDelta.{NodeDelta}
use Rattle.deltas.specs.declared.delta.NodeDelta.TheVariants.{Directory, File, Symlink, Fifo, CharDevice, BlockDevice, Socket}
use Rattle.deltas.specs.declared.delta.SpecialDelta.{SpecialDelta}
use Rattle.deltas.specs.declared.delta.EntryDelta.{EntryDelta}
use Rattle.deltas.specs.declared.delta.EntryDelta.TheVariants as E

abbrev pub attr_of : NodeDelta → AttrDelta
attr_of (Directory d) = d.attr_delta
attr_of (File d) = d.attr_delta
attr_of (Symlink d) = d.attr_delta
attr_of (Fifo d) = d.attr_delta
attr_of (CharDevice d) = d.attr_delta
attr_of (BlockDevice d) = d.attr_delta
attr_of (Socket d) = d.attr_delta

-- "directory: 0 or 1 and parent, added, removed; file: 0 or 1 and size; symlink: 0 or 1 and target; other four: device"
abbrev pub change_meant : List ℕ → NodeDelta → Change
change_meant img (Directory d) = directory d.parent (list_at img U.Inode d.added) (list_at img U.Nothing d.removed)
change_meant img (File d) = file d.size
change_meant img (Symlink d) = symlink (text_of img d.target)
change_meant img (Fifo d) = special pipe d.rdev
change_meant img (CharDevice d) = special character d.rdev
change_meant img (BlockDevice d) = special block d.rdev
change_meant img (Socket d) = special socket d.rdev

abbrev pub delta_meant : List ℕ → NodeDelta → Delta
delta_meant img n = record { fields = fields_meant img (attr_of n); change = change_meant img n }

-- the delta of this kind that has only a device number
abbrev pub special_delta : Special → SpecialDelta → NodeDelta
special_delta pipe d = Fifo d
special_delta character d = CharDevice d
special_delta block d = BlockDevice d
special_delta socket d = Socket d

-- each that is made is of this kind
abbrev pub Makes : Special → (SpecialDelta → NodeDelta → Type 0) → Type 0
Makes s Made = (d : SpecialDelta) (n : NodeDelta) → Made d n → n ≡ special_delta s d

-- "A record is a tombstone or a node delta of one of seven kinds."
abbrev pub entry_meant : List ℕ → EntryDelta → Record
entry_meant img (E.Node n) = delta (delta_meant img n)
entry_meant img E.Tombstone = tombstone

-- the removed names are the last of a directory's delta, and the added entries end where they start; a target is inside the image
abbrev pub ChangeListed : List ℕ → NodeDelta → ℕ → Type 0
ChangeListed img (Directory d) end = Listed img U.Inode d.added d.removed.start × Listed img U.Nothing d.removed end
ChangeListed img (File d) end = Unit {0}
ChangeListed img (Symlink d) end = InsideIf img d.target
ChangeListed img (Fifo d) end = Unit {0}
ChangeListed img (CharDevice d) end = Unit {0}
ChangeListed img (BlockDevice d) end = Unit {0}
ChangeListed img (Socket d) end = Unit {0}

-- what a delta of a kind changes, after its fields
abbrev pub delta_read : Kind → Fields → List ℕ → Parsed Record
delta_read k f s = bind ((change_part k).read s) (λ p r. got (delta (record { fields = f; change = change_of k p })) r)

pub record ReadsDelta (img : List ℕ) (k : Kind) (a : AttrDelta) (at : ℕ) (r : Result (NodeDelta × ℕ) Fault) : Type 0 where
  pub reads : Reads img (delta_read k (fields_meant img a)) at (meant (λ n. delta (delta_meant img n)) r)
  pub attr : IfOk r (λ x. attr_of x.0 ≡ a)
  pub listed : IfOk r (λ x. ChangeListed img x.0 x.1)

abbrev pub AttrListed : List ℕ → EntryDelta → ℕ → Type 0
AttrListed img (E.Node n) end = ListedIf img U.Change (attr_of n).xattrs end
AttrListed img E.Tombstone end = Unit {0}

abbrev pub EntryListed : List ℕ → EntryDelta → ℕ → Type 0
EntryListed img (E.Node n) end = ChangeListed img n end
EntryListed img E.Tombstone end = Unit {0}

abbrev pub fields_length : List ℕ → EntryDelta → ℕ
fields_length img (E.Node n) = length (fields.write (fields_meant img (attr_of n)))
fields_length img E.Tombstone = 0

-- a record was read; the attribute changes end where its fields do, one byte after the code
pub record ReadsEntry (img : List ℕ) (at : ℕ) (r : Result (EntryDelta × ℕ) Fault) : Type 0 where
  pub reads : Reads img layer_record.read at (meant (entry_meant img) r)
  pub attributes : IfOk r (λ x. AttrListed img x.0 (at + 1 + fields_length img x.0))
  pub lists : IfOk r (λ x. EntryListed img x.0 x.1)
