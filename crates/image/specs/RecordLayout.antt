-- Document 01: "Records by rising inode: inode, code 0 tombstone or kind + 1; a mask; the fields present, attribute changes rising by
-- name. Then directory: 0 or 1 and parent, added, removed, each rising; file: 0 or 1 and size; symlink: 0 or 1 and target; other
-- four: device."
use Rattle.std.specs.Prelude.{ℕ, ◌≡◌, refl, None, Option, Some}
use Rattle.wire.specs.declared.time.Time.{Time}
use Rattle.wire.specs.Codec.{Codec}
use Rattle.wire.specs.Combinators.{nothing, seq, ◌then◌, via, restated}
use Rattle.wire.specs.Orders.{by_number, by_bytes}
use Rattle.image.specs.Meaning.{Text, Kind, Entries, Names, Changes, Fields, Change, Record, Layer, directory, file, symlink, special, tombstone, delta, changed_kind}
use Rattle.image.specs.Fits.{FitsFields, FitsChange, FitsRecord}
use Rattle.image.specs.Masks.{Masked, last, flag, masked, maybe}
use Rattle.image.specs.FieldLayout.{inode, word, size, name, target, value, moment, listed, entries}
use Rattle.image.specs.KindLayout.{code}

-- "attribute changes rising by name; each is name, then 0 removed or 1 and value"
abbrev pub changes : Codec Changes
changes = listed by_bytes name (maybe value)

abbrev pub names : Codec Names
names = listed by_bytes name nothing

-- ---- the fields

abbrev pub LaterParts : Type 0
LaterParts = Option Time × (Option Time × (Option Time × (Option Time × Option Changes)))

abbrev pub FieldParts : Type 0
FieldParts = Option ℕ × (Option ℕ × (Option ℕ × (Option ℕ × LaterParts)))

abbrev pub fields_of : FieldParts → Fields
fields_of p = record {
  mode = p.0;
  owner = p.1.0;
  group = p.1.1.0;
  links = p.1.1.1.0;
  atime = p.1.1.1.1.0;
  mtime = p.1.1.1.1.1.0;
  ctime = p.1.1.1.1.1.1.0;
  created = p.1.1.1.1.1.1.1.0;
  attributes = p.1.1.1.1.1.1.1.1;
}

abbrev pub field_parts : Fields → FieldParts
field_parts f =
    (f.mode, (f.owner, (f.group, (f.links, (f.atime, (f.mtime, (f.ctime, (f.created, f.attributes))))))))

-- "a mask (bit 0 upward: mode, owner, group, links, atime, mtime, ctime, created, attributes; no higher bit)"
abbrev pub later_flags : Masked LaterParts
later_flags = flag moment (flag moment (flag moment (flag moment (last changes))))

abbrev pub flags : Masked FieldParts
flags = flag word (flag word (flag word (flag word later_flags)))

-- so a mask is at most 511
pub last-mask : flags.top ≡ 511
last-mask = refl

unfoldable pub fields : Codec Fields
fields =
    restated FitsFields (via fields_of field_parts (λ f. refl) (masked flags refl) (λ p h. refl))
    (λ f h. (h.mode, (h.owner, (h.group, (h.links, (h.atime, (h.mtime, (h.ctime, (h.created, h.attributes)))))))))
    (λ f h. record {
      mode = h.0;
      owner = h.1.0;
      group = h.1.1.0;
      links = h.1.1.1.0;
      atime = h.1.1.1.1.0;
      mtime = h.1.1.1.1.1.0;
      ctime = h.1.1.1.1.1.1.0;
      created = h.1.1.1.1.1.1.1.0;
      attributes = h.1.1.1.1.1.1.1.1;
    })

-- ---- what a delta changes, by its kind

abbrev pub ChangePart : Kind → Type 0
ChangePart directory = Option ℕ × (Entries × Names)
ChangePart file = Option ℕ
ChangePart symlink = Option Text
ChangePart (special s) = ℕ

abbrev pub change_part : (k : Kind) → Codec (ChangePart k)
change_part directory = maybe inode then entries then names
change_part file = maybe size
change_part symlink = maybe target
change_part (special s) = word

abbrev pub change_of : (k : Kind) → ChangePart k → Change
change_of directory p = directory p.0 p.1.0 p.1.1
change_of file p = file p
change_of symlink p = symlink p
change_of (special s) p = special s p

abbrev pub change_part_of : (c : Change) → ChangePart (changed_kind c)
change_part_of (directory parent added removed) = (parent, (added, removed))
change_part_of (file size) = size
change_part_of (symlink target) = target
change_part_of (special s device) = device

change-part : (c : Change) → change_of (changed_kind c) (change_part_of c) ≡ c
change-part (directory parent added removed) = refl
change-part (file size) = refl
change-part (symlink target) = refl
change-part (special s device) = refl

-- what fits a part is what fits the change
part-fits : (c : Change) → ◌≡◌ {A = Type 0} ((change_part (changed_kind c)).Fits (change_part_of c)) (FitsChange c)
part-fits (directory parent added removed) = refl
part-fits (file size) = refl
part-fits (symlink target) = refl
part-fits (special s device) = refl

-- ---- records

-- "code 0 tombstone", which ends there, "or kind + 1"
abbrev pub CodePart : Option Kind → Type 0
CodePart None = Unit {0}
CodePart (Some k) = Fields × ChangePart k

abbrev pub code_part : (c : Option Kind) → Codec (CodePart c)
code_part None = nothing
code_part (Some k) = fields then change_part k

abbrev pub RecordParts : Type 0
RecordParts = (c : Option Kind) × CodePart c

abbrev pub record_at : (c : Option Kind) → CodePart c → Record
record_at None p = tombstone
record_at (Some k) p = delta (record { fields = p.0; change = change_of k p.1 })

abbrev pub record_of : RecordParts → Record
record_of p = record_at p.0 p.1

abbrev pub record_parts : Record → RecordParts
record_parts tombstone = (None, tt)
record_parts (delta d) = (Some (changed_kind d.change), (d.fields, change_part_of d.change))

pub record-parts : (r : Record) → record_of (record_parts r) ≡ r
record-parts tombstone = refl
record-parts (delta d) = λ i. delta (record { fields = d.fields; change = change-part d.change i })

pub parts-record : (p : RecordParts) → record_parts (record_of p) ≡ p
parts-record p = go p.0 p.1
  where
    go : (c : Option Kind) (q : CodePart c) → ◌≡◌ {A = RecordParts} (record_parts (record_at c q)) (c, q)
    go None q = refl
    go (Some directory) q = refl
    go (Some file) q = refl
    go (Some symlink) q = refl
    go (Some (special s)) q = refl

abbrev pub plain_record : Codec Record
plain_record = via record_of record_parts record-parts (seq code code_part) (λ p h. parts-record p)

pub record-fits : (r : Record) → FitsRecord r → plain_record.Fits r
unfolding code fields
record-fits tombstone h = (tt, tt)
record-fits (delta d) h = (tt, (h.fields, rw part-fits h.change))

pub fits-record : (r : Record) → plain_record.Fits r → FitsRecord r
unfolding code fields
fits-record tombstone h = tt
fits-record (delta d) h = record { fields = h.1.0; change = rw part-fits at h.1.1 }

-- a record from its code on
unfoldable pub layer_record : Codec Record
layer_record = restated FitsRecord plain_record record-fits fits-record

-- "Records by rising inode"
abbrev pub records : Codec Layer
records = listed by_number inode layer_record
