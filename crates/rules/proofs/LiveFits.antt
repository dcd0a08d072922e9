-- What a change makes of a live record that fits fits, but for counts; so does a normalised layer.
use Rattle.std.specs.Prelude.{None, Option, Some}
use mathlib.Core.List.{List}
use Prim.Native.Nat.{ℕ}
use native.Mathlib.Omega.{arith}
use Rattle.wire.specs.declared.time.Time.{Time}
use Rattle.wire.specs.Orders.{by_number, by_bytes}
use Rattle.wire.specs.Maps.{empty, get, put}
use Rattle.image.specs.Meaning.{Text, Kind, Entries, Names, Base, Changes, Fields, Change, Record, Layer, directory, file, symlink, special, tombstone, delta}
use Rattle.image.specs.Fits.{IfGiven, FitsInode, FitsWord, FitsName, FitsTime, MapFits, ChangesFits, FieldsFits, ChangeFits, RecordFits, LayerFits}
use Rattle.rules.specs.Reads.{or_else, look, type, child}
use Rattle.rules.specs.Stacks.{stack}
use Rattle.rules.specs.Changes.{alter, no_fields, DirectoryChange, adding, removing, setting_parent, on_delta, on_directory, merge_changes, merge_fields, bare_change, updated}
use Rattle.rules.specs.Normalise.{normal_directory, normal_change, normal_record, normal_layer}
use Rattle.rules.proofs.EachRow.{Any, empty-fits, get-fits, put-fits, merge-fits, keep-fits}

-- what stands under one inode, changed
pub alter-fits : (i : ℕ) (f : Option Record → Option Record) (l : Layer) → FitsInode i → ((o : Option Record) → IfGiven (RecordFits Any) o → IfGiven (RecordFits Any) (f o))
    → LayerFits Any l → LayerFits Any (alter i f l)
alter-fits i f l h step k = put-fits i (f (get by_number i l)) l h (step (get by_number i l) (get-fits i l k)) k

-- ---- add entry, remove entry, set parent

pub none-fits : FieldsFits Any no_fields
none-fits = record { mode = tt; owner = tt; group = tt; links = tt; atime = tt; mtime = tt; ctime = tt; created = tt; attributes = tt }

-- each part of a directory's change makes what fits of what fits
pub record Fitting (D : DirectoryChange) : Type 0 where
  pub parent : (p : Option ℕ) → IfGiven FitsInode p → IfGiven FitsInode (D.parent p)
  pub added : (a : Entries) → MapFits Any FitsName FitsInode a → MapFits Any FitsName FitsInode (D.added a)
  pub removed : (r : Names) → MapFits Any FitsName (λ _. Unit {0}) r → MapFits Any FitsName (λ _. Unit {0}) (D.removed r)
  pub fields : (f : Fields) → FieldsFits Any f → FieldsFits Any (D.fields f)

module _ (D : DirectoryChange) (F : Fitting D) where
  delta-fits : (f : Fields) (c : Change) → FieldsFits Any f → ChangeFits Any c → RecordFits Any (on_delta D f c)
  delta-fits f (directory p added removed) h k =
      record { fields = F.fields f h; change = (F.parent p k.0, (F.added added k.1.0, F.removed removed k.1.1)) }
  delta-fits f (file n) h k = record { fields = h; change = k }
  delta-fits f (symlink t) h k = record { fields = h; change = k }
  delta-fits f (special s device) h k = record { fields = h; change = k }

  pub directory-fits : (o : Option Record) → IfGiven (RecordFits Any) o → IfGiven (RecordFits Any) (on_directory D o)
  directory-fits None h = delta-fits no_fields (directory None (empty by_bytes) (empty by_bytes)) none-fits (tt, (empty-fits, empty-fits))
  directory-fits (Some tombstone) h = tt
  directory-fits (Some (delta d)) h = delta-fits d.fields d.change h.fields h.change

-- a name is put in one of the two lists and taken out of the other
naming-fits : (name : Text) (inode : Option ℕ) (u : Option (Unit {0})) (t : Time) → FitsName name → IfGiven FitsInode inode → IfGiven (λ _. Unit {0}) u → FitsTime t
    → Fitting (record { parent = λ p. p; added = put by_bytes name inode; removed = put by_bytes name u; fields = (adding name 0 t).fields })
naming-fits name inode u t n i v f = record {
  parent = λ p h. h;
  added = λ a h. put-fits name inode a n i h;
  removed = λ r h. put-fits name u r n v h;
  fields = λ g h. record { mode = h.mode; owner = h.owner; group = h.group; links = h.links; atime = h.atime; mtime = f; ctime = f; created = h.created; attributes = h.attributes };
}

pub adding-fits : (name : Text) (inode : ℕ) (t : Time) → FitsName name → FitsInode inode → FitsTime t → Fitting (adding name inode t)
adding-fits name inode t n i f = naming-fits name (Some inode) None t n i tt f

pub removing-fits : (name : Text) (t : Time) → FitsName name → FitsTime t → Fitting (removing name t)
removing-fits name t n f = naming-fits name None (Some tt) t n tt tt f

pub parent-fits : (q : ℕ) → FitsInode q → Fitting (setting_parent q)
parent-fits q h = record { parent = λ p k. h; added = λ a k. k; removed = λ r k. k; fields = λ f k. k }

-- ---- update

either-fits : {A : Type 0} (P : A → Type 0) (a b : Option A) → IfGiven P a → IfGiven P b → IfGiven P (or_else a b)
either-fits P None b h k = k
either-fits P (Some a) b h k = h

changes-fit : (new old : Option Changes) → IfGiven (ChangesFits Any) new → IfGiven (ChangesFits Any) old → IfGiven (ChangesFits Any) (merge_changes new old)
changes-fit None old h k = k
changes-fit (Some new) None h k = h
changes-fit (Some new) (Some old) h k = merge-fits (λ name change o. Some change) (λ name change o r q. r) new old h k

fields_fit : (new old : Fields) → FieldsFits Any new → FieldsFits Any old → FieldsFits Any (merge_fields new old)
fields_fit new old h k = record {
  mode = either-fits FitsWord new.mode old.mode h.mode k.mode;
  owner = either-fits FitsWord new.owner old.owner h.owner k.owner;
  group = either-fits FitsWord new.group old.group h.group k.group;
  links = either-fits FitsWord new.links old.links h.links k.links;
  atime = either-fits FitsTime new.atime old.atime h.atime k.atime;
  mtime = either-fits FitsTime new.mtime old.mtime h.mtime k.mtime;
  ctime = either-fits FitsTime new.ctime old.ctime h.ctime k.ctime;
  created = either-fits FitsTime new.created old.created h.created k.created;
  attributes = changes-fit new.attributes old.attributes h.attributes k.attributes;
}

bare-fits : (k : Kind) → ChangeFits Any (bare_change k)
bare-fits directory = (tt, (empty-fits, empty-fits))
bare-fits file = tt
bare-fits symlink = tt
bare-fits (special s) = omega arith

pub updated-fits : (new : Fields) (below : Option Kind) → FieldsFits Any new → (o : Option Record) → IfGiven (RecordFits Any) o
    → IfGiven (RecordFits Any) (updated new below o)
updated-fits new None h None k = tt
updated-fits new (Some kind) h None k = record { fields = h; change = bare-fits kind }
updated-fits new below h (Some tombstone) k = tt
updated-fits new below h (Some (delta d)) k = record { fields = fields_fit new d.fields h k.fields; change = k.change }

-- ---- normalise

module _ (below : Text → Option ℕ) where
  normal-directory : (k : Option Kind) (p : Option ℕ) (added : Entries) (removed : Names) → ChangeFits Any (directory p added removed)
      → ChangeFits Any (normal_directory below k p added removed)
  normal-directory None p added removed h = (h.0, (h.1.0, empty-fits))
  normal-directory (Some directory) p added removed h = (h.0, (keep-fits _ added h.1.0, keep-fits _ removed h.1.1))
  normal-directory (Some file) p added removed h = (h.0, (h.1.0, empty-fits))
  normal-directory (Some symlink) p added removed h = (h.0, (h.1.0, empty-fits))
  normal-directory (Some (special s)) p added removed h = (h.0, (h.1.0, empty-fits))

  normal-change : (k : Option Kind) (c : Change) → ChangeFits Any c → ChangeFits Any (normal_change below k c)
  normal-change k (directory p added removed) h = normal-directory k p added removed h
  normal-change k (file n) h = h
  normal-change k (symlink t) h = h
  normal-change k (special s device) h = h

  normal-record : (k : Option Kind) (r : Record) → RecordFits Any r → RecordFits Any (normal_record below k r)
  normal-record k tombstone h = tt
  normal-record k (delta d) h = record { fields = h.fields; change = normal-change k d.change h.change }

pub normal-fits : (under : List Layer) (base : Base) (l : Layer) → LayerFits Any l → LayerFits Any (normal_layer under base l)
unfolding normal_layer
normal-fits under base l h =
    merge-fits _ (λ i r o f q. normal-record (λ name. look (child name) (stack i under) (get by_number i base)) (look type (stack i under) (get by_number i base)) r f) l
    (empty by_number) h empty-fits
