-- Update. Document 01: "Update merges into a live delta, field by field and attribute by attribute; does nothing on a live tombstone; with no
-- live record makes a delta of the type below, device 0, or does nothing if none exists."
use Rattle.std.specs.Prelude.{◌≡◌, List, ℕ, suc, Option, Some, None}
use Rattle.image.specs.Meaning.{Delta, Record, Store, tombstone, delta, kind_number}
use Rattle.image.specs.Fits.{FitsRecord}
use Rattle.image.specs.FileTypes.{kind_meant}
use Rattle.image.specs.declared.kind.FileType.{FileType}
use Rattle.image.specs.declared.name.Under.TheVariants as U
use Rattle.image.specs.RecordLayout.{layer_record}
use Rattle.image.specs.RoundTrip.{write_image}
use Rattle.nodes.specs.Listed.{ListedIf}
use Rattle.nodes.specs.Attrs.{fields_meant}
use Rattle.nodes.specs.declared.attr.AttrDelta.{AttrDelta}
use Rattle.stack.specs.InStack.{StackOf}
use Rattle.stack.specs.declared.stack.Stack.{Stack}
use Rattle.rules.specs.Changes.{merge_fields, updated}
use Rattle.rules.specs.Queue.{on_live, type_below}
use Rattle.rules.specs.ChangeCalls.{given_fields}
use Rattle.change.specs.Sections.{Spans, Stands}
use Rattle.overlay.specs.NewRecords.{updated_bytes, one_image}
use Rattle.survey.specs.declared.store.Sections.{Sections}
use Rattle.overlay.specs.declared.record.NewChange.TheVariants as K
use Rattle.overlay.specs.declared.record.Updated.{Updated}
use Rattle.overlay.specs.declared.record.NewRecord.{NewRecord}
use Rattle.overlay.specs.declared.record.NewRecord.TheVariants as N
use Rattle.overlay.specs.declared.write.NewLive.{NewLive}

-- "4 if the delta given breaks the layout, has bytes left over": the fields that these bytes are, or that they are not
abbrev pub WholeFields : List ℕ → Option AttrDelta → Type 0
WholeFields given (Some a) = (given_fields given ≡ Some (fields_meant given a)) × ((end : ℕ) × ListedIf given U.Change a.xattrs end)
WholeFields given None = given_fields given ≡ None

abbrev pub new_delta : FileType → AttrDelta → Updated
new_delta kind a = record { code = suc (kind_number (kind_meant kind)); attr_delta = a; new = a.xattrs; old = None; change = K.Bare }

-- the fields of a delta, with those given over them
abbrev pub merged_delta : List ℕ → AttrDelta → Delta → Record
merged_delta given a d = delta (record { fields = merge_fields (fields_meant given a) d.fields; change = d.change })

-- a live delta that ends at `after` becomes this one
pub record Merges (img : List ℕ) (after : ℕ) (a : AttrDelta) (d : Delta) (r : NewRecord) : Type 0 where
  pub new : Updated
  pub is : r ≡ N.Updated new
  pub writes : (given : List ℕ) (end : ℕ) → ListedIf given U.Change a.xattrs end
      → updated_bytes img given new after ≡ layer_record.write (merged_delta given a d)

-- of the live record that stands from `at` on
pub record Onto (img : List ℕ) (at : ℕ) (a : AttrDelta) (r : NewRecord) : Type 0 where
  pub stays : (after : ℕ) → Spans img at (layer_record.write tombstone) after → r ≡ N.Tombstone
  pub merges : (after : ℕ) (d : Delta) → FitsRecord (delta d) → Spans img at (layer_record.write (delta d)) after → Merges img after a d r

-- the new image is that of the store with the inode updated, whatever bytes hold the fields given
pub record Updates (k : Stack) (p : Sections) (i : ℕ) (a : AttrDelta) (r : NewLive) : Type 0 where
  pub writes :
      (s : Store) → Stands k.img.now p s → StackOf k.img.now i k → (given : List ℕ) (end : ℕ) → ListedIf given U.Change a.xattrs end
      → one_image k.img.now given given p r ≡ write_image (on_live i (updated (fields_meant given a) (type_below s i)) s)
