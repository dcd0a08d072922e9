-- Images with other live records: parts of the old image, and what is new.
use Rattle.std.specs.Prelude.{Result, true, cond, List, [], ◌∷◌, ◌++◌, ℕ, eqb, length}
use Rattle.wire.specs.Number.{number_bytes}
use Rattle.wire.specs.Put.{Put}
use Rattle.image.specs.Masks.{maybe}
use Rattle.image.specs.FieldLayout.{inode}
use Rattle.writers.specs.Writes.{attr_bytes}
use Rattle.records.specs.Records.{list_bytes as list_if}
use Rattle.change.specs.Sections.{between}
use Rattle.change.specs.Changed.{Changes, if_fits}
use Rattle.change.specs.Cuts.{count_after}
use Rattle.change.specs.Splices.{Piece, spliced}
use Rattle.meld.specs.Merged.{changes_anew}
use Rattle.survey.specs.declared.refusal.Refusal.{Refusal}
use Rattle.survey.specs.declared.store.Sections.{Sections}
use Rattle.change.specs.declared.cut.Cut.{Cut}
use Rattle.overlay.specs.NewLists.{list_bytes}
use Rattle.overlay.specs.declared.list.Copied.{Copied}
use Rattle.overlay.specs.declared.record.NewDirectory.{NewDirectory}
use Rattle.overlay.specs.declared.record.NewChange.{NewChange}
use Rattle.overlay.specs.declared.record.NewChange.TheVariants as C
use Rattle.overlay.specs.declared.record.Updated.{Updated}
use Rattle.overlay.specs.declared.record.NewRecord.{NewRecord}
use Rattle.overlay.specs.declared.record.NewRecord.TheVariants as N
use Rattle.overlay.specs.declared.record.Edit.{Edit}
use Rattle.overlay.specs.declared.record.Lead.{Lead}
use Rattle.overlay.specs.declared.record.Lead.TheVariants as D
use Rattle.overlay.specs.declared.write.NewLive.{NewLive}

-- what a delta of this code has after its fields, if it changes nothing: of a directory no parent and two empty lists, else one 0
abbrev pub bare_bytes : ℕ → List ℕ
bare_bytes code = cond (eqb code 1) (number_bytes 0 ++ (number_bytes 0 ++ number_bytes 0)) (number_bytes 0)

-- what stands after the fields of a delta of this code, in place of a record that ends at `after`
abbrev pub change_bytes : List ℕ → ℕ → NewChange → ℕ → List ℕ
change_bytes img code (C.Kept start) after = between img start after
change_bytes img code C.Bare after = bare_bytes code

-- a delta with other fields, from its code on
abbrev pub updated_bytes : List ℕ → List ℕ → Updated → ℕ → List ℕ
updated_bytes img given n after =
    number_bytes n.code ++ (attr_bytes n.attr_delta ++ (changes_anew img given n.new n.old ++ change_bytes img n.code n.change after))

-- what comes before the row of a record
abbrev pub lead_bytes : List ℕ → Lead → ℕ → List ℕ
lead_bytes img (D.Head h) row = between img 0 h.live ++ (number_bytes h.count ++ between img h.first row)
lead_bytes img (D.Behind first) row = between img first row

module _ (img given newName : List ℕ) where
  -- a directory delta from its code on
  abbrev pub directory_bytes : NewDirectory → List ℕ
  directory_bytes n =
      number_bytes 1 ++ (attr_bytes n.attr_delta ++ (list_if img n.attr_delta.xattrs
      ++ ((maybe inode).write n.parent ++ (list_bytes img given newName n.added ++ list_bytes img given newName n.removed))))

  -- a record, its inode first
  abbrev pub record_row : Edit → List ℕ
  record_row e = go e.new
    where
      go : NewRecord → List ℕ
      go N.Same = between img e.gap.start e.gap.end
      go N.Tombstone = number_bytes e.inode ++ number_bytes 0
      go N.Given = number_bytes e.inode ++ given
      go (N.Directory n) = number_bytes e.inode ++ directory_bytes n
      go (N.Updated n) = number_bytes e.inode ++ updated_bytes img given n e.gap.end

  abbrev pub record_piece : Edit → Piece
  record_piece e = record { row = e.gap.start; after = e.gap.end; bytes = record_row e }

  abbrev pub record_pieces : List Edit → List Piece
  record_pieces [] = []
  record_pieces (e ∷ es) = record_piece e ∷ record_pieces es

  -- what comes before a record, and the record
  abbrev pub edit_bytes : Lead → Edit → List ℕ
  edit_bytes lead e = lead_bytes img lead e.gap.start ++ record_row e

  -- the image with these records changed; behind another that changes, the rest of it
  abbrev pub edited_image : Lead → List Edit → List ℕ
  edited_image (D.Head h) es = between img 0 h.live ++ (number_bytes h.count ++ spliced img h.first (record_pieces es) (length img))
  edited_image (D.Behind first) es = spliced img first (record_pieces es) (length img)

-- and it is put
abbrev pub Puts : List ℕ → ℕ → Copied → Lead → List Edit → ℕ → List ℕ → Type 0
Puts old at c lead es next new = Put old at (edited_image c.img.now c.given.now c.new_name.now lead es) next new

-- base and batches as they are, another count of live records, these from `first` on
abbrev pub lead_in : Sections → ℕ → ℕ → Lead
lead_in p count first = D.Head (record { live = p.live; count = count; first = first })

-- with one record changed, and others behind it
abbrev pub new_image : List ℕ → List ℕ → List ℕ → Sections → NewLive → List Edit → List ℕ
new_image img given newName p n es = edited_image img given newName (lead_in p n.count n.first) (n.edit ∷ es)

abbrev pub one_image : List ℕ → List ℕ → List ℕ → Sections → NewLive → List ℕ
one_image img given newName p n = new_image img given newName p n []

-- the new image is written to the target, or there is no room and nothing is
abbrev pub WritesAll : Copied → Sections → NewLive → List Edit → List ℕ → Result ℕ Refusal → List ℕ → Type 0
WritesAll c p n es old r new = Changes (if_fits (new_image c.img.now c.given.now c.new_name.now p n es) (length old)) old r new

abbrev pub WritesOne : Copied → Sections → NewLive → List ℕ → Result ℕ Refusal → List ℕ → Type 0
WritesOne c p n old r new = WritesAll c p n [] old r new

-- another record of the inode where the records are cut
abbrev pub edit_at : Cut → ℕ → NewRecord → Edit
edit_at c i r = record { inode = i; gap = c.gap; new = r }

abbrev pub replaced_of : Cut → ℕ → NewRecord → NewLive
replaced_of c i r = record { count = count_after c.rows.count c.place true; first = c.rows.first; edit = edit_at c i r }

abbrev pub unchanged_of : Cut → ℕ → NewLive
unchanged_of c i = record { count = c.rows.count; first = c.rows.first; edit = edit_at c i N.Same }
