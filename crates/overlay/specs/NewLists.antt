-- Lists by name with the row of a name changed: parts of the old image, and what is new.
use Rattle.wire.specs.declared.part.Part.{Part}
use Rattle.std.specs.Prelude.{List, [], ◌∷◌, ◌++◌, ℕ, None, Option, Some}
use Rattle.wire.specs.Number.{number_bytes}
use Rattle.wire.specs.Text.{text_bytes}
use Rattle.nodes.specs.Options.{text_at}
use Rattle.change.specs.Splices.{Piece, spliced}
use Rattle.change.specs.declared.cut.Gap.{Gap}
use Rattle.std.specs.Borrow.{Bor}
use Rattle.overlay.specs.declared.list.Copied.{Copied}
use Rattle.overlay.specs.declared.list.NewRow.{NewRow}
use Rattle.overlay.specs.declared.list.NewRow.TheVariants as R
use Rattle.overlay.specs.declared.list.NewRows.{NewRows}
use Rattle.overlay.specs.declared.list.NewList.{NewList}
use Rattle.overlay.specs.declared.list.NewList.TheVariants as L

-- with what was given as the name of an entry too
abbrev pub copied_of : Bor (List ℕ) → Bor (List ℕ) → Copied
copied_of img given = record { img = img; given = given; new_name = given }

-- the row of a name: none, the name given alone, the new name and an inode
abbrev pub row_bytes : List ℕ → List ℕ → NewRow → List ℕ
row_bytes given newName R.Absent = []
row_bytes given newName R.Name = text_bytes given
row_bytes given newName (R.Entry inode) = text_bytes newName ++ number_bytes inode

abbrev pub kept_of : Option Part → NewList
kept_of (Some p) = L.Kept p
kept_of None = L.Empty

-- nothing in place of what stands there
abbrev pub gap_piece : Gap → Piece
gap_piece g = record { row = g.start; after = g.end; bytes = [] }

module _ (img given newName : List ℕ) where
  abbrev pub row_piece : NewRows → Piece
  row_piece n = record { row = n.gap.start; after = n.gap.end; bytes = row_bytes given newName n.new }

  abbrev pub changed_bytes : NewRows → List ℕ
  changed_bytes n = number_bytes n.count ++ spliced img n.first (gap_piece n.lower ∷ (row_piece n ∷ (gap_piece n.upper ∷ []))) n.end

  abbrev pub list_bytes : NewList → List ℕ
  list_bytes L.Empty = number_bytes 0
  list_bytes (L.Kept p) = text_at img p
  list_bytes (L.Changed n) = changed_bytes n
