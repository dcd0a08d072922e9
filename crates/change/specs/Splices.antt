-- An image with pieces replaced: what stands from `row` to `after` gives way to other bytes, and all else is copied.
use Rattle.std.specs.Prelude.{◌≡◌, List, [], ◌∷◌, ◌++◌, ℕ, length, Option}
use Rattle.wire.specs.Order.{Order}
use Rattle.wire.specs.Codec.{Codec}
use Rattle.wire.specs.Maps.{Map}
use Rattle.wire.specs.Rows.{Rising}
use Rattle.change.specs.Sections.{between, Spans}
use Rattle.change.specs.Cuts.{rows_below, rows_above, rows_bytes}
use Rattle.change.specs.Edits.{row_if, edit_rows}

pub record Piece : Type 0 where
  pub row : ℕ
  pub after : ℕ
  pub bytes : List ℕ

-- the image from one place to another, with these pieces replaced
unfoldable pub spliced : List ℕ → ℕ → List Piece → ℕ → List ℕ
spliced img from [] to = between img from to
spliced img from (p ∷ ps) to = between img from p.row ++ (p.bytes ++ spliced img p.after ps to)

module _ {K A : Type 0} (O : Order K) (key : Codec K) (value : Codec A) (img : List ℕ) where
  -- one piece for each change: up to it stand the rows below the key, it spells the key's row, and behind it go on the rows above;
  -- what stands behind all the rows is t
  unfoldable pub Pieces : ℕ → List (K × A) → List ℕ → ℕ → List Piece → List (K × Option A) → Type 0
  Pieces from l t to [] [] = Spans img from (rows_bytes key value l ++ t) to
  Pieces from l t to [] (e ∷ es) = ⊥
  Pieces from l t to (p ∷ ps) [] = ⊥
  Pieces from l t to (p ∷ ps) (e ∷ es) =
      Spans img from (rows_bytes key value (rows_below O e.0 l)) p.row
      × ((p.bytes ≡ rows_bytes key value (row_if O e.0 e.1)) × Pieces p.after (rows_above O e.0 l) t to ps es)

  -- a list, its rows from `first` on, with these changes: how many rows it has then, and its pieces
  pub record Splices (m : Map O A) (t : List ℕ) (to count first : ℕ) (ps : List Piece) (es : List (K × Option A)) : Type 0 where
    pub rising : Rising O es
    pub counts : count ≡ length (edit_rows O es m.rows)
    pub pieces : Pieces first m.rows t to ps es
