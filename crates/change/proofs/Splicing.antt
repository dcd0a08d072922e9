-- An image with pieces replaced is what is written of the list with the changes put.
-- Assumes nothing.
use Rattle.std.specs.Prelude.{None, Option}
use mathlib.Core.Path.{◌≡◌, refl, sym, ap, ◌∙◌}
use mathlib.Core.List.{List, [], ◌∷◌, ◌++◌, append_assoc}
use Prim.Native.Nat.{ℕ, ◌+◌}
use native.Mathlib.Omega.{arith}
use lib.ListN.{length, length-append}
use Rattle.std.specs.declared.cmp.Ordering.TheVariants.{Less}
use Rattle.wire.specs.Order.{Order}
use Rattle.wire.specs.Codec.{Codec}
use Rattle.wire.specs.Number.{number_bytes}
use Rattle.wire.specs.Maps.{Map}
use Rattle.wire.specs.Rows.{Rising}
use Rattle.image.specs.FieldLayout.{listed}
use Rattle.change.specs.Sections.{Spans}
use Rattle.change.specs.Cuts.{rows_below, row_here, rows_above, rows_bytes, CutIs}
use Rattle.change.specs.Edits.{row_if, edit_rows, put_all}
use Rattle.change.specs.Splices.{Piece, spliced, Pieces, Splices}
use Rattle.change.specs.declared.cut.Cut.{Cut}
use Rattle.change.proofs.Sections.{span-part, span-back, span-both}
use Rattle.change.proofs.Cutting.{chain-rows, rows_append}
use Rattle.change.proofs.EditRows.{put-rows, cut-behind}

pub three-first : (a b c t : List ℕ) → a ++ (b ++ (c ++ t)) ≡ (a ++ (b ++ c)) ++ t
three-first a b c t = simp append_assoc

module _ {K A : Type 0} (O : Order K) (key : Codec K) (value : Codec A) (img : List ℕ) where
  pieces-bytes : (from : ℕ) (l : List (K × A)) (t : List ℕ) (to : ℕ) (ps : List Piece) (es : List (K × Option A)) → Pieces O key value img from l t to ps es
      → spliced img from ps to ≡ rows_bytes key value (edit_rows O es l) ++ t
  unfolding spliced Pieces edit_rows
  pieces-bytes from l t to [] [] h = span-part h
  pieces-bytes from l t to [] (e ∷ es) h = absurd h
  pieces-bytes from l t to (p ∷ ps) [] h = absurd h
  pieces-bytes from l t to (p ∷ ps) (e ∷ es) h =
      let b = rows_below O e.0 l in
      let n = row_if O e.0 e.1 in
      let x = edit_rows O es (rows_above O e.0 l) in
      let i = pieces-bytes p.after (rows_above O e.0 l) t to ps es h.1.1 in
      let y = span-part h.0 in
      (λ j. y j ++ (h.1.0 j ++ i j))
      ∙ three-first (rows_bytes key value b) (rows_bytes key value n) (rows_bytes key value x) t
      ∙ ap (λ (s : List ℕ). s ++ t) (sym (rows_append O key value b (n ++ x) ∙ ap (λ (s : List ℕ). rows_bytes key value b ++ s) (rows_append O key value n x)))

module _ {K A : Type 0} (O : Order K) (key : Codec K) (value : Codec A) where
  -- the list with the changes, its count first
  pub splices-bytes : {img : List ℕ} {m : Map O A} {t : List ℕ} {to count first : ℕ} {ps : List Piece} {es : List (K × Option A)}
      → Splices O key value img m t to count first ps es
      → number_bytes count ++ spliced img first ps to ≡ (listed O key value).write (put_all O es m) ++ t
  splices-bytes {img} {m} {t} {to} {count} {first} {ps} {es} s =
      let r = put-rows O es m s.rising in
      let w = chain-rows O key value None (put_all O es m).rows ∙ ap (rows_bytes key value) r in
      let b = pieces-bytes O key value img first m.rows t to ps es s.pieces in
      (λ j. number_bytes (s.counts j) ++ b j)
      ∙ sym (append_assoc (number_bytes (length (edit_rows O es m.rows))) (rows_bytes key value (edit_rows O es m.rows)) t)
      ∙ sym (λ j. (number_bytes (length (r j)) ++ w j) ++ t)

-- ---- pieces by cuts

abbrev pub piece_at : Cut → List ℕ → Piece
piece_at c bytes = record { row = c.gap.start; after = c.gap.end; bytes = bytes }

-- the second cut of a list, from the first on, where n rows are left
abbrev pub behind : Cut → Cut → ℕ → Cut
behind a b n = record { rows = record { first = a.gap.end; count = n }; gap = b.gap; place = b.place }

module _ {K A : Type 0} (O : Order K) (key : Codec K) (value : Codec A) {img : List ℕ} {l : List (K × A)} {mid : ℕ} where
  -- the last change: behind it the rows go on as they are, and then t
  pub piece-last : {t : List ℕ} {to : ℕ} {k : K} (o : Option A) {cut : Cut} (bytes : List ℕ) → CutIs O key value img k l mid cut → Spans img mid t to
      → bytes ≡ rows_bytes key value (row_if O k o) → Pieces O key value img cut.rows.first l t to (piece_at cut bytes ∷ []) ((k, o) ∷ [])
  unfolding Pieces
  piece-last o bytes c e b = (c.below, (b, span-both c.above e))

  -- a change with others behind it
  pub piece-more : (t : List ℕ) (to : ℕ) {k : K} (o : Option A) {cut : Cut} (bytes : List ℕ) (ps : List Piece) (es : List (K × Option A))
      → CutIs O key value img k l mid cut → bytes ≡ rows_bytes key value (row_if O k o) → Pieces O key value img cut.gap.end (rows_above O k l) t to ps es
      → Pieces O key value img cut.rows.first l t to (piece_at cut bytes ∷ ps) ((k, o) ∷ es)
  unfolding Pieces
  piece-more t to o bytes ps es c b h = (c.below, (b, h))

  -- a list cut at two keys, the second above the first, is cut at the second behind the first
  pub cut_again : {j k : K} {a b : Cut} → Rising O l → O.cmp j k ≡ Less → a.rows.first ≡ b.rows.first → CutIs O key value img j l mid a
      → CutIs O key value img k l mid b
      → CutIs O key value img k (rows_above O j l) mid (behind a b (length (rows_above O j l)))
  cut_again {j} {k} {a} {b} r lt e c d =
      let z = cut-behind O j k lt l r in
      let x = rows_bytes key value (rows_below O j l) in
      let y = rows_bytes key value (row_here O j l) in
      let w : rows_bytes key value (rows_below O k l) ≡ (x ++ y) ++ rows_bytes key value (rows_below O k (rows_above O j l)) =
      ap (rows_bytes key value) z.0 ∙ rows_append O key value (rows_below O j l) (row_here O j l ++ rows_below O k (rows_above O j l))
      ∙ ap (λ (t : List ℕ). x ++ t) (rows_append O key value (row_here O j l) (rows_below O k (rows_above O j l)))
      ∙ sym (append_assoc x y (rows_bytes key value (rows_below O k (rows_above O j l)))) in
      let v = span-back (x ++ y) (rows_bytes key value (rows_below O k (rows_above O j l))) (rw w at d.below) in
      let n : b.rows.first + length (x ++ y) ≡ a.gap.end = omega (arith, e, c.below.ends, c.here.ends, length-append x y) in
      record {
        count = refl;
        below = rw n at v;
        here = rw z.1.0 d.here;
        above = rw z.1.1 d.above;
        holds = rw z.1.0 d.holds;
        stands = rw z.1.0 d.stands;
      }
