-- A list by name with the row of one name changed.
-- Assumes nothing.
use Rattle.std.specs.Prelude.{None, Option, Some}
use mathlib.Core.Path.{◌≡◌, refl, sym, ap, ◌∙◌}
use mathlib.Core.Bool.{Bool, true, false, cond}
use mathlib.Core.List.{List, [], ◌∷◌, ◌++◌, append-nil}
use Rattle.std.specs.declared.cmp.Ordering.{Ordering}
use Rattle.std.specs.declared.cmp.Ordering.TheVariants.{Less, Equal, Greater}
use Prim.Native.Nat.{ℕ, ◌+◌, ◌-◌, ◌≤◌, ◌<◌, min}
use native.Mathlib.Omega.{arith}
use lib.Dec.{ltb}
use borrow.Author.Tests.{le-leb, lt-leb, ltb-true, ltb-false}
use lib.ListN.{length, drop, length-append, length-drop}
use Rattle.wire.specs.Orders.{by_bytes}
use Rattle.wire.specs.Maps.{Map, empty, over, get, put, get-put, map-ext}
use Rattle.wire.specs.Parse.{Parsed}
use Rattle.wire.specs.Number.{edge, number_bytes}
use Rattle.wire.specs.Text.{text_bytes}
use Rattle.image.specs.Meaning.{Text}
use Rattle.image.specs.declared.name.Under.{Under as Sort}
use Rattle.image.specs.FieldLayout.{name}
use Rattle.image.specs.Under.{UnderName, under}
use Rattle.image.specs.Places.{Holds}
use Rattle.nodes.specs.Listed.{by_name, list_at, ListedIf}
use Rattle.wire.specs.declared.part.Part.{Part}
use Rattle.writers.proofs.Writing.{list_written}
use Rattle.rules.specs.Asks.{bad_name}
use Rattle.change.specs.Sections.{between, Spans}
use Rattle.change.specs.Cuts.{rows_below, row_here, rows_above, rows_bytes, count_after, CutIs, CutsList}
use Rattle.change.specs.Edits.{is_there, row_if, edit_rows}
use Rattle.change.specs.Splices.{Piece, spliced}
use Rattle.overlay.specs.NewLists.{row_bytes, kept_of, gap_piece, changed_bytes, list_bytes}
use Rattle.overlay.specs.Directories.{list_or}
use Rattle.directory.specs.Entries.{has_row, changed_rows, stays_absent, cut_list, StandsFor, HasName, RowChanged}
use Rattle.change.specs.declared.cut.Cut.{Cut}
use Rattle.overlay.specs.declared.list.NewRow.{NewRow}
use Rattle.overlay.specs.declared.list.NewRow.TheVariants as R
use Rattle.overlay.specs.declared.list.NewList.TheVariants as L
use Rattle.change.proofs.Cutting.{get-here, count-more}
use Rattle.change.proofs.Splicing.{piece_at, splices-bytes, piece-last, piece-more, cut_again}
use Rattle.image.proofs.OneForm.{name-one, under-one, listed-one}

-- ---- "3 if a name isn't 1 to 255 bytes"

module _ (name : Text) where
  pub empty-bad : length name < 1 → true ≡ bad_name name
  empty-bad h = rw (lt-leb 1 (length name) h)

  pub long-bad : 1 ≤ length name → ltb 255 (length name) ≡ bad_name name
  long-bad h = go (ltb 255 (length name)) refl
    where
      go : (b : Bool) → ltb 255 (length name) ≡ b → b ≡ bad_name name
      go true e = rw (le-leb 1 (length name) h, lt-leb (length name) 255 (ltb-true 255 (length name) e))
      go false e = rw (le-leb 1 (length name) h, le-leb (length name) 255 (ltb-false 255 (length name) e))

-- ---- the name's own row

row_written : (u : Sort) (k : Text) (given newName : List ℕ) (new : NewRow) (o : Option (UnderName u)) → HasName given newName new k → StandsFor u new o
    → row_bytes given newName new ≡ rows_bytes name (under u) (row_if by_bytes k o)
unfolding rows_bytes
row_written u k given newName R.Absent None e h = refl
row_written u k given newName R.Absent (Some v) e h = absurd h
row_written u k given newName R.Name None e h = absurd h
row_written u k given newName R.Name (Some v) e h = rw (e, h, append-nil (text_bytes k ++ []), append-nil (text_bytes k))
row_written u k given newName (R.Entry n) None e h = absurd h
row_written u k given newName (R.Entry n) (Some v) e h = rw (e, h, append-nil (text_bytes k ++ number_bytes n))

row-there : (u : Sort) (new : NewRow) (o : Option (UnderName u)) → StandsFor u new o → has_row new ≡ is_there o
row-there u R.Absent None h = refl
row-there u R.Absent (Some v) h = absurd h
row-there u R.Name None h = absurd h
row-there u R.Name (Some v) h = refl
row-there u (R.Entry n) None h = absurd h
row-there u (R.Entry n) (Some v) h = refl

pub own_name : (k : Text) (new : NewRow) → HasName k k new k
own_name k R.Absent = tt
own_name k R.Name = refl
own_name k (R.Entry n) = refl

-- ---- gaps that are empty

no_bytes : (img : List ℕ) (at : ℕ) → between img at at ≡ []
no_bytes img at = let z : at - at ≡ 0 = omega arith in rw z

below-empty : (img : List ℕ) (from : ℕ) (ps : List Piece) (to : ℕ)
    → spliced img from (gap_piece (record { start = from; end = from }) ∷ ps) to ≡ spliced img from ps to
unfolding spliced
below-empty img from ps to = rw (no_bytes img from)

above-empty : (img : List ℕ) (from : ℕ) (p : Piece) (to : ℕ)
    → spliced img from (p ∷ (gap_piece (record { start = to; end = to }) ∷ [])) to ≡ spliced img from (p ∷ []) to
unfolding spliced
above-empty img from p to = rw (no_bytes img to, append-nil (between img p.after to))

-- ---- the list with another row

module _ (u : Sort) {img : List ℕ} {to : ℕ} (m : Map by_bytes (UnderName u)) where
  none-behind : {k : Text} {cut : Cut} → CutIs by_bytes name (under u) img k m.rows to cut → Spans img to [] to
  none-behind c = record { is = refl; ends = omega arith; within = c.above.within }

  one-changed : {k : Text} {cut : Cut} (new : NewRow) → CutIs by_bytes name (under u) img k m.rows to cut → (given newName : List ℕ)
      → HasName given newName new k → (o : Option (UnderName u)) → StandsFor u new o
      → changed_bytes img given newName (changed_rows cut to new) ≡ (by_name u).write (put by_bytes k o m)
  unfolding over edit_rows
  one-changed {k} {cut} new c given newName e o h =
      let n = number_bytes (count_after cut.rows.count cut.place (has_row new)) in
      let x = row_bytes given newName new in
      let counts = ap (count_after cut.rows.count cut.place) (row-there u new o h) ∙ count-more by_bytes name (under u) c m.rising [] tt o c.count in
      ap (λ (s : List ℕ). n ++ s) (below-empty img cut.rows.first (piece_at cut x ∷ (gap_piece (record { start = to; end = to }) ∷ [])) to)
      ∙ ap (λ (s : List ℕ). n ++ s) (above-empty img cut.rows.first (piece_at cut x) to)
      ∙ splices-bytes by_bytes name (under u)
      (record {
        rising = (tt, tt);
        counts = counts;
        pieces = piece-last by_bytes name (under u) o x c (none-behind c) (row_written u k given newName new o e h);
      })
      ∙ append-nil ((by_name u).write (put by_bytes k o m))

  -- the same with the rows of two names changed, the lesser first; for rename
  pub two-changed : {j k : Text} {a b : Cut} (x y : List ℕ) (n : ℕ) (o p : Option (UnderName u)) → by_bytes.cmp j k ≡ Less
      → CutIs by_bytes name (under u) img j m.rows to a → CutIs by_bytes name (under u) img k m.rows to b → a.rows.first ≡ b.rows.first
      → n ≡ count_after (count_after b.rows.count b.place (is_there p)) a.place (is_there o)
      → x ≡ rows_bytes name (under u) (row_if by_bytes j o) → y ≡ rows_bytes name (under u) (row_if by_bytes k p)
      → number_bytes n ++ spliced img a.rows.first (piece_at a x ∷ (piece_at b y ∷ [])) to ≡ (by_name u).write (put by_bytes j o (put by_bytes k p m))
  unfolding over edit_rows
  two-changed {j} {k} {a} {b} x y n o p lt c d same en ex ey =
      let last = count-more by_bytes name (under u) d m.rising [] tt p d.count in
      let both = count-more by_bytes name (under u) c m.rising ((k, p) ∷ []) (lt, tt) o last in
      let behind-first = cut_again by_bytes name (under u) m.rising lt same c d in
      splices-bytes by_bytes name (under u)
      (record {
        rising = ((lt, tt), (tt, tt));
        counts = en ∙ both;
        pieces = piece-more by_bytes name (under u) [] to o x (piece_at b y ∷ []) ((k, p) ∷ []) c ex
            (piece-last by_bytes name (under u) p y behind-first (none-behind c) ey);
      })
      ∙ append-nil ((by_name u).write (put by_bytes j o (put by_bytes k p m)))

-- ---- the list as it is

pub kept-bytes : (img given newName : List ℕ) (u : Sort) (list : Option Part) (end : ℕ) → ListedIf img u list end
    → list_bytes img given newName (kept_of list) ≡ (by_name u).write (list_or img u list)
unfolding empty
kept-bytes img given newName u (Some p) end h = list_written u h
kept-bytes img given newName u None end h = sym (append-nil (number_bytes 0))

put-absent : {A : Type 0} (k : Text) (m : Map by_bytes A) → get by_bytes k m ≡ None → put by_bytes k None m ≡ m
put-absent k m e = map-ext by_bytes (put by_bytes k None m) m (λ j. go j (by_bytes.cmp j k) refl)
  where
    go : (j : Text) (d : Ordering) → by_bytes.cmp j k ≡ d → get by_bytes j (put by_bytes k None m) ≡ get by_bytes j m
    go j Less h = rw (get-put, h)
    go j Greater h = rw (get-put, h)
    go j Equal h = rw (get-put, h, by_bytes.same j k h, e)

not_there : {A : Type 0} (o : Option A) → is_there o ≡ false → o ≡ None
not_there None h = refl
not_there (Some a) h = cc

-- a name that has no row before and none afterwards
module _ {A : Type 0} (img : List ℕ) (read : List ℕ → Parsed A) where
  absent-before : (place : Option ℕ) (new : NewRow) (x : Option A) → Holds img read place x → stays_absent place new ≡ true → x ≡ None
  absent-before (Some p) new x h e = cc
  absent-before None new None h e = refl
  absent-before None new (Some a) h e = absurd h

absent-after : (place : Option ℕ) (new : NewRow) → stays_absent place new ≡ true → has_row new ≡ false
absent-after (Some p) new e = cc
absent-after None R.Absent e = refl
absent-after None R.Name e = cc
absent-after None (R.Entry n) e = cc

module _ (u : Sort) {img : List ℕ} (list : Option Part) {end : ℕ} (l : ListedIf img u list end) {k : Text} {cut : Cut}
    (c : CutIs by_bytes name (under u) img k (list_or img u list).rows end cut) where
  list-changed : (new : NewRow) (given newName : List ℕ) → HasName given newName new k → (o : Option (UnderName u)) → StandsFor u new o
      → list_bytes img given newName (cut_list list cut end new) ≡ (by_name u).write (put by_bytes k o (list_or img u list))
  list-changed new given newName e o h = go (stays_absent cut.place new) refl
    where
      m : Map by_bytes (UnderName u)
      m = list_or img u list

      go : (b : Bool) → stays_absent cut.place new ≡ b
          → list_bytes img given newName (cond b (kept_of list) (L.Changed (changed_rows cut end new))) ≡ (by_name u).write (put by_bytes k o m)
      go false d = one-changed u m new c given newName e o h
      go true d =
          let before = get-here by_bytes k m ∙ absent-before img (under u).read cut.place new _ c.holds d in
          let after = not_there o (sym (row-there u new o h) ∙ absent-after cut.place new d) in
          kept-bytes img given newName u list end l
          ∙ ap (by_name u).write (sym (put-absent k m before) ∙ ap (λ (x : Option (UnderName u)). put by_bytes k x m) (sym after))

pub some-changed : {u : Sort} {img : List ℕ} {k : Text} {cut : Cut} {new : NewRow} {p : Part} {e : ℕ}
    → CutsList by_bytes name (under u) img p.start k cut → e ≡ min (p.start + p.length) edge
    → RowChanged img u (Some p) k new (cut_list (Some p) cut e new)
some-changed {u} {img} {k} {cut} {new} {p} {e} c d = record {
  writes = λ short end h given newName x o stands.
      let m = list_at img u p in
      let rest = drop end img in
      let f = (listed-one by_bytes name (under u) name-one (under-one u)).forth (drop p.start img) m rest h.is in
      let n = length-append ((by_name u).write m) rest in
      let z : e ≡ end = omega (arith, h.ends, h.inside) in
      let s : Spans img p.start ((by_name u).write m) end = record {
        is = f.0;
        ends = omega (arith, ap length f.0, n, length-drop p.start img, length-drop end img, h.inside, h.ends);
        within = h.inside;
      } in
      rw z (list-changed u (Some p) h (c.cut m end f.1 s) new given newName x o stands);
}

abbrev nowhere : Cut
nowhere = record { rows = record { first = 0; count = 0 }; gap = record { start = 0; end = 0 }; place = None }

pub none-changed : {u : Sort} {img : List ℕ} {k : Text} {new : NewRow} → RowChanged img u None k new (cut_list None nowhere 0 new)
unfolding empty rows_below row_here rows_above rows_bytes
none-changed {u} {img} {k} {new} = record {
  writes = λ short end h given newName x o stands.
      let s : Spans img 0 [] 0 = record { is = refl; ends = refl; within = omega arith } in
      list-changed u None {end = 0} tt {cut = nowhere} (record { count = refl; below = s; here = s; above = s; holds = tt; stands = tt })
      new given newName x o stands;
}
