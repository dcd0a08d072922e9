-- Cutting a rising list at a key.
-- Assumes nothing.
use Rattle.std.specs.Prelude.{None, Option, Some, Result, Ok, Err}
use Rattle.std.specs.Ordering.{is_eq, is_gt}
use mathlib.Core.Path.{◌≡◌, refl, sym, ap, subst, ◌∙◌}
use mathlib.Core.Bool.{true, false}
use mathlib.Core.List.{List, [], ◌∷◌, ◌++◌, append_assoc, append-nil}
use Prim.Native.Nat.{ℕ, ◌+◌, ◌-◌, ◌≤◌, ◌<◌}
use native.Mathlib.Omega.{arith}
use lib.ListN.{length, drop, length-append}
use Rattle.std.specs.declared.cmp.Ordering.{Ordering}
use Rattle.std.specs.declared.cmp.Ordering.TheVariants.{Less, Equal, Greater}
use Rattle.wire.specs.declared.fault.Fault.{Fault}
use Rattle.wire.specs.Order.{Order, reversed, cmp-reversed}
use Rattle.wire.specs.Maps.{Map, get, put, map-ext, get-put}
use Rattle.wire.specs.Rows.{Under, Rising, lookup, choose}
use Rattle.wire.specs.Number.{number_bytes, number_to}
use Rattle.wire.specs.Codec.{Codec}
use Rattle.wire.specs.Lists.{Every, FitsRow, chain_write, row, onto, last_count}
use Rattle.wire.specs.Reading.{Reads}
use Rattle.image.specs.FieldLayout.{listed}
use Rattle.image.specs.Places.{Ends, Holds}
use Rattle.image.specs.Rows.{RowsAt}
use Rattle.image.specs.declared.rows.Rows.{Rows}
use Rattle.image.proofs.Listed.{rows-read}
use Rattle.change.specs.Sections.{Spans}
use Rattle.change.specs.Cuts.{three, rows_below, row_here, rows_above, rows_bytes, under_first, compared, count_after, CutIs, Cuts, CutsList}
use Rattle.change.specs.Edits.{is_there, row_if, edit_rows}
use Rattle.change.specs.declared.cut.Cut.{Cut}
use Rattle.change.proofs.EditRows.{edit-count}
use Rattle.change.proofs.Sections.{span-back, span-front, span-both, span-reads, reads-got, same_Ok, value-is, Past, ends-past}
use Rattle.wire.specs.RowLaws.{lookup-under, under-below}

-- ---- what is written of rows

module _ {K A : Type 0} (O : Order K) (key : Codec K) (value : Codec A) where
  pub chain-rows : (prev : Option K) (l : List (K × A)) → chain_write (row O key value) (onto O key value) prev l ≡ rows_bytes key value l
  unfolding rows_bytes
  chain-rows prev [] = refl
  chain-rows prev (e ∷ l) = ap (λ (t : List ℕ). (key.write e.0 ++ value.write e.1) ++ t) (chain-rows (Some e.0) l)

  pub rows_append : (l m : List (K × A)) → rows_bytes key value (l ++ m) ≡ rows_bytes key value l ++ rows_bytes key value m
  unfolding rows_bytes
  rows_append [] m = refl
  rows_append (e ∷ l) m =
      ap (λ (t : List ℕ). (key.write e.0 ++ value.write e.1) ++ t) (rows_append l m)
      ∙ sym (append_assoc (key.write e.0 ++ value.write e.1) (rows_bytes key value l) (rows_bytes key value m))

-- ---- the loop

module _ {K A : Type 0} (O : Order K) (key : Codec K) (value : Codec A) where
  abbrev bytes_of : List (K × A) → List ℕ
  bytes_of = rows_bytes key value

  abbrev Fit : List (K × A) → Type 0
  Fit = Every (FitsRow O key value)

  -- The loop has come to a row: the ones before it are below the key, `left` are left.
  pub record Come (img : List ℕ) (first : ℕ) (i : K) (here left : ℕ) (l : List (K × A)) (to : ℕ) (rest : List (K × A)) : Type 0 where
    passed : List (K × A)
    below : rows_below O i l ≡ passed ++ rows_below O i rest
    own : row_here O i l ≡ row_here O i rest
    above : rows_above O i l ≡ rows_above O i rest
    before : Spans img first (bytes_of passed) here
    behind : Spans img here (bytes_of rest) to
    many : left ≡ length rest
    fit : Fit rest

  abbrev pub Cutting : List ℕ → ℕ → ℕ → K → ℕ → ℕ → Type 0
  Cutting img first n i here left = (l : List (K × A)) (to : ℕ) → n ≡ length l → Fit l → Spans img first (bytes_of l) to
      → (rest : List (K × A)) × Come img first i here left l to rest

  -- no bytes
  nothing : {img : List ℕ} {n : ℕ} → n ≤ length img → Spans img n (bytes_of []) n
  unfolding rows_bytes
  nothing h = record { is = refl; ends = omega arith; within = h }

  pub cut-start : {img : List ℕ} {first n : ℕ} {i : K} → Cutting img first n i first n
  cut-start l to e f s =
      (l, record { passed = []; below = refl; own = refl; above = refl; before = nothing (omega (arith, s.ends, s.within)); behind = s; many = e; fit = f })

  abbrev no_row : ℕ → ℕ → ℕ → Cut
  no_row n first here = record { rows = record { first = first; count = n }; gap = record { start = here; end = here }; place = None }

  abbrev key_row : ℕ → ℕ → ℕ → ℕ → ℕ → Cut
  key_row n first here next place = record { rows = record { first = first; count = n }; gap = record { start = here; end = next }; place = Some place }

  -- nothing of what is left is at or below the key
  ended : {img : List ℕ} {first n : ℕ} {i : K} {here left : ℕ} {l rest : List (K × A)} {to : ℕ} → n ≡ length l → Come img first i here left l to rest
      → rows_below O i rest ≡ [] → row_here O i rest ≡ [] → rows_above O i rest ≡ rest
      → CutIs O key value img i l to (no_row n first here)
  ended e c b h a = record {
    count = e;
    below = rw (c.below, b, append-nil c.passed) c.before;
    here = rw (c.own, h) (nothing (omega (arith, c.before.within)));
    above = rw (c.above, a) c.behind;
    holds = rw (c.own, h) tt;
    stands = tt;
  }

  module _ {img : List ℕ} {first n : ℕ} {i : K} {here left : ℕ} (w : Cutting img first n i here left) where
    pub cut-end : left ≤ 0 → Cuts O key value img first n i (no_row n first here)
    unfolding rows_below row_here rows_above
    cut-end h = record { from = refl; counts = refl; cut = λ l to e f s. go l to e (w l to e f s).0 (w l to e f s).1 }
      where
        go : (l : List (K × A)) (to : ℕ) → n ≡ length l → (rest : List (K × A)) → Come img first i here left l to rest
            → CutIs O key value img i l to (no_row n first here)
        go l to e [] c = ended e c refl refl refl
        go l to e (r ∷ m) c = absurd (omega (arith, c.many))

  -- ---- the row that the loop is at

  module _ {img : List ℕ} {first : ℕ} {i : K} {here left : ℕ} {l : List (K × A)} {to : ℕ} {r : K × A}
      {m : List (K × A)} (c : Come img first i here left l to (r ∷ m)) where
    abbrev key_bytes : List ℕ
    key_bytes = key.write r.0

    abbrev record_bytes : List ℕ
    record_bytes = value.write r.1

    rows-span : Spans img here ((key_bytes ++ record_bytes) ++ bytes_of m) to
    unfolding rows_bytes
    rows-span = c.behind

    row-span : Spans img here (key_bytes ++ record_bytes) (here + length (key_bytes ++ record_bytes))
    row-span = span-front (key_bytes ++ record_bytes) (bytes_of m) rows-span

    module _ {o : Result (Ordering × ℕ) Fault} (a : Reads img (compared O key i) here o) where
      key-read : o ≡ Ok (O.cmp r.0 i, here + length key_bytes)
      key-read =
          let f = span-front key_bytes record_bytes row-span in
          let back = ap (compared O key i) f.is ∙ rw (key.back r.0 (drop (here + length key_bytes) img) c.fit.0.0) in
          reads-got img back f.within a

      module _ {order : Ordering} {place : ℕ} (d : o ≡ Ok (order, place)) where
        order-is : O.cmp i r.0 ≡ reversed order
        order-is = cmp-reversed O r.0 i ∙ ap (λ (x : Ordering × ℕ). reversed x.0) (same_Ok (sym key-read ∙ d))

        place-is : place ≡ here + length key_bytes
        place-is = ap (λ (x : Ordering × ℕ). x.1) (same_Ok (sym d ∙ key-read))

        module _ {u : Result ℕ Fault} (p : Ends img value.read place u) where
          abbrev RowPast : ℕ → Type 0
          RowPast = Past img (here + length key_bytes) record_bytes (drop (here + length (key_bytes ++ record_bytes)) img)

          value-passed : (q : ℕ) × (u ≡ Ok q) × RowPast q
          value-passed =
              let b = span-back key_bytes record_bytes row-span in
              ends-past value (here + length key_bytes) (omega (arith, b.ends, b.within)) c.fit.0.1 b.is (rw place-is at p)

          module _ {next : ℕ} (y : u ≡ Ok next) where
            record-past : RowPast next
            record-past = let n : next ≡ value-passed.0 = same_Ok (sym y ∙ value-passed.1) in rw n value-passed.2

            row_ends : next ≡ here + length (key_bytes ++ record_bytes)
            row_ends = omega (arith, record-past.spans.ends, length-append key_bytes record_bytes)

            row-to : Spans img here (key_bytes ++ record_bytes) next
            row-to = rw row_ends row-span

            rest-to : Spans img next (bytes_of m) to
            rest-to = rw row_ends (span-back (key_bytes ++ record_bytes) (bytes_of m) rows-span)

            record-span : Spans img place record_bytes next
            record-span = rw place-is record-past.spans

            record-held : Holds img value.read (Some place) (Some r.1)
            record-held = (drop next img, rw (place-is, record-past.spans.is) (value.back r.1 (drop next img) c.fit.0.1))

  is_above : (o : Ordering) → is_gt o ≡ true → reversed o ≡ Less
  is_above Less h = cc
  is_above Equal h = cc
  is_above Greater h = refl

  is_here : (o : Ordering) → is_eq o ≡ true → reversed o ≡ Equal
  is_here Less h = cc
  is_here Equal h = refl
  is_here Greater h = cc

  is_below : (o : Ordering) → is_gt o ≡ false → is_eq o ≡ false → reversed o ≡ Greater
  is_below Less h k = refl
  is_below Equal h k = cc
  is_below Greater h k = cc

  never-err : {B : Type 0} {f : Fault} {x : B} {u : Result B Fault} → u ≡ Err f → u ≡ Ok x → ⊥
  never-err d e = let z : ◌≡◌ {A = ℕ} 0 1 = cc in omega arith

  module _ {img : List ℕ} {first n : ℕ} {i : K} {here left : ℕ} (w : Cutting img first n i here left) (some_left : 0 < left) where
    -- what there is at any row that stands here
    at-row : {r : Cut} → r.rows.first ≡ first → r.rows.count ≡ n
        → ((l : List (K × A)) (to : ℕ) → n ≡ length l → (e : K × A) (m : List (K × A)) → Come img first i here left l to (e ∷ m)
        → CutIs O key value img i l to r)
        → Cuts O key value img first n i r
    at-row {r} from counts h = record { from = from; counts = counts; cut = λ l to e f s. go l to e (w l to e f s).0 (w l to e f s).1 }
      where
        go : (l : List (K × A)) (to : ℕ) → n ≡ length l → (rest : List (K × A)) → Come img first i here left l to rest → CutIs O key value img i l to r
        go l to e [] c = absurd (omega (arith, c.many))
        go l to e (r ∷ m) c = h l to e r m c

    module _ {o : Result (Ordering × ℕ) Fault} (a : Reads img (compared O key i) here o) where
      -- a key that can't be read does not stand there
      pub cut-unread : {f : Fault} → o ≡ Err f → Cuts O key value img first n i (no_row n first here)
      cut-unread d = at-row refl refl (λ l to e r m c. absurd (never-err d (key-read c a)))

      module _ {order : Ordering} {place : ℕ} (d : o ≡ Ok (order, place)) where
        -- the key is below it
        pub cut-over : is_gt order ≡ true → Cuts O key value img first n i (no_row n first here)
        unfolding rows_below row_here rows_above
        cut-over h = at-row refl refl (λ l to e r m c.
            let v : O.cmp i r.0 ≡ Less = order-is c a d ∙ is_above order h in
            ended e c (rw v) (rw v) (rw v))

        module _ {u : Result ℕ Fault} (p : Ends img value.read place u) where
          pub cut-stopped : {f : Fault} → u ≡ Err f → Cuts O key value img first n i (no_row n first here)
          cut-stopped y = at-row refl refl (λ l to e r m c. absurd (never-err y (value-passed c a d p).1))

          module _ {next : ℕ} (y : u ≡ Ok next) where
            -- it is the key's
            pub cut-found : is_eq order ≡ true
                → Cuts O key value img first n i (key_row n first here next place)
            unfolding rows_below row_here rows_above rows_bytes
            cut-found h = at-row refl refl (λ l to e r m c.
                let v : O.cmp i r.0 ≡ Equal = order-is c a d ∙ is_here order h in
                record {
                  count = e;
                  below = rw (c.below, v, append-nil c.passed) c.before;
                  here = rw (c.own, v, append-nil (key_bytes c ++ record_bytes c)) (row-to c a d p y);
                  above = rw (c.above, v) (rest-to c a d p y);
                  holds = rw (c.own, v) (record-held c a d p y);
                  stands = rw (c.own, v) (record-span c a d p y);
                })

            -- the key is above it
            pub cut_on : is_gt order ≡ false → is_eq order ≡ false → Cutting img first n i next (left - 1)
            unfolding rows_below row_here rows_above rows_bytes
            cut_on g h l to e f s = go (w l to e f s).0 (w l to e f s).1
              where
                go : (rest : List (K × A)) → Come img first i here left l to rest → (rest : List (K × A)) × Come img first i next (left - 1) l to rest
                go [] c = absurd (omega (arith, c.many))
                go (r ∷ m) c =
                    let v : O.cmp i r.0 ≡ Greater = order-is c a d ∙ is_below order g h in (
                      m,
                      record {
                        passed = c.passed ++ (r ∷ []);
                        below = c.below ∙ rw v (sym (append_assoc c.passed (r ∷ []) (rows_below O i m)));
                        own = c.own ∙ rw v;
                        above = c.above ∙ rw v;
                        before = rw (rows_append O key value c.passed (r ∷ []), append-nil (key_bytes c ++ record_bytes c))
                            (span-both c.before (row-to c a d p y));
                        behind = rest-to c a d p y;
                        many = omega (arith, c.many);
                        fit = c.fit.1;
                      },
                    )

  -- ---- the whole list

  pub cut_listed : {img : List ℕ} {at : ℕ} {i : K} {r : Cut} {x : Rows} → RowsAt img last_count at x
      → Cuts O key value img x.first x.count i r → CutsList O key value img at i r
  cut_listed {img} {at} {i} {r} {x} h c = record { few = rw c.counts h.few; cut = go }
    where
      go : (m : Map O A) (to : ℕ) → (listed O key value).Fits m → Spans img at ((listed O key value).write m) to → CutIs O key value img i m.rows to r
      go m to f s =
          let head = number_bytes (length m.rows) in
          let w : Spans img at (head ++ bytes_of m.rows) to = subst (λ (t : List ℕ). Spans img at (head ++ t) to) (chain-rows O key value None m.rows) s in
          let o = rows-read h in
          let k = span-reads (number_to last_count refl) (span-front head (bytes_of m.rows) w) (omega (arith, f.count)) o.1 in
          let e : (x.count, x.first) ≡ (length m.rows, at + length head) = value-is (0, 0) k o.2 in
          let e0 : x.count ≡ length m.rows = ap (λ (x : ℕ × ℕ). x.0) e in
          let e1 : x.first ≡ at + length head = ap (λ (x : ℕ × ℕ). x.1) e in
          c.cut m.rows to e0 f.each (rw e1 (span-back head (bytes_of m.rows) w))

-- ---- how many rows there are

module _ {K A : Type 0} (O : Order K) where
  -- the key's row is what stands under it
  pub here-row : (k : K) (l : List (K × A)) → row_here O k l ≡ row_if O k (under_first (row_here O k l))
  unfolding row_here
  here-row k [] = refl
  here-row k (e ∷ l) = go (O.cmp k e.0) refl (here-row k l)
    where
      go : (o : Ordering) → O.cmp k e.0 ≡ o → row_here O k l ≡ row_if O k (under_first (row_here O k l))
          → three o [] (e ∷ []) (row_here O k l) ≡ row_if O k (under_first (three o [] (e ∷ []) (row_here O k l)))
      go Less d h = refl
      go Equal d h = λ j. (sym (O.same k e.0 d) j, e.1) ∷ []
      go Greater d h = h

module _ {K A : Type 0} (O : Order K) (key : Codec K) (value : Codec A) {img : List ℕ} {k : K} {to : ℕ} {l : List (K × A)} {r : Cut}
    (c : CutIs O key value img k l to r) (rising : Rising O l) (es : List (K × Option A)) (u : Under O k es) where
  -- one change more
  pub count-more : (o : Option A) {n : ℕ} → n ≡ length (edit_rows O es l) → count_after n r.place (is_there o) ≡ length (edit_rows O ((k, o) ∷ es) l)
  count-more o {n} e = go r.place o (under_first (row_here O k l)) refl c.holds (edit-count O k o es l u rising)
    where
      here : (x : Option A) → under_first (row_here O k l) ≡ x → length (row_here O k l) ≡ length (row_if O k x)
      here x d = ap length (here-row O k l) ∙ ap (λ (y : Option A). length (row_if O k y)) d

      go : (p : Option ℕ) (o x : Option A) → under_first (row_here O k l) ≡ x → Holds img value.read p x
          → length (edit_rows O ((k, o) ∷ es) l) + length (row_here O k l) ≡ length (edit_rows O es l) + length (row_if O k o)
          → count_after n p (is_there o) ≡ length (edit_rows O ((k, o) ∷ es) l)
      go (Some p) o None d h q = absurd h
      go (Some p) None (Some a) d h q = omega (arith, e, q, here (Some a) d)
      go (Some p) (Some v) (Some a) d h q = omega (arith, e, q, here (Some a) d)
      go None None None d h q = omega (arith, e, q, here None d)
      go None (Some v) None d h q = omega (arith, e, q, here None d)
      go None o (Some a) d h q = absurd h

  -- what stands under the key stands there again
  pub count_same : length (edit_rows O ((k, under_first (row_here O k l)) ∷ es) l) ≡ length (edit_rows O es l)
  count_same = omega (arith, edit-count O k (under_first (row_here O k l)) es l u rising, ap length (here-row O k l))

-- ---- what stands under a key

module _ {K A : Type 0} (O : Order K) where
  lookup-here : (k : K) (l : List (K × A)) → Rising O l → lookup O k l ≡ under_first (row_here O k l)
  unfolding lookup row_here
  lookup-here k [] r = refl
  lookup-here k (e ∷ l) r = go (O.cmp k e.0) refl (lookup-here k l r.1)
    where
      go : (o : Ordering) → O.cmp k e.0 ≡ o → lookup O k l ≡ under_first (row_here O k l)
          → choose o (Some e.1) (lookup O k l) ≡ under_first (three o [] (e ∷ []) (row_here O k l))
      go Less d h = lookup-under O k l (under-below O k e.0 l d r.0)
      go Equal d h = refl
      go Greater d h = h

  pub get-here : (k : K) (m : Map O A) → get O k m ≡ under_first (row_here O k m.rows)
  unfolding get
  get-here k m = lookup-here k m.rows m.rising

-- what stands under a key is put there again
pub put_same : {K A : Type 0} (O : Order K) (k : K) (o : Option A) (m : Map O A) → get O k m ≡ o → put O k o m ≡ m
put_same {K} {A} O k o m e = map-ext O (put O k o m) m (λ j. get-put O j k o m ∙ go j (O.cmp j k) refl)
  where
    go : (j : K) (d : Ordering) → O.cmp j k ≡ d → choose d o (get O j m) ≡ get O j m
    go j Less h = refl
    go j Equal h = sym e ∙ ap (λ (x : K). get O x m) (sym (O.same j k h))
    go j Greater h = refl
