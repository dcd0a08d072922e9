-- Where a rising list is cut to change what stands under one key: the rows below the key, its own, those above.
use Rattle.std.specs.Prelude.{◌≡◌, Bool, true, false, List, [], ◌∷◌, ◌++◌, ℕ, ◌+◌, ◌-◌, ◌≤◌, length, None, Option, Some}
use Rattle.std.specs.declared.cmp.Ordering.{Ordering}
use Rattle.std.specs.declared.cmp.Ordering.TheVariants.{Less, Equal, Greater}
use Rattle.wire.specs.Parse.{Parsed, got, bind}
use Rattle.wire.specs.Order.{Order}
use Rattle.wire.specs.Orders.{by_number}
use Rattle.wire.specs.Codec.{Codec}
use Rattle.wire.specs.Lists.{Every, FitsRow, last_count}
use Rattle.wire.specs.Maps.{Map}
use Rattle.image.specs.FieldLayout.{inode, listed}
use Rattle.image.specs.RecordLayout.{layer_record}
use Rattle.image.specs.Places.{Holds}
use Rattle.change.specs.Sections.{Spans}
use Rattle.change.specs.declared.cut.Cut.{Cut}

abbrev pub three : {X : Type 0} → Ordering → X → X → X → X
three Less a b c = a
three Equal a b c = b
three Greater a b c = c

module _ {K A : Type 0} (O : Order K) where
  unfoldable pub rows_below : K → List (K × A) → List (K × A)
  rows_below k [] = []
  rows_below k (e ∷ l) = three (O.cmp k e.0) [] [] (e ∷ rows_below k l)

  unfoldable pub row_here : K → List (K × A) → List (K × A)
  row_here k [] = []
  row_here k (e ∷ l) = three (O.cmp k e.0) [] (e ∷ []) (row_here k l)

  unfoldable pub rows_above : K → List (K × A) → List (K × A)
  rows_above k [] = []
  rows_above k (e ∷ l) = three (O.cmp k e.0) (e ∷ l) l (rows_above k l)

module _ {K A : Type 0} (key : Codec K) (value : Codec A) where
  -- what is written of rows, without their count
  unfoldable pub rows_bytes : List (K × A) → List ℕ
  rows_bytes [] = []
  rows_bytes (e ∷ l) = (key.write e.0 ++ value.write e.1) ++ rows_bytes l

-- how a key stands to k, read where the key stands
abbrev pub compared : {K : Type 0} → Order K → Codec K → K → List ℕ → Parsed Ordering
compared O key k s = bind (key.read s) (λ j r. got (O.cmp j k) r)

-- how many rows there are, once the key has one or none
abbrev pub count_after : ℕ → Option ℕ → Bool → ℕ
count_after n (Some p) true = n
count_after n (Some p) false = n - 1
count_after n None true = n + 1
count_after n None false = n

-- what stands under the first key
abbrev pub under_first : {K A : Type 0} → List (K × A) → Option A
under_first [] = None
under_first (e ∷ l) = Some e.1

module _ {K A : Type 0} (O : Order K) (key : Codec K) (value : Codec A) (img : List ℕ) where
  -- what stands under the key's row is from its place to the next row
  abbrev pub StandsAt : Option ℕ → List (K × A) → ℕ → Type 0
  StandsAt (Some p) [] to = Unit {0}
  StandsAt (Some p) (e ∷ l) to = Spans img p (value.write e.1) to
  StandsAt None l to = Unit {0}

  -- rows that end at `to`, cut at a key
  pub record CutIs (k : K) (l : List (K × A)) (to : ℕ) (r : Cut) : Type 0 where
    pub count : r.rows.count ≡ length l
    pub below : Spans img r.rows.first (rows_bytes key value (rows_below O k l)) r.gap.start
    pub here : Spans img r.gap.start (rows_bytes key value (row_here O k l)) r.gap.end
    pub above : Spans img r.gap.end (rows_bytes key value (rows_above O k l)) to
    pub holds : Holds img value.read r.place (under_first (row_here O k l))
    pub stands : StandsAt r.place (row_here O k l) r.gap.end

  -- n rows from `first` on, if they stand there
  pub record Cuts (first n : ℕ) (k : K) (r : Cut) : Type 0 where
    pub from : r.rows.first ≡ first
    pub counts : r.rows.count ≡ n
    pub cut : (l : List (K × A)) (to : ℕ) → n ≡ length l → Every (FitsRow O key value) l → Spans img first (rows_bytes key value l) to → CutIs k l to r

  -- a list, its count first, if it stands there
  pub record CutsList (at : ℕ) (k : K) (r : Cut) : Type 0 where
    pub few : r.rows.count ≤ last_count
    pub cut : (m : Map O A) (to : ℕ) → (listed O key value).Fits m → Spans img at ((listed O key value).write m) to → CutIs k m.rows to r

-- the records of a layer
abbrev pub CutsRecords : List ℕ → ℕ → ℕ → Cut → Type 0
CutsRecords img = CutsList by_number inode layer_record img
