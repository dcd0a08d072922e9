-- Two lists of attribute changes merged. Document 01: "attribute by attribute".
use Rattle.wire.specs.declared.part.Part.{Part}
use Rattle.std.specs.Prelude.{◌≡◌, List, [], ◌∷◌, ◌++◌, ℕ, zero, suc, ◌+◌, ◌<◌, ◌≤◌, length, drop, None, Option, Some}
use Rattle.wire.specs.Parse.{Parsed, fault, got}
use Rattle.wire.specs.Order.{Order}
use Rattle.wire.specs.Orders.{by_bytes}
use Rattle.wire.specs.Number.{number_bytes, number_read}
use Rattle.wire.specs.Lists.{last_count}
use Rattle.wire.specs.Put.{Put}
use Rattle.image.specs.Meaning.{Text}
use Rattle.image.specs.Masks.{maybe}
use Rattle.image.specs.FieldLayout.{name, value}
use Rattle.nodes.specs.Options.{text_at}
use Rattle.records.specs.Records.{list_bytes}
use Rattle.change.specs.Sections.{between}
use Rattle.change.specs.Cuts.{rows_below, rows_above, rows_bytes}
use Rattle.std.specs.Borrow.{Bor}
use Rattle.meld.specs.declared.left.Left.{Left}
use Rattle.meld.specs.declared.left.Both.{Both}
use Rattle.meld.specs.declared.row.Row.{Row}
use Rattle.wire.specs.declared.put.Written.{Written}

-- ---- rows

-- the rows of two rising lists; where both have a key, the row of the first
module _ {K A : Type 0} (O : Order K) where
  unfoldable pub melded : List (K × A) → List (K × A) → List (K × A)
  melded [] old = old
  melded (e ∷ new) old = rows_below O e.0 old ++ (e ∷ melded new (rows_above O e.0 old))

-- "each is name, then 0 removed or 1 and value"
abbrev pub ChangeRow : Type 0
ChangeRow = Text × Option Text

abbrev pub change_bytes : ChangeRow → List ℕ
change_bytes e = name.write e.0 ++ (maybe value).write e.1

-- rows end where nothing more is read
abbrev pub or_end : {A X : Type 0} → Parsed A → (A → List ℕ → List X) → List X
or_end (fault f) g = []
or_end (got a r) g = g a r

-- n rows, or as many as are read
unfoldable pub rows_read : ℕ → List ℕ → List ChangeRow
rows_read zero s = []
rows_read (suc n) s = or_end (name.read s) (λ k r. or_end ((maybe value).read r) (λ v q. (k, v) ∷ rows_read n q))

abbrev pub rows_in : Left → List ChangeRow
rows_in l = rows_read l.rows.count (drop l.rows.first l.bytes.now)

-- those of a list, its count first
abbrev pub rows_at : List ℕ → ℕ → List ChangeRow
rows_at bytes p = or_end (number_read last_count (drop p bytes)) rows_read

-- ---- what the code answers

-- the rows of the list at a place
pub record RowsFrom (bytes : List ℕ) (at : ℕ) (r : Left) : Type 0 where
  pub bytes_are : r.bytes.now ≡ bytes
  pub few : r.rows.count ≤ last_count
  pub are : rows_in r ≡ rows_at bytes at

-- this row is the first, with its bytes, and then the rows after it: they begin where it ends, in the same bytes
pub record Leads (l : Left) (r : Row) : Type 0 where
  pub change : Option Text
  pub is : rows_in l ≡ (r.name.now, change) ∷ rows_in r.rest
  pub spells : r.bytes.now ≡ change_bytes (r.name.now, change)
  pub same : r.rest.bytes.now ≡ l.bytes.now
  pub stands : r.bytes.now ≡ between l.bytes.now l.rows.first r.rest.rows.first
  pub less : suc r.rest.rows.count ≡ l.rows.count

-- the first row, or there is none
abbrev pub RowOf : Left → Option Row → Type 0
RowOf l (Some r) = Leads l r
RowOf l None = rows_in l ≡ []

pub record RowIs (l : Left) (r : Option Row) : Type 0 where
  pub is : RowOf l r

-- the rows of both
abbrev pub both_rows : Both → List ChangeRow
both_rows b = melded by_bytes (rows_in b.upper) (rows_in b.lower)

-- how many rows are left in both lists
abbrev pub left_in : Both → ℕ
left_in b = b.upper.rows.count + b.lower.rows.count

-- these bytes are the next row of both
pub record Goes (b : Both) (bytes : List ℕ) (rest : Both) : Type 0 where
  pub row : ChangeRow
  pub is : both_rows b ≡ row ∷ both_rows rest
  pub spells : bytes ≡ change_bytes row
  pub less : left_in rest < left_in b

-- the next row of both, or there is none
abbrev pub GoesIf : Both → Option (Bor (List ℕ)) → Both → Type 0
GoesIf b (Some bytes) rest = Goes b bytes.now rest
GoesIf b None rest = both_rows b ≡ []

pub record Gives (b : Both) (r : Option (Bor (List ℕ))) (rest : Both) : Type 0 where
  pub is : GoesIf b r rest

-- the rows of both are put, and counted
pub record PutsRows (b : Both) (buf : List ℕ) (at : ℕ) (r : Written) (end : List ℕ) : Type 0 where
  pub put : Put buf at (rows_bytes name (maybe value) (both_rows b)) r.end end
  pub counts : r.count ≡ length (both_rows b)

-- rows as a list, the count first
abbrev pub counted_bytes : List ChangeRow → List ℕ
counted_bytes l = number_bytes (length l) ++ rows_bytes name (maybe value) l

module _ (img given : List ℕ) where
  -- the lists at two places as one, its count first
  abbrev pub merged_rows : ℕ → ℕ → List ChangeRow
  merged_rows new old = melded by_bytes (rows_at given new) (rows_at img old)

  abbrev pub merged_bytes : ℕ → ℕ → List ℕ
  merged_bytes new old = counted_bytes (merged_rows new old)

  -- the attribute changes of both, if one has any
  abbrev pub changes_anew : Option Part → Option Part → List ℕ
  changes_anew (Some n) (Some o) = merged_bytes n.start o.start
  changes_anew (Some n) None = text_at given n
  changes_anew None o = list_bytes img o
