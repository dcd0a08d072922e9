-- Lists by name, looked through where they stand.
use Rattle.std.specs.Prelude.{◌≡◌, List, ℕ, ◌≤◌, ◌<◌, ◌-◌, length, drop, None, Option, Some}
use Rattle.wire.specs.Parse.{got}
use Rattle.wire.specs.Orders.{by_bytes}
use Rattle.wire.specs.Maps.{Map, get}
use Rattle.wire.specs.Reading.{part}
use Rattle.image.specs.declared.name.Under.{Under}
use Rattle.image.specs.Meaning.{Text}
use Rattle.image.specs.FieldLayout.{name}
use Rattle.image.specs.Under.{UnderName, under}
use Rattle.image.specs.Places.{rows_from, Holds}
use Rattle.nodes.specs.Listed.{list_at}
use Rattle.image.specs.declared.name.RowRead.{RowRead}
use Rattle.wire.specs.declared.part.Part.{Part}
use Rattle.lookup.specs.declared.list.NameList.{NameList}
use Rattle.lookup.specs.declared.rows.NameRows.{NameRows}

-- the name of a row
abbrev pub row_name : List ℕ → RowRead → Text
row_name img r = part img r.name.start r.name.length

module _ (img : List ℕ) (u : Under) where
  -- n rows stand from `first` on, after the name `prev`
  pub record Standing (prev : Option Text) (first n : ℕ) (rows : List (Text × UnderName u)) : Type 0 where
    pub rest : List ℕ
    pub read : rows_from by_bytes name (under u) n prev (drop first img) ≡ got rows rest
    pub within : first ≤ length img

  -- the name of a row, and what stands under it
  pub record ReadsRow (at : ℕ) (r : RowRead) : Type 0 where
    pub value : UnderName u
    pub named : name.read (drop at img) ≡ got (row_name img r) (drop r.under img)
    pub held : (under u).read (drop r.under img) ≡ got value (drop r.next img)
    pub within : r.next ≤ length img

-- the list of an image at a place, with this under its names
pub record IsListOf (img : List ℕ) (u : Under) (p : Part) (l : NameList) : Type 0 where
  pub image : l.img.now ≡ img
  pub sort : l.what ≡ u
  pub at : l.place ≡ p

-- what a list says
abbrev pub list_in : (l : NameList) → Map by_bytes (UnderName l.what)
list_in l = list_at l.img.now l.what l.place

-- its rows, which stand after its count
pub record ListRows (l : NameList) (r : NameRows) : Type 0 where
  pub image : r.img.now ≡ l.img.now
  pub sort : r.what ≡ l.what
  pub standing : Standing l.img.now l.what None r.rows.first r.rows.count (list_in l).rows

-- the first of the rows with its place, and those after it; none, where none are left
pub record Steps (rows : NameRows) (place : ℕ) (row : RowRead) (after : NameRows) : Type 0 where
  pub more : 0 < rows.rows.count
  pub at : place ≡ rows.rows.first
  pub reads : ReadsRow rows.img.now rows.what rows.rows.first row
  pub image : after.img.now ≡ rows.img.now
  pub sort : after.what ≡ rows.what
  pub next : after.rows.first ≡ row.next
  pub fewer : after.rows.count ≡ rows.rows.count - 1

abbrev pub Gives : NameRows → Option (ℕ × RowRead) → NameRows → Type 0
Gives rows None after = rows.rows.count ≡ 0
Gives rows (Some x) after = Steps rows x.0 x.1 after

-- a place holds what it has under a name
abbrev pub Finds : NameList → Text → Option ℕ → Type 0
Finds l k place = Holds l.img.now (under l.what).read place (get by_bytes k (list_in l))
