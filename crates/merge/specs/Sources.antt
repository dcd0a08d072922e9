-- Lists by name as sources of a listing. Document 01: "From the bottom: tombstone clears, a directory delta removes then adds, other kinds
-- do nothing." So the topmost list that has a name decides it: the name is given, with its start and an inode or a value, or removed.
use Rattle.std.specs.Prelude.{◌≡◌, List, [], ◌∷◌, ◌++◌, map, ℕ, zero, suc, ◌+◌, ◌-◌, ◌≤◌, length, drop, IfSome, None, Option, Some}
use Rattle.wire.specs.Parse.{Parsed, fault, got, bind}
use Rattle.wire.specs.Combinators.{◌then◌}
use Rattle.wire.specs.Orders.{by_bytes}
use Rattle.wire.specs.Number.{number_bytes, number_read}
use Rattle.wire.specs.Lists.{last_count}
use Rattle.image.specs.Meaning.{Text}
use Rattle.image.specs.FieldLayout.{name}
use Rattle.image.specs.Under.{UnderName, under}
use Rattle.image.specs.declared.name.Under.{Under}
use Rattle.image.specs.declared.name.Under.TheVariants as U
use Rattle.nodes.specs.Options.{text_at}
use Rattle.rules.specs.Changes.{map_if}
use Rattle.merge.specs.Pile.{Ascend, Ascend-prop}
use Rattle.merge.specs.declared.source.Source.{Source}
use Rattle.merge.specs.declared.read.Given.{Given as GivenParts}
use Rattle.merge.specs.declared.read.Head.{Head}

-- what a name is given: an inode; a value
abbrev pub Given : Type 0
Given = ℕ × Text

-- a row of a source: a name, and whether it is given, with its start and what it is given
abbrev pub Decided : Type 0
Decided = Text × Option (ℕ × Given)

-- what stands under a name: "removed"; "entries (name, inode)"; "attributes (name, value)"; "0 removed or 1 and value"; "inode 0"
abbrev pub choice : (u : Under) → UnderName u → Option Given
choice U.Nothing v = None
choice U.Inode v = Some (v, [])
choice U.Value v = Some (0, v)
choice U.Change v = map_if (λ t. (0, t)) v

abbrev pub decided : (u : Under) → ℕ × UnderName u → Option (ℕ × Given)
decided u x = map_if (λ g. (x.0, g)) (choice u x.1)

abbrev pub chosen_read : Under → List ℕ → Parsed (Option Given)
chosen_read u s = bind ((under u).read s) (λ v r. got (choice u v) r)

abbrev pub rows_if : {A B : Type 0} → Parsed A → (A → List B) → List B
rows_if (fault f) g = []
rows_if (got a r) g = g a

-- The n rows from p on, each with the start of its name; where there are none, none. A row is the length of its name, the name, and what
-- stands under it.
unfoldable pub rows_from : List ℕ → Under → ℕ → ℕ → List Decided
rows_from img u zero p = []
rows_from img u (suc n) p =
    rows_if ((name then under u).read (drop p img)) (λ e.
    (e.0, decided u (p + length (number_bytes (length e.0)), e.1)) ∷ rows_from img u n (p + length (name.write e.0 ++ (under u).write e.1)))

-- the list at p, its count first
abbrev pub list_rows : List ℕ → Under → ℕ → List Decided
list_rows img u p = rows_if (number_read last_count (drop p img)) (λ n. rows_from img u n (p + length (number_bytes n)))

-- the rows of a source
abbrev pub source_rows : List ℕ → Source → List Decided
source_rows img s = rows_from img s.what s.rows.count s.rows.first

-- the rows of each
abbrev pub sources_of : List ℕ → List Source → List (List Decided)
sources_of img l = map (source_rows img) l

-- a list has no more rows than a count can say
abbrev pub Short : List Decided → Type 0
Short l = length l ≤ last_count

-- the names of each rise
abbrev pub Rise : List ℕ → List Source → Type 0
Rise img l = Ascend by_bytes (sources_of img l)

pub Rise-prop : (img : List ℕ) (l : List Source) → IsProp (Rise img l)
Rise-prop img l = Ascend-prop by_bytes (sources_of img l)

-- ---- what is read of a source

abbrev pub given_of : List ℕ → GivenParts → Given
given_of img g = (g.inode, text_at img g.value)

abbrev pub given_if : List ℕ → Option GivenParts → Option Given
given_if img o = map_if (given_of img) o

-- the row that stands first
abbrev pub row_at : List ℕ → Head → Decided
row_at img h = (text_at img h.name, map_if (λ g. (h.name.start, g)) (given_if img h.given))

-- it, if there is one, and the rows after it
abbrev pub head_rows : List ℕ → Under → ℕ → Option Head → List Decided
head_rows img u n (Some h) = row_at img h ∷ rows_from img u n h.next
head_rows img u n None = []

-- the name is in the image
abbrev pub Inside : List ℕ → Head → Type 0
Inside img h = h.name.start + h.name.length ≤ length img

-- ---- what the readers of a source promise

-- the first of the n rows from p on, and those that follow
pub record HeadOf (img : List ℕ) (u : Under) (n p : ℕ) (h : Option Head) : Type 0 where
  pub are : rows_from img u n p ≡ head_rows img u (n - 1) h
  pub inside : IfSome h (Inside img)

pub record ListOf (img : List ℕ) (u : Under) (p : ℕ) (s : Source) : Type 0 where
  pub are : source_rows img s ≡ list_rows img u p
