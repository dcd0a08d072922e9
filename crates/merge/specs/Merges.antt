-- Sources by value, and what merging them promises.
use Rattle.wire.specs.declared.part.Part.{Part}
use Rattle.std.specs.Prelude.{◌≡◌, cond, ltb, List, [], ◌∷◌, ◌++◌, map, ℕ, ◌+◌, length, take, IfSome, None, Option, Some}
use Rattle.wire.specs.Orders.{by_bytes}
use Rattle.image.specs.Meaning.{Text}
use Rattle.image.specs.declared.name.Under.{Under}
use Rattle.nodes.specs.Options.{text_at}
use Rattle.rules.specs.Changes.{map_if}
use Rattle.rules.specs.ReadCalls.{Row, row_of}
use Rattle.merge.specs.Pile.{pass, pass_all, upper, least, decisions}
use Rattle.merge.specs.Sources.{Given, Decided, list_rows, source_rows, sources_of, Rise, given_of, row_at, Inside}
use Rattle.merge.specs.declared.source.Source.{Source}
use Rattle.merge.specs.declared.read.Head.{Head}
use Rattle.merge.specs.declared.sources.Lists.{Lists}
use Rattle.merge.specs.declared.sources.Sources.{Sources}
use Rattle.merge.specs.declared.merge.AtMostTwo.{AtMostTwo}
use Rattle.merge.specs.declared.merge.AtMostTwo.TheVariants as F
use Rattle.merge.specs.declared.merge.Row.{Row as GivenRow}

-- the list of a part, as a source
abbrev pub lists_if : List ℕ → Under → Option Part → List (List Decided)
lists_if img u (Some p) = list_rows img u p.start ∷ []
lists_if img u None = []

-- at most two lists, the upper first; and their rows
abbrev pub in_order : AtMostTwo → List Source
in_order F.None = []
in_order (F.One s) = s ∷ []
in_order (F.Two s t) = s ∷ (t ∷ [])

abbrev pub rows_in : List ℕ → AtMostTwo → List (List Decided)
rows_in img lists = sources_of img (in_order lists)

-- the lists that were pushed, the topmost first
abbrev pub lists_in : Lists → List Source
lists_in all = take all.count all.rows

-- the sources, the topmost first
abbrev pub listed : Sources → List Source
listed all = lists_in all.lists

-- lists more, beneath the others
pub record Pushes (all : Lists) (lists : List Source) (r : Lists) : Type 0 where
  pub are : lists_in r ≡ lists_in all ++ lists
  pub more : r.count ≡ all.count + length lists

-- ---- the row that goes first

pub record Upper (img : List ℕ) (a b r : Option Head) : Type 0 where
  pub is : upper by_bytes (map_if (row_at img) a) (map_if (row_at img) b) ≡ map_if (row_at img) r
  pub inside : IfSome a (Inside img) → IfSome b (Inside img) → IfSome r (Inside img)

pub record Least (img : List ℕ) (l : List Source) (r : Option Head) : Type 0 where
  pub is : least by_bytes (sources_of img l) ≡ map_if (row_at img) r
  pub inside : IfSome r (Inside img)

pub record Passed (img : List ℕ) (s : Source) (name : Part) (r : Source) : Type 0 where
  pub is : source_rows img r ≡ pass by_bytes (text_at img name) (source_rows img s)

pub record PassedAll (img : List ℕ) (l : List Source) (name : Part) (r : List Source) : Type 0 where
  pub are : sources_of img r ≡ pass_all by_bytes (text_at img name) (sources_of img l)

-- ---- the rows, one after the other

-- what the sources decide: the names that are given
abbrev pub given_by : List ℕ → List Source → List (Text × (ℕ × Given))
given_by img l = decisions by_bytes (sources_of img l)

abbrev pub plain_row : Text × (ℕ × Given) → Row
plain_row = row_of (λ g. g.0)

-- the same as rows
abbrev pub decided_rows : List ℕ → List Source → List Row
decided_rows img l = map plain_row (given_by img l)

-- what a row gives, and the same as a plain row
abbrev pub given_of_row : List ℕ → GivenRow → Text × (ℕ × Given)
given_of_row img r = (text_at img r.name, (r.name.start, given_of img r.given))

abbrev pub row_of_given : GivenRow → Row
row_of_given r = record { start = r.name.start; «length» = r.name.length; inode = r.given.inode }

-- a first row, if there is one, with those that follow
abbrev pub with_first : {A B : Type 0} → (A → B) → Option A → List B → List B
with_first f (Some a) l = f a ∷ l
with_first f None l = []

-- the first name that is given, and the sources past it; or that no more is given
pub record GivesFrom (img : List ℕ) (l : List Source) (first : Option GivenRow) (rest : List Source) : Type 0 where
  pub gives : given_by img l ≡ with_first (given_of_row img) first (given_by img rest)
  pub rows : decided_rows img l ≡ with_first row_of_given first (decided_rows img rest)
  pub rise : Rise img rest

-- ---- the same of the sources of an image

abbrev pub given_in : Sources → List (Text × (ℕ × Given))
given_in all = given_by all.img.now (listed all)

abbrev pub rows_decided : Sources → List Row
rows_decided all = decided_rows all.img.now (listed all)

-- what a first row gives, if there is one, and what the sources past it give
abbrev pub gives_from : Option GivenRow → Sources → List (Text × (ℕ × Given))
gives_from first all = with_first (given_of_row all.img.now) first (given_in all)

pub record Gives (all : Sources) (first : Option GivenRow) (rest : Sources) : Type 0 where
  pub image : rest.img.now ≡ all.img.now
  pub gives : given_in all ≡ gives_from first rest
  pub rows : rows_decided all ≡ with_first row_of_given first (rows_decided rest)

-- how many rows there are, if there is room for them
abbrev pub count_of : ℕ → ℕ → Option ℕ
count_of n room = cond (ltb room n) None (Some n)
