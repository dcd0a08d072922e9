-- The lists that fold makes of a stack. Document 01: "Delta of the node's kind: applied, entries sorted, no empty attribute map."
use Rattle.std.specs.Prelude.{◌≡◌, List, [], ◌∷◌, ◌++◌, ℕ, length, None, Some}
use Rattle.wire.specs.Orders.{by_bytes}
use Rattle.wire.specs.Number.{number_bytes}
use Rattle.wire.specs.Combinators.{◌then◌}
use Rattle.wire.specs.Put.{Put}
use Rattle.wire.specs.declared.put.Written.{Written}
use Rattle.image.specs.Meaning.{Text, Entries, Attributes}
use Rattle.image.specs.FieldLayout.{name, inode, value, attributes, entries}
use Rattle.rules.specs.Starts.{Started}
use Rattle.rules.proofs.MapValues.{map_values}
use Rattle.image.specs.declared.kind.FileType.{FileType}
use Rattle.stack.specs.declared.stack.Stack.{Stack}
use Rattle.merge.specs.Pile.{merged, itself}
use Rattle.merge.specs.Sources.{Given}
use Rattle.merge.specs.Merges.{given_in}
use Rattle.merge.specs.declared.sources.Sources.{Sources}
use Rattle.merge.proofs.Lists.{Deciding}
use Rattle.gather.specs.Gathers.{pile_in}
use Rattle.gather.specs.declared.gather.Listing.{Listing}
use Rattle.gather.specs.declared.gather.Listing.TheVariants as L

-- ---- rows as they are written

-- "entries (name, inode)"; "attributes (name, value)"
abbrev pub row_given : Listing → Text × (ℕ × Given) → List ℕ
row_given L.Entries e = (name then inode).write (e.0, e.1.1.0)
row_given L.Attributes e = (name then value).write (e.0, e.1.1.1)

unfoldable pub rows_given : Listing → List (Text × (ℕ × Given)) → List ℕ
rows_given l [] = []
rows_given l (e ∷ es) = row_given l e ++ rows_given l es

-- "Every list has its count first"
abbrev pub list_given : Listing → List (Text × (ℕ × Given)) → List ℕ
list_given l es = number_bytes (length es) ++ rows_given l es

-- the rows that sources give, written and counted
pub record PutsRows (all : Sources) (l : Listing) (old : List ℕ) (at : ℕ) (r : Written) (new : List ℕ) : Type 0 where
  pub puts : Put old at (rows_given l (given_in all)) r.end new
  pub counts : r.count ≡ length (given_in all)

-- ---- the lists of a stack merged

abbrev pub valued : ℕ × Given → Text
valued x = x.1.1

abbrev pub inoded : ℕ × Given → ℕ
inoded x = x.1.0

abbrev pub merges : List Deciding → Started Given
merges cs = merged by_bytes (itself by_bytes) cs

-- the attributes, without the changes of other kinds: "Other kind: nothing."
abbrev pub attributes_of : Stack → FileType → Attributes
attributes_of s t = map_values by_bytes valued (merges (pile_in L.Attributes (Some t) s))

-- "entries sorted"
abbrev pub entries_of : Stack → Entries
entries_of s = map_values by_bytes inoded (merges (pile_in L.Entries None s))

-- as they are written
abbrev pub merged_bytes : Listing → Stack → FileType → List ℕ
merged_bytes L.Entries s t = entries.write (entries_of s)
merged_bytes L.Attributes s t = attributes.write (attributes_of s t)
