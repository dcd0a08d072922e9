-- The sources of a stack give the rows of the lists that fold makes, as they are written.
-- Assumes nothing.
use Rattle.std.specs.Prelude.{None, Option, Some}
use mathlib.Core.Path.{◌≡◌, refl, sym, ap, ◌∙◌}
use mathlib.Core.List.{List, [], ◌∷◌, map}
use Prim.Native.Nat.{ℕ, ◌≤◌}
use lib.ListN.{length, length-map}
use Rattle.wire.specs.Number.{edge}
use Rattle.wire.specs.Orders.{by_bytes}
use Rattle.wire.specs.Lists.{chain_write, row, onto}
use Rattle.image.specs.Meaning.{Text, Entries, Attributes}
use Rattle.image.specs.FieldLayout.{name, inode, value, attributes, entries}
use Rattle.image.specs.Meaning.{Node, Record, tombstone, delta}
use Rattle.image.specs.declared.kind.FileType.{FileType}
use Rattle.rules.specs.Starts.{Placed}
use Rattle.rules.proofs.MapValues.{map_row, map_rows}
use Rattle.stack.specs.Stacks.{records_in, node_in}
use Rattle.stack.specs.declared.stack.Stack.{Stack}
use Rattle.merge.specs.Pile.{itself, decisions}
use Rattle.merge.specs.Sources.{Given}
use Rattle.merge.specs.Merges.{given_in}
use Rattle.merge.specs.declared.sources.Sources.{Sources}
use Rattle.merge.proofs.Piles.{pile-merged}
use Rattle.merge.proofs.Few.{given-few}
use Rattle.gather.specs.Gathers.{record_pile, pile_of, pile_in, Gathers}
use Rattle.gather.specs.declared.gather.Listing.{Listing}
use Rattle.gather.specs.declared.gather.Listing.TheVariants as L
use Rattle.fold.specs.Lists.{rows_given, list_given, valued, inoded, merges, attributes_of, entries_of, merged_bytes}

gathered-gives : {s : Stack} {l : Listing} {of : Option FileType} {r : Sources} → Gathers s l of r → given_in r ≡ (merges (pile_in l of s)).rows
gathered-gives {s} {l} {of} g = rw g.image (ap (decisions by_bytes) g.are ∙ pile-merged by_bytes (itself by_bytes) (pile_in l of s))

-- entries are of directories alone, whatever type is given
entries-any : (of : Option FileType) (rs : List (Placed Record)) (b : Option (Placed Node)) → pile_of L.Entries of rs b ≡ pile_of L.Entries None rs b
entries-any of [] b = refl
entries-any of (r ∷ rs) b = go r.held (entries-any of rs b)
  where
    go : (h : Record) → pile_of L.Entries of rs b ≡ pile_of L.Entries None rs b
        → record_pile L.Entries of r.place h (pile_of L.Entries of rs b) ≡ record_pile L.Entries None r.place h (pile_of L.Entries None rs b)
    go tombstone e = refl
    go (delta d) e = rw e

-- ---- as they are written

rows-valued : (prev : Option Text) (es : List (Text × (ℕ × Given)))
    → rows_given L.Attributes es ≡ chain_write (row by_bytes name value) (onto by_bytes name value) prev (map (map_row by_bytes valued) es)
unfolding rows_given
rows-valued prev [] = refl
rows-valued prev (e ∷ es) = rw (rows-valued (Some e.0) es)

rows-inoded : (prev : Option Text) (es : List (Text × (ℕ × Given)))
    → rows_given L.Entries es ≡ chain_write (row by_bytes name inode) (onto by_bytes name inode) prev (map (map_row by_bytes inoded) es)
unfolding rows_given
rows-inoded prev [] = refl
rows-inoded prev (e ∷ es) = rw (rows-inoded (Some e.0) es)

attributes-written : (es : List (Text × (ℕ × Given))) (m : Attributes) → map (map_row by_bytes valued) es ≡ m.rows
    → list_given L.Attributes es ≡ attributes.write m
attributes-written es m h = rw (rows-valued None es, ← (length-map es (map_row by_bytes valued)), h)

entries-written : (es : List (Text × (ℕ × Given))) (m : Entries) → map (map_row by_bytes inoded) es ≡ m.rows → list_given L.Entries es ≡ entries.write m
entries-written es m h = rw (rows-inoded None es, ← (length-map es (map_row by_bytes inoded)), h)

-- ---- the lists of a stack

-- a number holds the count of the names that are given
pub gathered-few : {s : Stack} {l : Listing} {of : Option FileType} {r : Sources} → Gathers s l of r → length (given_in r) ≤ edge
gathered-few {s} {r = r} g = given-few r (let short = g.short in rw g.image short)

pub merged-given : {s : Stack} {r : Sources} (l : Listing) (t : FileType) → Gathers s l (Some t) r
    → list_given l (given_in r) ≡ merged_bytes l s t
merged-given {s} L.Entries t g =
    let m = merges (pile_in L.Entries None s) in
    let z = entries-any (Some t) (records_in s.img.now s.places) (node_in s.img.now s.places) in
    rw (gathered-gives g, z) (entries-written m.rows (entries_of s) (sym (map_rows by_bytes inoded m)))
merged-given {s} L.Attributes t g =
    let m = merges (pile_in L.Attributes (Some t) s) in
    rw (gathered-gives g) (attributes-written m.rows (attributes_of s t) (sym (map_rows by_bytes valued m)))
