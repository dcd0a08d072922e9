-- The lists of a stack, as sources from the top, decide what its listing shows.
-- Assumes nothing.
use Rattle.std.specs.Prelude.{None, Option, Some}
use mathlib.Core.Path.{◌≡◌, refl, sym, ap, ◌∙◌}
use mathlib.Core.List.{List, [], ◌∷◌, ◌++◌, map}
use Prim.Native.Nat.{ℕ}
use Rattle.wire.specs.Orders.{by_bytes}
use Rattle.wire.specs.Maps.{Map, meet, merge, empty, get, map-ext, get-empty, get-merge}
use Rattle.image.specs.Meaning.{Text, Names, Body, Meta, Node, Changes, Fields, Change, Record, directory, file, symlink, special, tombstone, delta}
use Rattle.image.specs.Masks.{maybe}
use Rattle.image.specs.FieldLayout.{inode, value}
use Rattle.image.specs.declared.name.Under.TheVariants as U
use Rattle.wire.specs.Combinators.{nothing}
use Rattle.rules.specs.Changes.{map_if}
use Rattle.rules.specs.Starts.{Placed, Started, starts, attributes_at, entries_at, changes_at, added_at}
use Rattle.rules.specs.PlacedReads.{look_placed, placed_entries, placed_values, body_starts, change_starts}
use Rattle.rules.specs.PlacedReads.{record_starts, set_start, alter_starts, record_value_starts}
use Rattle.rules.specs.ReadCalls.{row_of}
use Rattle.rules.proofs.MapValues.{map_row, map_values, map_rows, get-map, map-empty, map-merge}
use Rattle.rules.proofs.Forgotten.{forgotten, starts-forgotten}
use Rattle.gather.specs.declared.gather.Listing.{Listing}
use Rattle.gather.specs.declared.gather.Listing.TheVariants as L
use Rattle.gather.specs.Gathers.{removed_at, body_pile, change_pile, alter_pile, record_pile, pile_of, Gathers}
use Rattle.stack.specs.Stacks.{records_in, node_in}
use Rattle.stack.specs.declared.stack.Stack.{Stack}
use Rattle.merge.specs.declared.sources.Sources.{Sources}
use Rattle.merge.specs.Pile.{merged, itself, decisions}
use Rattle.merge.specs.Sources.{Given, Decided, decided}
use Rattle.merge.specs.Merges.{plain_row, rows_decided}
use Rattle.rows.specs.Listings.{rows_listed, rows_in}
use Rattle.merge.proofs.Piles.{pile-merged}
use Rattle.merge.proofs.Lists.{Deciding, pile_rows, source_of}

-- ---- what they decide

abbrev merges : List Deciding → Started Given
merges cs = merged by_bytes (itself by_bytes) cs

-- a source over nothing
merge-alone : {A : Type 0} (f : A → ℕ × Given) (m : Map by_bytes A)
    → merge by_bytes (itself by_bytes) (map_values by_bytes (λ a. Some (f a)) m) (empty by_bytes) ≡ map_values by_bytes f m
merge-alone {A} f m =
    map-ext by_bytes (merge by_bytes (itself by_bytes) (map_values by_bytes (λ a. Some (f a)) m) (empty by_bytes)) (map_values by_bytes f m) (λ k.
    simp (get-merge, get-map, get-empty) (go (get by_bytes k m)))
  where
    go : (o : Option A) → meet (itself by_bytes []) (map_if (λ a. Some (f a)) o) None ≡ map_if f o
    go None = refl
    go (Some a) = refl

-- removed names, whose starts nothing shows
merge-removed : (q : ℕ) (removed : Names) (x : Started Given)
    → merge by_bytes (itself by_bytes) (source_of U.Nothing q removed) x ≡ merge by_bytes (λ name u old. None) removed x
merge-removed q removed x =
    map-ext by_bytes (merge by_bytes (itself by_bytes) (source_of U.Nothing q removed) x)
    (merge by_bytes (λ name u old. None) (forgotten (starts nothing q removed)) x) (λ k.
    simp (get-merge, get-map) (go k (get by_bytes k (starts nothing q removed))))
    ∙ ap (λ (r : Names). merge by_bytes (λ name u old. None) r x) (starts-forgotten nothing q removed)
  where
    go : (k : Text) (o : Option (ℕ × Unit {0}))
        → meet (itself by_bytes k) (map_if (decided U.Nothing) o) (get by_bytes k x) ≡ meet (λ u old. None) (map_if (λ y. y.1) o) (get by_bytes k x)
    go k None = refl
    go k (Some a) = refl

-- names removed, whatever stands under those that stay
removed-map : {A B : Type 0} (f : A → B) (removed : Names) (x : Map by_bytes A)
    → merge by_bytes (λ name u old. None) removed (map_values by_bytes f x) ≡ map_values by_bytes f (merge by_bytes (λ name u old. None) removed x)
removed-map {A} {B} f removed x =
    map-ext by_bytes (merge by_bytes (λ name u old. None) removed (map_values by_bytes f x))
    (map_values by_bytes f (merge by_bytes (λ name u old. None) removed x)) (λ k.
    simp (get-merge, get-map) (go (get by_bytes k removed) (get by_bytes k x)))
  where
    go : (u : Option (Unit {0})) (o : Option A) → meet (λ u old. None) u (map_if f o) ≡ map_if f (meet (λ u old. None) u o)
    go None o = refl
    go (Some u) o = refl

-- ---- entries

-- a start and an inode, without a value
abbrev inoded : ℕ × ℕ → ℕ × Given
inoded x = (x.0, (x.1, []))

body-decides : (p : ℕ) (m : Meta) (b : Body) → merges (body_pile p m b) ≡ map_values by_bytes inoded (body_starts p m b)
unfolding merged
body-decides p m (directory parent es) = merge-alone inoded (starts inode (entries_at p m parent) es)
body-decides p m (file size) = sym (map-empty by_bytes inoded)
body-decides p m (symlink target) = sym (map-empty by_bytes inoded)
body-decides p m (special device) = sym (map-empty by_bytes inoded)

change-decides : (p : ℕ) (f : Fields) (c : Change) (below : List Deciding) (es : Started ℕ) → merges below ≡ map_values by_bytes inoded es
    → merges (change_pile p f c ++ below) ≡ map_values by_bytes inoded (change_starts p f c es)
unfolding merged
change-decides p f (directory parent added removed) below es e =
    let over = source_of U.Inode (added_at p f parent) added in
    let q = removed_at p f parent added in
    ap (λ (x : Started Given). merge by_bytes (itself by_bytes) over (merge by_bytes (itself by_bytes) (source_of U.Nothing q removed) x)) e
    ∙ ap (λ (x : Started Given). merge by_bytes (itself by_bytes) over x)
    (merge-removed q removed (map_values by_bytes inoded es) ∙ removed-map inoded removed es)
    ∙ sym (map-merge by_bytes inoded (decided U.Inode) (λ name new old. Some new) (itself by_bytes) (λ k c o. refl) (starts inode (added_at p f parent) added)
    (merge by_bytes (λ name u old. None) removed es))
change-decides p f (file n) below es e = e
change-decides p f (symlink t) below es e = e
change-decides p f (special s device) below es e = e

entries-decide : (rs : List (Placed Record)) (b : Option (Placed Node))
    → merges (pile_of L.Entries None rs b) ≡ map_values by_bytes inoded (look_placed placed_entries rs b)
unfolding look_placed merged
entries-decide [] None = sym (map-empty by_bytes inoded)
entries-decide [] (Some n) = body-decides n.place n.held.meta n.held.body
entries-decide (r ∷ rs) b = go r.held (entries-decide rs b)
  where
    go : (h : Record) → merges (pile_of L.Entries None rs b) ≡ map_values by_bytes inoded (look_placed placed_entries rs b)
        → merges (record_pile L.Entries None r.place h (pile_of L.Entries None rs b))
        ≡ map_values by_bytes inoded (record_starts r.place h (look_placed placed_entries rs b))
    go tombstone ih = sym (map-empty by_bytes inoded)
    go (delta d) ih = change-decides r.place d.fields d.change (pile_of L.Entries None rs b) (look_placed placed_entries rs b) ih

-- ---- attributes

-- a start and a value, with inode 0
abbrev zeroed : ℕ × Text → ℕ × Given
zeroed x = (x.0, (0, x.1))

set-zeroed : (s : ℕ) (o : Option Text) → map_if zeroed (set_start (s, o)) ≡ decided U.Change (s, o)
set-zeroed s None = refl
set-zeroed s (Some v) = refl

alter-decides : (p : ℕ) (f : Fields) (o : Option Changes) (below : List Deciding) (vs : Started Text) → merges below ≡ map_values by_bytes zeroed vs
    → merges (alter_pile p f o ++ below) ≡ map_values by_bytes zeroed (meet (alter_starts p f) o vs)
unfolding merged
alter-decides p f None below vs e = e
alter-decides p f (Some cs) below vs e =
    rw e (sym (map-merge by_bytes zeroed (decided U.Change) (λ name c old. set_start c) (itself by_bytes) (λ k c o. set-zeroed c.0 c.1)
    (starts (maybe value) (changes_at p f cs) cs) vs))

values-decide : (rs : List (Placed Record)) (b : Option (Placed Node))
    → merges (pile_of L.Attributes None rs b) ≡ map_values by_bytes zeroed (look_placed placed_values rs b)
unfolding look_placed merged
values-decide [] None = sym (map-empty by_bytes zeroed)
values-decide [] (Some n) = merge-alone zeroed (starts value (attributes_at n.place n.held.meta) n.held.meta.attributes)
values-decide (r ∷ rs) b = go r.held (values-decide rs b)
  where
    go : (h : Record) → merges (pile_of L.Attributes None rs b) ≡ map_values by_bytes zeroed (look_placed placed_values rs b)
        → merges (record_pile L.Attributes None r.place h (pile_of L.Attributes None rs b))
        ≡ map_values by_bytes zeroed (record_value_starts r.place h (look_placed placed_values rs b))
    go tombstone ih = sym (map-empty by_bytes zeroed)
    go (delta d) ih = alter-decides r.place d.fields d.fields.attributes (pile_of L.Attributes None rs b) (look_placed placed_values rs b) ih

-- ---- the rows

rows-inoded : (l : List (Text × (ℕ × ℕ))) → map plain_row (map (map_row by_bytes inoded) l) ≡ map (row_of (λ inode. inode)) l
rows-inoded [] = refl
rows-inoded (e ∷ l) = rw (rows-inoded l)

rows-zeroed : (l : List (Text × (ℕ × Text))) → map plain_row (map (map_row by_bytes zeroed) l) ≡ map (row_of (λ value. 0)) l
rows-zeroed [] = refl
rows-zeroed (e ∷ l) = rw (rows-zeroed l)

-- What the sources of a stack decide is what its listing shows.
pub pile-shows : (l : Listing) (rs : List (Placed Record)) (b : Option (Placed Node))
    → map plain_row (decisions by_bytes (pile_rows (pile_of l None rs b))) ≡ rows_listed l rs b
pile-shows L.Entries rs b =
    rw (pile-merged by_bytes (itself by_bytes) (pile_of L.Entries None rs b), entries-decide rs b, map_rows by_bytes inoded (look_placed placed_entries rs b))
    (rows-inoded (look_placed placed_entries rs b).rows)
pile-shows L.Attributes rs b =
    rw (pile-merged by_bytes (itself by_bytes) (pile_of L.Attributes None rs b), values-decide rs b, map_rows by_bytes zeroed (look_placed placed_values rs b))
    (rows-zeroed (look_placed placed_values rs b).rows)

pub gathered-rows : {s : Stack} (l : Listing) {r : Sources} → Gathers s l None r → rows_decided r ≡ rows_in l s
gathered-rows {s} l g =
    rw g.image
    (ap (λ (ss : List (List Decided)). map plain_row (decisions by_bytes ss)) g.are ∙ pile-shows l (records_in s.img.now s.places) (node_in s.img.now s.places))
