-- A placed stack shows the names that its stack shows: with the starts forgotten, the entries and the attributes are those of Reads.
use Rattle.std.specs.Prelude.{None, Option, Some}
use mathlib.Core.Path.{◌≡◌, refl, ◌∙◌, ap}
use mathlib.Core.List.{List, [], ◌∷◌, ◌++◌, map}
use Prim.Native.Nat.{ℕ, ◌+◌}
use lib.ListN.{length}
use Rattle.wire.specs.Codec.{Codec}
use Rattle.wire.specs.Orders.{by_bytes}
use Rattle.wire.specs.Maps.{Map, meet, merge, get, map-ext}
use Rattle.wire.specs.Rows.{lookup}
use Rattle.image.specs.Meaning.{Text, Entries, Body, Meta, Node, Changes, Fields, Names, Change, Record, directory, file, symlink, special, tombstone, delta}
use Rattle.image.specs.Masks.{maybe}
use Rattle.image.specs.FieldLayout.{name, inode, value}
use Rattle.rules.specs.Fold.{add_all, remove_all, alter_all}
use Rattle.rules.specs.Reads.{look, entries, body_entries, change_entries, step_entries, values, step_values}
use Rattle.rules.specs.Changes.{map_if}
use Rattle.rules.specs.Starts.{Placed, Started, start_rows, starts, attributes_at, entries_at, changes_at, added_at}
use Rattle.rules.specs.PlacedReads.{look_placed, body_starts, change_starts, record_starts, placed_entries, set_start, alter_starts, record_value_starts, placed_values}
use Rattle.rules.specs.PlacedStacks.{unplaced, unplaced_node}
use Rattle.rules.proofs.MapValues.{map_values, map_row, map-empty, map-merge, map_same}

-- what stands under each name, without its start
abbrev pub forgotten : {A : Type 0} → Started A → Map by_bytes A
forgotten {A} m = map_values by_bytes (λ (x : ℕ × A). x.1) m

-- ---- a list

module _ {A : Type 0} (value : Codec A) where
  rows-forgotten : (q : ℕ) (l : List (Text × A)) → map (map_row by_bytes (λ (x : ℕ × A). x.1)) (start_rows value q l) ≡ l
  unfolding start_rows
  rows-forgotten q [] = refl
  rows-forgotten q (e ∷ l) = ap (λ (t : List (Text × A)). e ∷ t) (rows-forgotten (q + length (name.write e.0 ++ value.write e.1)) l)

  pub starts-forgotten : (p : ℕ) (m : Map by_bytes A) → forgotten (starts value p m) ≡ m
  unfolding get starts map_values
  starts-forgotten p m = map-ext by_bytes (forgotten (starts value p m)) m (λ k. ap (lookup by_bytes k) (rows-forgotten _ m.rows))

-- ---- entries

body-forgotten : (p : ℕ) (m : Meta) (b : Body) → forgotten (body_starts p m b) ≡ body_entries b
body-forgotten p m (directory parent es) = starts-forgotten inode (entries_at p m parent) es
body-forgotten p m (file size) = map-empty by_bytes _
body-forgotten p m (symlink target) = map-empty by_bytes _
body-forgotten p m (special device) = map-empty by_bytes _

added-forgotten : (p : ℕ) (added : Entries) (es : Started ℕ) → forgotten (merge by_bytes (λ name new old. Some new) (starts inode p added) es) ≡ add_all added (forgotten es)
added-forgotten p added es =
    map-merge by_bytes (λ (x : ℕ × ℕ). x.1) (λ (x : ℕ × ℕ). x.1) (λ name new old. Some new) (λ name new old. Some new) (λ k c o. refl) (starts inode p added) es
    ∙ ap (λ (a : Entries). add_all a (forgotten es)) (starts-forgotten inode p added)

removed-forgotten : (removed : Names) (es : Started ℕ) → forgotten (merge by_bytes (λ name u old. None) removed es) ≡ remove_all removed (forgotten es)
removed-forgotten removed es =
    map-merge by_bytes (λ (x : ℕ × ℕ). x.1) (λ (u : Unit {0}). u) (λ name u old. None) (λ name u old. None) (λ k c o. refl) removed es
    ∙ ap (λ (r : Names). remove_all r (forgotten es)) (map_same by_bytes removed)

change-forgotten : (p : ℕ) (f : Fields) (c : Change) (es : Started ℕ) → forgotten (change_starts p f c es) ≡ change_entries c (forgotten es)
change-forgotten p f (directory parent added removed) es =
    added-forgotten (added_at p f parent) added _ ∙ ap (add_all added) (removed-forgotten removed es)
change-forgotten p f (file n) es = refl
change-forgotten p f (symlink t) es = refl
change-forgotten p f (special s device) es = refl

pub entries-forgotten : (rs : List (Placed Record)) (b : Option (Placed Node)) → forgotten (look_placed placed_entries rs b) ≡ look entries (unplaced rs) (unplaced_node b)
unfolding look_placed look
entries-forgotten [] None = map-empty by_bytes _
entries-forgotten [] (Some n) = body-forgotten n.place n.held.meta n.held.body
entries-forgotten (r ∷ rs) b = go r.held (entries-forgotten rs b)
  where
    go : (h : Record) → forgotten (look_placed placed_entries rs b) ≡ look entries (unplaced rs) (unplaced_node b)
        → forgotten (record_starts r.place h (look_placed placed_entries rs b)) ≡ step_entries h (look entries (unplaced rs) (unplaced_node b))
    go tombstone ih = map-empty by_bytes _
    go (delta d) ih = rw (← ih) (change-forgotten r.place d.fields d.change (look_placed placed_entries rs b))

-- ---- attributes

set-forgotten : (s : ℕ) (o : Option Text) → map_if (λ (x : ℕ × Text). x.1) (set_start (s, o)) ≡ o
set-forgotten s None = refl
set-forgotten s (Some v) = refl

alter-forgotten : (p : ℕ) (f : Fields) (o : Option Changes) (vs : Started Text) → forgotten (meet (alter_starts p f) o vs) ≡ meet alter_all o (forgotten vs)
alter-forgotten p f None vs = refl
alter-forgotten p f (Some cs) vs =
    map-merge by_bytes (λ (x : ℕ × Text). x.1) (λ (x : ℕ × Option Text). x.1) (λ name c old. set_start c) (λ name c old. c) (λ k c o. set-forgotten c.0 c.1)
    (starts (maybe value) (changes_at p f cs) cs) vs
    ∙ ap (λ (c : Changes). alter_all c (forgotten vs)) (starts-forgotten (maybe value) (changes_at p f cs) cs)

pub values-forgotten : (rs : List (Placed Record)) (b : Option (Placed Node)) → forgotten (look_placed placed_values rs b) ≡ look values (unplaced rs) (unplaced_node b)
unfolding look_placed look
values-forgotten [] None = map-empty by_bytes _
values-forgotten [] (Some n) = starts-forgotten value (attributes_at n.place n.held.meta) n.held.meta.attributes
values-forgotten (r ∷ rs) b = go r.held (values-forgotten rs b)
  where
    go : (h : Record) → forgotten (look_placed placed_values rs b) ≡ look values (unplaced rs) (unplaced_node b)
        → forgotten (record_value_starts r.place h (look_placed placed_values rs b)) ≡ step_values h (look values (unplaced rs) (unplaced_node b))
    go tombstone ih = map-empty by_bytes _
    go (delta d) ih = rw (← ih) (alter-forgotten r.place d.fields d.fields.attributes (look_placed placed_values rs b))
