-- The names that a placed stack shows, with their starts. Document 01: "The start is in the highest layer that adds the name, else in the
-- base. Attribute names fill rows likewise, by the highest layer that sets the name."
-- Each read here is that of Reads by the same rule, with starts beside what stands under the names.
use Rattle.std.specs.Prelude.{List, [], ◌∷◌, ℕ, None, Option, Some}
use Rattle.wire.specs.Orders.{by_bytes}
use Rattle.wire.specs.Maps.{meet, merge, empty}
use Rattle.image.specs.Meaning.{Text, Body, Meta, Node, Changes, Fields, Change, Record, directory, file, symlink, special, tombstone, delta}
use Rattle.image.specs.Masks.{maybe}
use Rattle.image.specs.FieldLayout.{inode, value}
use Rattle.rules.specs.Changes.{map_if}
use Rattle.rules.specs.Starts.{Placed, Started, starts, attributes_at, entries_at, changes_at, added_at}

pub record PlacedRead (X : Type 0) : Type 0 where
  pub base : Option (Placed Node) → X
  pub step : Placed Record → X → X

unfoldable pub look_placed : {X : Type 0} → PlacedRead X → List (Placed Record) → Option (Placed Node) → X
look_placed R [] b = R.base b
look_placed R (r ∷ rs) b = R.step r (look_placed R rs b)

-- ---- The entries of a listing: "From the bottom: tombstone clears, a directory delta removes then adds, other kinds do nothing."

abbrev pub body_starts : ℕ → Meta → Body → Started ℕ
body_starts p m (directory parent es) = starts inode (entries_at p m parent) es
body_starts p m (file size) = empty by_bytes
body_starts p m (symlink target) = empty by_bytes
body_starts p m (special device) = empty by_bytes

abbrev pub change_starts : ℕ → Fields → Change → Started ℕ → Started ℕ
change_starts p f (directory parent added removed) es =
    merge by_bytes (λ name new old. Some new) (starts inode (added_at p f parent) added) (merge by_bytes (λ name u old. None) removed es)
change_starts p f (file n) es = es
change_starts p f (symlink t) es = es
change_starts p f (special s device) es = es

abbrev pub base_starts : Option (Placed Node) → Started ℕ
base_starts None = empty by_bytes
base_starts (Some n) = body_starts n.place n.held.meta n.held.body

abbrev pub record_starts : ℕ → Record → Started ℕ → Started ℕ
record_starts p tombstone es = empty by_bytes
record_starts p (delta d) es = change_starts p d.fields d.change es

abbrev pub placed_entries : PlacedRead (Started ℕ)
placed_entries = record { base = base_starts; step = λ r es. record_starts r.place r.held es }

-- ---- the attributes behind their names: set, with the start of the name, or removed

abbrev pub set_start : ℕ × Option Text → Option (ℕ × Text)
set_start c = map_if (λ v. (c.0, v)) c.1

abbrev pub alter_starts : ℕ → Fields → Changes → Started Text → Started Text
alter_starts p f cs vs = merge by_bytes (λ name c old. set_start c) (starts (maybe value) (changes_at p f cs) cs) vs

abbrev pub base_value_starts : Option (Placed Node) → Started Text
base_value_starts None = empty by_bytes
base_value_starts (Some n) = starts value (attributes_at n.place n.held.meta) n.held.meta.attributes

abbrev pub record_value_starts : ℕ → Record → Started Text → Started Text
record_value_starts p tombstone vs = empty by_bytes
record_value_starts p (delta d) vs = meet (alter_starts p d.fields) d.fields.attributes vs

abbrev pub placed_values : PlacedRead (Started Text)
placed_values = record { base = base_value_starts; step = λ r vs. record_value_starts r.place r.held vs }
