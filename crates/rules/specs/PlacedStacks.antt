-- The stack of an inode in an image, each node and record with its place. Whatever the bytes are, it is defined.
use Rattle.std.specs.Prelude.{List, [], ◌∷◌, ◌++◌, map, ℕ, ◌-◌, length, drop, None, Option, Some, option_and_then}
use Rattle.wire.specs.Parse.{Parsed, fault, got}
use Rattle.wire.specs.Codec.{Codec}
use Rattle.wire.specs.Orders.{by_number}
use Rattle.image.specs.Meaning.{Node, Record}
use Rattle.image.specs.FieldLayout.{inode}
use Rattle.image.specs.NodeLayout.{node, base}
use Rattle.image.specs.RecordLayout.{layer_record}
use Rattle.image.specs.StoreLayout.{batches}
use Rattle.image.specs.Places.{if_read, place_in}
use Rattle.survey.specs.Gathering.{list_if, or_none, queue_places}
use Rattle.rules.specs.Changes.{map_if}
use Rattle.rules.specs.Starts.{Placed}

-- ---- places

-- the place after what was read
abbrev pub place_after : {A : Type 0} → List ℕ → Parsed A → Option ℕ
place_after img (fault f) = None
place_after img (got a r) = Some (length img - length r)

-- "Order: base, batches, live"
abbrev pub batches_at : List ℕ → Option ℕ
batches_at img = place_after img (base.read (drop 0 img))

abbrev pub live_at : List ℕ → Option ℕ
live_at img = option_and_then (λ n. place_after img (batches.read (drop n img))) (batches_at img)

unfoldable pub node_place : List ℕ → ℕ → Option ℕ
node_place img i = place_in by_number inode node img i 0

-- "its record in each batch (front first), its live record"
unfoldable pub record_places : List ℕ → ℕ → List ℕ
record_places img i = or_none (batches_at img) (queue_places img i) ++ list_if (option_and_then (place_in by_number inode layer_record img i) (live_at img))

-- ---- what they hold

abbrev pub read_at : {A : Type 0} → Codec A → List ℕ → ℕ → Option (Placed A)
read_at c img p = if_read (c.read (drop p img)) (λ a r. Some (record { place = p; held = a }))

abbrev pub node_at : List ℕ → Option ℕ → Option (Placed Node)
node_at img None = None
node_at img (Some p) = read_at node img p

-- a record over a stack, if there is one
abbrev pub on_top : Option (Placed Record) → List (Placed Record) → List (Placed Record)
on_top None rs = rs
on_top (Some r) rs = r ∷ rs

-- the records at places, front first, over those below them
unfoldable pub records_on : List ℕ → List ℕ → List (Placed Record) → List (Placed Record)
records_on img [] rs = rs
records_on img (p ∷ ps) rs = records_on img ps (on_top (read_at layer_record img p) rs)

-- the records of an inode, topmost first, and its base node
abbrev pub placed_records : List ℕ → ℕ → List (Placed Record)
placed_records img i = records_on img (record_places img i) []

abbrev pub placed_node : List ℕ → ℕ → Option (Placed Node)
placed_node img i = node_at img (node_place img i)

-- the stack without places
abbrev pub unplaced : List (Placed Record) → List Record
unplaced rs = map (λ r. r.held) rs

abbrev pub unplaced_node : Option (Placed Node) → Option Node
unplaced_node b = map_if (λ n. n.held) b
