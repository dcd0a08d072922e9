-- A walk over the base and the first layers of an image that may be used.
use Rattle.std.specs.Prelude.{◌≡◌, List, [], ◌∷◌, ◌++◌, map, ℕ, zero, suc, ◌-◌, ◌≤◌, ◌<◌, length, take, get_or}
use Rattle.wire.specs.Number.{edge}
use Rattle.wire.specs.Orders.{by_number}
use Rattle.wire.specs.Maps.{empty}
use Rattle.image.specs.Meaning.{Base, Layer, Batch, Store}
use Rattle.image.specs.RecordLayout.{records}
use Rattle.survey.specs.Gathering.{batch_head}
use Rattle.rules.specs.Stacks.{layers}
use Rattle.rules.proofs.MapValues.{map_row}
use Rattle.change.specs.Sections.{Spans, Stands}
use Rattle.survey.specs.declared.store.Sections.{Sections}
use Rattle.change.proofs.Batches.{head_of, queue_bytes}
use Rattle.walk.specs.Runs.{of_node, of_record, Row}
use Rattle.walk.specs.Ready.{sources_in, Ready}
use Rattle.walk.specs.Walks.{sources_of, stacks_of}
use Rattle.walk.specs.declared.walk.Walk.{Walk}
use Rattle.walk.specs.declared.open.Layers.{Layers}

-- ---- maps as rows

abbrev pub node_rows : Base → List Row
node_rows b = map (map_row by_number of_node) b.rows

abbrev pub record_rows : Layer → List Row
record_rows l = map (map_row by_number of_record) l.rows

-- layers, the lowest first, over what is beneath them
unfoldable pub layers_on : List Layer → List (List Row) → List (List Row)
layers_on [] ss = ss
layers_on (l ∷ ls) ss = layers_on ls (record_rows l ∷ ss)

-- the walk is over this base and these layers
pub record Over (b : Base) (ls : List Layer) (w : Walk) : Type 0 where
  pub are : sources_of w ≡ layers_on ls (node_rows b ∷ [])

-- ---- where layers stand

-- what stands before the records of a layer: a batch's head
unfoldable pub lead : List Batch → ℕ → List ℕ
lead [] i = []
lead (b ∷ bs) zero = batch_head.write (head_of b)
lead (b ∷ bs) (suc i) = lead bs i

-- the bytes of the layers from one on, live last
unfoldable pub layer_bytes : List Batch → Layer → ℕ → List ℕ
layer_bytes [] live zero = records.write live
layer_bytes [] live (suc i) = []
layer_bytes (b ∷ bs) live zero = queue_bytes (b ∷ bs) ++ records.write live
layer_bytes (b ∷ bs) live (suc i) = layer_bytes bs live i

abbrev pub layer_at : Store → ℕ → Layer
layer_at s i = get_or (layers s) i (empty by_number)

-- ---- what is promised

-- the records of the topmost of the first n layers of a store are from one place to another, and the other layers follow
pub record TopAt (img : List ℕ) (s : Store) (tail n from to : ℕ) : Type 0 where
  pub top : 0 < n → Spans img from (records.write (layer_at s (n - 1))) to
  pub rest : Spans img to (layer_bytes s.batches s.live n) tail

-- over the first n layers of a store, which have no more inodes than a number can say: the topmost is from `top` to `end`, and the others follow
pub record LayersOf (img : List ℕ) (s : Store) (tail n : ℕ) (r : Layers) : Type 0 where
  pub ready : Ready img r.runs
  pub are : sources_in img r.runs ≡ layers_on (take n (layers s)) (node_rows s.base ∷ [])
  pub few : length (stacks_of (sources_in img r.runs)) ≤ edge
  pub at : TopAt img s tail n r.top r.end

pub record OpensLayers (img : List ℕ) (p : Sections) (n : ℕ) (r : Layers) : Type 0 where
  pub opens : (s : Store) → Stands img p s → n ≤ length (layers s) → LayersOf img s p.tail n r
