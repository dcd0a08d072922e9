-- Document 01: "An inode's stack is its base node, its record in each batch (front first), its live record; any may be absent."
-- Here the records of a stack stand topmost first.
use Rattle.std.specs.Prelude.{List, [], ◌∷◌, ◌++◌, ℕ, None, Option, Some}
use Rattle.wire.specs.Orders.{by_number}
use Rattle.wire.specs.Maps.{get, empty}
use Rattle.image.specs.Meaning.{Base, Record, Layer, Batch, Store}

-- a record over a stack, if there is one
abbrev pub over? : Option Record → List Record → List Record
over? None rs = rs
over? (Some r) rs = r ∷ rs

-- the records that an inode has in layers, front first, over those below them
unfoldable pub stack_on : ℕ → List Layer → List Record → List Record
stack_on i [] rs = rs
stack_on i (l ∷ ls) rs = stack_on i ls (over? (get by_number i l) rs)

abbrev pub stack : ℕ → List Layer → List Record
stack i ls = stack_on i ls []

abbrev pub batch_layers : List Batch → List Layer
batch_layers [] = []
batch_layers (b ∷ bs) = b.records ∷ batch_layers bs

-- batches, front first, and a live layer over them
abbrev pub with_live : List Batch → Layer → List Layer
with_live bs live = batch_layers bs ++ (live ∷ [])

abbrev pub layers : Store → List Layer
layers s = with_live s.batches s.live

-- a base alone, with whatever next id
abbrev pub over_base : ℕ → Base → Store
over_base next base = record { base = base; batches = []; live = empty by_number; next = next; bytes = 0; operations = 0; request = 0 }

abbrev pub alone : Base → Store
alone base = over_base 0 base
