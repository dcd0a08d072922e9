-- The parts of a store changed, and the queue of batches: freeze, fold, pop, note, request, snapshot.
use Rattle.std.specs.Prelude.{List, [], ◌∷◌, ◌++◌, Bool, true, false, ◌||◌, not, ℕ, zero, suc, ◌+◌, eqb, Option}
use Rattle.wire.specs.declared.time.Time.{Time}
use Rattle.wire.specs.Orders.{by_number}
use Rattle.wire.specs.Maps.{merge, empty, get, keep}
use Rattle.image.specs.Meaning.{Kind, Node, Base, Record, Layer, Batch, Store, directory, file, symlink, special, kind_of}
use Rattle.rules.specs.Initial.{Initial}
use Rattle.rules.specs.Fold.{fold_record}
use Rattle.rules.specs.Stacks.{stack, batch_layers, layers, over_base}
use Rattle.rules.specs.Reads.{look, type}
use Rattle.rules.specs.Changes.{alter}

-- a store with one part changed
abbrev pub set_live : Layer → Store → Store
set_live l s = record { base = s.base; batches = s.batches; live = l; next = s.next; bytes = s.bytes; operations = s.operations; request = s.request }

abbrev pub set_batches : List Batch → Store → Store
set_batches bs s = record { base = s.base; batches = bs; live = s.live; next = s.next; bytes = s.bytes; operations = s.operations; request = s.request }

abbrev pub set_base : Base → Store → Store
set_base base s = record { base = base; batches = s.batches; live = s.live; next = s.next; bytes = s.bytes; operations = s.operations; request = s.request }

abbrev pub on_live : ℕ → (Option Record → Option Record) → Store → Store
on_live i f s = set_live (alter i f s.live) s

-- the type that base and batches show
abbrev pub type_below : Store → ℕ → Option Kind
type_below s i = look type (stack i (batch_layers s.batches)) (get by_number i s.base)

-- "Freeze moves live to the back as a batch, with next id, staged counts, requested reason (else Threshold) and commit time; live, counts
-- and request become empty and next id rises by 1."
abbrev pub reason_of : ℕ → ℕ
reason_of zero = 5
reason_of (suc n) = suc n

abbrev pub frozen_batch : Time → Store → Batch
frozen_batch t s = record { id = s.next; bytes = s.bytes; operations = s.operations; reason = reason_of s.request; committed = t; records = s.live }

abbrev pub frozen : Time → Store → Store
frozen t s = record { base = s.base; batches = s.batches ++ (frozen_batch t s ∷ []); live = empty by_number; next = suc s.next; bytes = 0; operations = 0; request = 0 }

-- "Pop removes the front"
abbrev pub popped : List Batch → List Batch
popped [] = []
popped (b ∷ bs) = bs

-- "Note adds one operation and given bytes to the staged counts; request sets the reason."
abbrev pub noted : ℕ → Store → Store
noted n s = record { base = s.base; batches = s.batches; live = s.live; next = s.next; bytes = s.bytes + n; operations = s.operations + 1; request = s.request }

abbrev pub requested : ℕ → Store → Store
requested r s = record { base = s.base; batches = s.batches; live = s.live; next = s.next; bytes = s.bytes; operations = s.operations; request = r }

-- "drops non-directories with 0 links"
abbrev pub is_directory : Kind → Bool
is_directory directory = true
is_directory file = false
is_directory symlink = false
is_directory (special s) = false

abbrev pub kept : Node → Bool
kept n = not (eqb n.meta.links 0) || is_directory (kind_of n.body)

module _ (initial : Initial) where
  -- a layer applied to a base
  abbrev pub fold_layer : Layer → Base → Base
  fold_layer l base = merge by_number (λ i r n. fold_record initial r n) l base

  -- every layer, front first
  unfoldable pub fold_all : List Layer → Base → Base
  fold_all [] base = base
  fold_all (l ∷ ls) base = fold_all ls (fold_layer l base)

  -- "Fold applies the front batch to the base."
  abbrev pub fold_front : List Batch → Base → Base
  fold_front [] base = base
  fold_front (b ∷ bs) base = fold_layer b.records base

  -- "Snapshot folds every layer, then drops non-directories with 0 links; no batches, live, counts or request remain; next id is kept."
  unfoldable pub snapshot : Store → Store
  snapshot s = over_base s.next (keep by_number (λ i n. kept n) (fold_all (layers s) s.base))
