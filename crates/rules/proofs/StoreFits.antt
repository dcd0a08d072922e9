-- A store that fits, changed in one part, fits but for counts.
use Rattle.std.specs.Prelude.{Option}
use mathlib.Core.Path.{◌≡◌, refl, ap}
use mathlib.Core.List.{List, [], ◌∷◌, ◌++◌}
use Prim.Native.Nat.{ℕ, zero, suc, ◌^◌, ◌≤◌, ◌<◌}
use native.Mathlib.Omega.{arith}
use lib.ListN.{length, length-append}
use Rattle.wire.specs.declared.time.Time.{Time}
use Rattle.wire.specs.Lists.{Every}
use Rattle.image.specs.Meaning.{Base, Record, Layer, Batch, Store}
use Rattle.image.specs.Fits.{IfGiven, FitsInode, FitsTime, RisingIds, MapFits, NodeFits, RecordFits, LayerFits, BatchFits, BatchesFits, StoreFits}
use Rattle.rules.specs.Stacks.{with_live}
use Rattle.rules.specs.Normalise.{normal_batch, normal_batches, normal_live}
use Rattle.rules.specs.Queue.{set_live, set_batches, set_base, on_live, reason_of, frozen_batch, frozen, popped}
use Rattle.rules.proofs.EachRow.{Any, empty-fits}
use Rattle.rules.proofs.LiveFits.{alter-fits, normal-fits}

-- ---- one part

pub live-fits : (l : Layer) (s : Store) → LayerFits Any l → StoreFits Any s → StoreFits Any (set_live l s)
live-fits l s k h =
    record { base = h.base; batches = h.batches; live = k; next = h.next; ids = h.ids; bytes = h.bytes; operations = h.operations; request = h.request }

pub base-fits : (b : Base) (s : Store) → MapFits Any FitsInode (NodeFits Any) b → StoreFits Any s → StoreFits Any (set_base b s)
base-fits b s k h =
    record { base = k; batches = h.batches; live = h.live; next = h.next; ids = h.ids; bytes = h.bytes; operations = h.operations; request = h.request }

pub batches-fit : (bs : List Batch) (s : Store) → BatchesFits Any bs → Every (λ b. b.id < s.next) bs → StoreFits Any s → StoreFits Any (set_batches bs s)
batches-fit bs s k i h =
    record { base = h.base; batches = k; live = h.live; next = h.next; ids = i; bytes = h.bytes; operations = h.operations; request = h.request }

-- a change of one live record
pub on-live-fits : (i : ℕ) (f : Option Record → Option Record) (s : Store) → FitsInode i
    → ((o : Option Record) → IfGiven (RecordFits Any) o → IfGiven (RecordFits Any) (f o)) → StoreFits Any s → StoreFits Any (on_live i f s)
on-live-fits i f s k step h = live-fits _ s (alter-fits i f s.live k step h.live) h

pub layers-fit : (bs : List Batch) (l : Layer) → Every (BatchFits Any) bs → LayerFits Any l → Every (LayerFits Any) (with_live bs l)
layers-fit [] l h k = (k, tt)
layers-fit (b ∷ bs) l h k = (h.0.records, layers-fit bs l h.1 k)

-- ---- normalise: batches keep their number and their ids

module _ (base : Base) where
  normal-each : (P : Batch → Type 0) → ((under : List Layer) (b : Batch) → P b → P (normal_batch under base b)) → (under : List Layer) (bs : List Batch) (p : ℕ)
      → Every P bs → Every P (normal_batches under base bs p)
  unfolding normal_batches
  normal-each P f under [] p h = tt
  normal-each P f under (b ∷ bs) zero h = (f under b h.0, h.1)
  normal-each P f under (b ∷ bs) (suc p) h = (h.0, normal-each P f (under ++ (b.records ∷ [])) bs p h.1)

  normal-rising : (under : List Layer) (bs : List Batch) (p : ℕ) → RisingIds bs → RisingIds (normal_batches under base bs p)
  unfolding normal_batches
  normal-rising under [] p h = tt
  normal-rising under (b ∷ bs) zero h = h
  normal-rising under (b ∷ bs) (suc p) h =
      let more = under ++ (b.records ∷ []) in
      (normal-each (λ c. b.id < c.id) (λ u c l. l) more bs p h.0, normal-rising more bs p h.1)

  normal-length : (under : List Layer) (bs : List Batch) (p : ℕ) → length (normal_batches under base bs p) ≡ length bs
  unfolding normal_batches
  normal-length under [] p = refl
  normal-length under (b ∷ bs) zero = refl
  normal-length under (b ∷ bs) (suc p) = ap suc (normal-length (under ++ (b.records ∷ [])) bs p)

  batch-fits : (under : List Layer) (b : Batch) → BatchFits Any b → BatchFits Any (normal_batch under base b)
  batch-fits under b h =
      record { id = h.id; bytes = h.bytes; operations = h.operations; reason = h.reason; committed = h.committed; records = normal-fits under base b.records h.records }

  live-normal : (under : List Layer) (bs : List Batch) (p : ℕ) (l : Layer) → LayerFits Any l → LayerFits Any (normal_live under base bs p l)
  unfolding normal_live
  live-normal under [] zero l h = normal-fits under base l h
  live-normal under [] (suc p) l h = h
  live-normal under (b ∷ bs) zero l h = h
  live-normal under (b ∷ bs) (suc p) l h = live-normal (under ++ (b.records ∷ [])) bs p l h

pub normalised-fits : (p : ℕ) (s : Store) → StoreFits Any s
    → StoreFits Any (set_batches (normal_batches [] s.base s.batches p) (set_live (normal_live [] s.base s.batches p s.live) s))
normalised-fits p s h =
    batches-fit _ (set_live (normal_live [] s.base s.batches p s.live) s)
    (record {
      count = rw (normal-length s.base [] s.batches p) h.batches.count;
      each = normal-each s.base (BatchFits Any) (batch-fits s.base) [] s.batches p h.batches.each;
      rising = normal-rising s.base [] s.batches p h.batches.rising;
    })
    (normal-each s.base (λ b. b.id < s.next) (λ u b l. l) [] s.batches p h.ids)
    (live-fits _ s (live-normal s.base [] s.batches p s.live h.live) h)

-- ---- freeze, pop

every_append : (P : Batch → Type 0) (bs : List Batch) (b : Batch) → Every P bs → P b → Every P (bs ++ (b ∷ []))
every_append P [] b h k = (k, tt)
every_append P (c ∷ bs) b h k = (h.0, every_append P bs b h.1 k)

rising-append : (bs : List Batch) (b : Batch) → RisingIds bs → Every (λ c. c.id < b.id) bs → RisingIds (bs ++ (b ∷ []))
rising-append [] b h k = (tt, tt)
rising-append (c ∷ bs) b h k = (every_append (λ d. c.id < d.id) bs b h.0 k.0, rising-append bs b h.1 k.1)

later : (n : ℕ) (bs : List Batch) → Every (λ b. b.id < n) bs → Every (λ b. b.id < suc n) bs
later n [] h = tt
later n (b ∷ bs) h = (omega (arith, h.0), later n bs h.1)

reason-fits : (r : ℕ) → r ≤ 5 → (1 ≤ reason_of r) × (reason_of r ≤ 5)
reason-fits zero h = (omega arith, omega arith)
reason-fits (suc r) h = (omega arith, h)

pub frozen-fits : (t : Time) (s : Store) → FitsTime t → length s.batches < 16 → suc s.next < 2 ^ 64 → StoreFits Any s → StoreFits Any (frozen t s)
frozen-fits t s f few n h = record {
  base = h.base;
  batches = record {
    count = omega (arith, length-append s.batches (frozen_batch t s ∷ []));
    each = every_append (BatchFits Any) s.batches (frozen_batch t s) h.batches.each
        (record { id = h.next; bytes = omega (arith, h.bytes); operations = omega (arith, h.operations); reason = reason-fits s.request h.request; committed = f; records = h.live });
    rising = rising-append s.batches (frozen_batch t s) h.batches.rising h.ids;
  };
  live = empty-fits;
  next = n;
  ids = every_append (λ b. b.id < suc s.next) s.batches (frozen_batch t s) (later s.next s.batches h.ids) (omega arith);
  bytes = omega arith;
  operations = omega arith;
  request = omega arith;
}

pub popped-fits : (s : Store) → StoreFits Any s → StoreFits Any (set_batches (popped s.batches) s)
popped-fits s h = go s.batches h.batches h.ids
  where
    go : (bs : List Batch) → BatchesFits Any bs → Every (λ b. b.id < s.next) bs → StoreFits Any (set_batches (popped bs) s)
    go [] k i = batches-fit [] s k i h
    go (b ∷ bs) k i = batches-fit bs s (record { count = let l : suc (length bs) ≤ 16 = k.count in omega arith; each = k.each.1; rising = k.rising.1 }) i.1 h
