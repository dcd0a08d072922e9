-- Document 01: "Order: base, batches, live, next id, staged bytes, staged operations, request." "Batch: id, bytes, operations, reason 1 to
-- 5, commit time, records; at most 16, ids rising, below next id."
use Rattle.std.specs.Prelude.{ℕ, suc, ◌≤◌, ◌<◌, ◌≡◌, refl, Bool, true, false, cond, List, [], ◌∷◌, ltb, length, None, Option, Some}
use Rattle.std.proofs.Common.{arith, lt-ltb, ltb-true}
use Rattle.wire.specs.declared.time.Time.{Time}
use Rattle.std.specs.declared.cmp.Ordering.{Ordering}
use Rattle.std.specs.declared.cmp.Ordering.TheVariants.{Less, Equal, Greater}
use Rattle.wire.specs.Codec.{Codec}
use Rattle.wire.specs.Combinators.{seq, ◌then◌, via, restated, only, tagged}
use Rattle.wire.specs.Number.{number_to, between}
use Rattle.wire.specs.Orders.{by_number, cmp_n, less-N, Says, says}
use Rattle.wire.specs.Lists.{chain, All, Every, is_less, after, row}
use Rattle.image.specs.Meaning.{Base, Layer, Batch, Store}
use Rattle.image.specs.Fits.{FitsBatch, RisingIds, FitsBatches, FitsStore}
use Rattle.image.specs.FieldLayout.{inode, word, moment}
use Rattle.image.specs.NodeLayout.{node, base}
use Rattle.image.specs.RecordLayout.{layer_record, records}

-- ---- batches

abbrev pub BatchRest : Type 0
BatchRest = ℕ × (ℕ × (ℕ × (Time × Layer)))

-- what follows the id
abbrev pub batch_rest : Codec BatchRest
batch_rest = word then word then between 1 5 refl then moment then records

abbrev pub batch_of : ℕ × BatchRest → Batch
batch_of p = record { id = p.0; bytes = p.1.0; operations = p.1.1.0; reason = p.1.1.1.0; committed = p.1.1.1.1.0; records = p.1.1.1.1.1 }

abbrev pub batch_parts : Batch → ℕ × BatchRest
batch_parts b = (b.id, (b.bytes, (b.operations, (b.reason, (b.committed, b.records)))))

-- the least id after the one before it, if there is one
abbrev pub least : Option ℕ → ℕ
least None = 0
least (Some id) = suc id

-- an id is judged by the one before it
abbrev pub rises : Option ℕ → ℕ → Bool
rises = after by_number

pub least-rises : (prev : Option ℕ) (n : ℕ) → least prev ≤ n → rises prev n ≡ true
least-rises None n h = refl
least-rises (Some p) n h = rw (less-N p n h)

pub rises-least : (prev : Option ℕ) (n : ℕ) → rises prev n ≡ true → least prev ≤ n
rises-least None n h = omega arith
rises-least (Some p) n h = go (cmp_n p n) (says p n) h
  where
    go : (o : Ordering) → Says p n o → is_less o ≡ true → suc p ≤ n
    go Less s e = omega (arith, s)
    go Equal s e = cc
    go Greater s e = cc

abbrev pub plain_batch : Option ℕ → Codec Batch
plain_batch prev = via batch_of batch_parts (λ b. refl) (row by_number inode batch_rest prev) (λ p h. refl)

pub batch-fits : (prev : Option ℕ) (b : Batch) → (least prev ≤ b.id) × FitsBatch b → (plain_batch prev).Fits b
unfolding layer_record
batch-fits prev b h =
    let f = h.1 in
    ((f.id, least-rises prev b.id h.0), (f.bytes, (f.operations, (f.reason, (f.committed, f.records)))))

pub fits-batch : (prev : Option ℕ) (b : Batch) → (plain_batch prev).Fits b → (least prev ≤ b.id) × FitsBatch b
unfolding layer_record
fits-batch prev b h = (
  rises-least prev b.id h.0.1,
  record { id = h.0.0; bytes = h.1.0; operations = h.1.1.0; reason = h.1.1.1.0; committed = h.1.1.1.1.0; records = h.1.1.1.1.1 },
)

-- a batch after the id before it
unfoldable pub batch_after : Option ℕ → Codec Batch
batch_after prev = restated (λ b. (least prev ≤ b.id) × FitsBatch b) (plain_batch prev) (batch-fits prev) (fits-batch prev)

abbrev pub id_of : Option ℕ → Batch → Option ℕ
id_of prev b = Some b.id

-- "at most 16, ids rising"
abbrev pub plain_batches : Codec (List Batch)
plain_batches = tagged (number_to 16 refl) length (chain batch_after id_of None) (λ n l h. h.0)

fits_all : (prev : Option ℕ) (bs : List Batch) → Every (λ b. least prev ≤ b.id) bs → Every FitsBatch bs → RisingIds bs → All batch_after id_of prev bs
unfolding batch_after
fits_all prev [] l f r = tt
fits_all prev (b ∷ bs) l f r = ((l.0, f.0), fits_all (Some b.id) bs r.0 f.1 r.1)

lower : (m n : ℕ) (bs : List Batch) → m ≤ n → Every (λ b. n < b.id) bs → Every (λ b. m ≤ b.id) bs
lower m n [] h l = tt
lower m n (b ∷ bs) h l = (omega (arith, l.0), lower m n bs h l.1)

all-fits : (prev : Option ℕ) (bs : List Batch) → All batch_after id_of prev bs → Every (λ b. least prev ≤ b.id) bs × Every FitsBatch bs × RisingIds bs
unfolding batch_after
all-fits prev [] h = (tt, tt, tt)
all-fits prev (b ∷ bs) h =
    let i = all-fits (Some b.id) bs h.1 in
    ((h.0.0, lower (least prev) b.id bs h.0.0 i.0), (h.0.1, i.1), (i.0, i.2))

none-least : (bs : List Batch) → Every (λ b. 0 ≤ b.id) bs
none-least [] = tt
none-least (b ∷ bs) = (omega arith, none-least bs)

pub batches-fit : (bs : List Batch) → FitsBatches bs → plain_batches.Fits bs
batches-fit bs h = (h.count, (refl, fits_all None bs (none-least bs) h.each h.rising))

pub fit-batches : (bs : List Batch) → plain_batches.Fits bs → FitsBatches bs
fit-batches bs h = let a = all-fits None bs h.1.1 in record { count = h.0; each = a.1; rising = a.2 }

unfoldable pub batches : Codec (List Batch)
batches = restated FitsBatches plain_batches batches-fit fit-batches

-- ---- the store

-- every id is below n
abbrev pub ids_below : List Batch → ℕ → Bool
ids_below [] n = true
ids_below (b ∷ bs) n = cond (ltb b.id n) (ids_below bs n) false

pub every-below : (bs : List Batch) (n : ℕ) → Every (λ b. b.id < n) bs → ids_below bs n ≡ true
every-below [] n h = refl
every-below (b ∷ bs) n h = rw (lt-ltb b.id n h.0) (every-below bs n h.1)

pub below-every : (bs : List Batch) (n : ℕ) → ids_below bs n ≡ true → Every (λ b. b.id < n) bs
below-every [] n h = tt
below-every (b ∷ bs) n h = go (ltb b.id n) refl h (below-every bs n)
  where
    go : (t : Bool) → ltb b.id n ≡ t → cond t (ids_below bs n) false ≡ true → (ids_below bs n ≡ true → Every (λ b. b.id < n) bs)
        → Every (λ b. b.id < n) (b ∷ bs)
    go true e h rest = (ltb-true b.id n e, rest h)
    go false e h rest = cc

-- next id, judged by the ids as soon as it is read
abbrev pub next_id : List Batch → Codec ℕ
next_id bs = only (ids_below bs) inode

abbrev pub StoreParts : Type 0
StoreParts = Base × (List Batch × (Layer × (ℕ × (ℕ × (ℕ × ℕ)))))

abbrev pub store_of : StoreParts → Store
store_of p = record {
  base = p.0;
  batches = p.1.0;
  live = p.1.1.0;
  next = p.1.1.1.0;
  bytes = p.1.1.1.1.0;
  operations = p.1.1.1.1.1.0;
  request = p.1.1.1.1.1.1;
}

abbrev pub store_parts : Store → StoreParts
store_parts s = (s.base, (s.batches, (s.live, (s.next, (s.bytes, (s.operations, s.request))))))

abbrev pub plain_store : Codec Store
plain_store =
    via store_of store_parts (λ s. refl)
    (base then seq batches (λ bs. records then next_id bs then word then word then number_to 5 refl)) (λ p h. refl)

pub store-fits : (s : Store) → FitsStore s → plain_store.Fits s
unfolding node layer_record batches
store-fits s h =
    (h.base, (h.batches, (h.live, ((h.next, every-below s.batches s.next h.ids), (h.bytes, (h.operations, h.request))))))

pub fits-store : (s : Store) → plain_store.Fits s → FitsStore s
unfolding node layer_record batches
fits-store s h = record {
  base = h.0;
  batches = h.1.0;
  live = h.1.1.0;
  next = h.1.1.1.0.0;
  ids = below-every s.batches s.next h.1.1.1.0.1;
  bytes = h.1.1.1.1.0;
  operations = h.1.1.1.1.1.0;
  request = h.1.1.1.1.1.1;
}

-- the whole image but for "nothing follows", which `decode` asks
unfoldable pub store : Codec Store
store = restated FitsStore plain_store store-fits fits-store
