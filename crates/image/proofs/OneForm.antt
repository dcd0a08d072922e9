-- Each format of the image has one form, and so has the image.
-- Assumes nothing.
use Rattle.std.specs.Prelude.{List, ℕ, ◌%◌, ◌/◌, ◌≤◌, ◌≡◌, refl, true, leb, length, None, Option, Some}
use Rattle.std.proofs.Common.{arith}
use Rattle.wire.specs.Codec.{Codec, OneForm}
use Rattle.wire.specs.Combinators.{nothing, seq, ◌then◌, tagged, optional}
use Rattle.wire.specs.Number.{edge, number_to, between}
use Rattle.wire.specs.Time.{time}
use Rattle.wire.specs.Order.{Order}
use Rattle.wire.specs.Orders.{by_number, by_bytes}
use Rattle.wire.specs.Lists.{last_count, chain, row, rising}
use Rattle.wire.proofs.OneForm.{nothing-one, seq-one, then-one, via-one, restated-one, only-one, tagged-one, optional-one}
use Rattle.wire.proofs.NumberForms.{number_to-one, below-one, between-one, coded-one, text-one, time-one}
use Rattle.wire.proofs.ListForms.{chain-one, row-one, rising-one}
use Rattle.image.specs.Meaning.{Kind, Batch, kind_number, directory, file, symlink, special, pipe, character, block, socket}
use Rattle.image.specs.Fits.{FitsMap, FitsTime, FitsMeta, FitsNode, FitsFields, FitsRecord, FitsBatch, FitsBatches, FitsStore}
use Rattle.image.specs.Masks.{Masked, last, flag_at, flag, masked, maybe}
use Rattle.image.specs.FieldLayout.{inode, word, size, name, target, value, time-fits, fits-time, moment, listed, entries, attributes}
use Rattle.image.specs.KindLayout.{kind_at, kind-number, number-kind, kind-small, kind, code_at, code_number, code-number, number-code, code-small, code}
use Rattle.image.specs.NodeLayout.{meta_of, meta_parts, meta, body_part, node_of, node_parts, node-parts, parts-node, plain_node, node-fits, fits-node, node, base}
use Rattle.image.specs.RecordLayout.{changes, names, fields_of, field_parts, later_flags, flags, fields, change_part, code_part, record_of, record_parts, record-parts, parts-record, plain_record, record-fits, fits-record, layer_record, records}
use Rattle.image.specs.StoreLayout.{batch_rest, batch_of, batch_parts, least, plain_batch, batch-fits, fits-batch, batch_after, id_of, plain_batches, batches-fit, fit-batches, batches, ids_below, next_id, store_of, store_parts, plain_store, store-fits, fits-store, store}
use Rattle.image.specs.declared.name.Under.{Under}
use Rattle.image.specs.declared.name.Under.TheVariants as U
use Rattle.image.specs.Under.{under}

-- ---- fields

pub inode-one : OneForm inode
inode-one = below-one edge refl

pub word-one : OneForm word
word-one = below-one last_count refl

pub size-one : OneForm size
size-one = below-one 9223372036854775807 refl

pub name-one : OneForm name
name-one = text-one 1 255 refl

pub target-one : OneForm target
target-one = text-one 0 4095 refl

pub value-one : OneForm value
value-one = text-one 0 4096 refl

pub moment-one : OneForm moment
moment-one = restated-one FitsTime time time-fits fits-time time-one

pub listed-one : {K A : Type 0} (O : Order K) (key : Codec K) (value : Codec A) → OneForm key → OneForm value → OneForm (listed O key value)
listed-one O key value one_key one_value =
    restated-one (FitsMap key.Fits value.Fits) (rising O key value last_count refl)
    (λ m h. (omega (arith, h.count), h.each)) (λ m h. record { count = omega (arith, h.0); each = h.1 })
    (rising-one O key value one_key one_value last_count refl)

pub entries-one : OneForm entries
entries-one = listed-one by_bytes name inode name-one inode-one

pub attributes-one : OneForm attributes
attributes-one = listed-one by_bytes name value name-one value-one

-- ---- a mask, and the fields that it says are there

-- whatever the mask says, there is one form
pub record MaskedOne {A : Type 0} (d : Masked A) : Type 0 where
  pub at : (m : ℕ) → OneForm (d.at m)

pub last-one : {A : Type 0} (c : Codec A) → OneForm c → MaskedOne (last c)
last-one c one = record { at = optional-one c one }

pub flag_at-one : {A B : Type 0} (c : Codec A) (d : Masked B) → OneForm c → MaskedOne d → (m : ℕ) → OneForm (flag_at c d m)
flag_at-one c d first second m = seq-one (optional c (m % 2)) (λ _. d.at (m / 2)) (optional-one c first (m % 2)) (λ _. second.at (m / 2))

pub flag-one : {A B : Type 0} (c : Codec A) (d : Masked B) → OneForm c → MaskedOne d → MaskedOne (flag c d)
flag-one c d first second = record { at = flag_at-one c d first second }

pub masked-one : {A : Type 0} (d : Masked A) (e : leb d.top edge ≡ true) → MaskedOne d → OneForm (masked d e)
masked-one d e one =
    restated-one d.Whole (tagged (number_to d.top e) d.mask d.at (λ m a h. (d.from m a h).0))
    (λ a h. (d.small a, d.to a h)) (λ a h. (d.from (d.mask a) a h.1).1)
    (tagged-one (number_to d.top e) d.mask d.at (λ m a h. (d.from m a h).0) (number_to-one d.top e) one.at)

pub maybe-one : {A : Type 0} (c : Codec A) → OneForm c → OneForm (maybe c)
maybe-one c one = masked-one (last c) refl (last-one c one)

-- what stands under each name of a list
pub under-one : (u : Under) → OneForm (under u)
under-one U.Nothing = nothing-one
under-one U.Inode = inode-one
under-one U.Value = value-one
under-one U.Change = maybe-one value value-one

-- ---- kinds

pub kind-one : OneForm kind
unfolding kind
kind-one = coded-one 6 refl kind_at kind_number kind-number number-kind kind-small

pub code-one : OneForm code
unfolding code
code-one = coded-one 7 refl code_at code_number code-number number-code code-small

-- ---- the base

pub meta-one : OneForm meta
unfolding meta
meta-one =
    restated-one FitsMeta _ _ (λ m h. assumption h)
    (via-one meta_of meta_parts (λ m. refl) (word then word then word then word then moment then moment then moment then attributes) (λ p h. refl)
    (then-one word _ word-one (then-one word _ word-one (then-one word _ word-one (then-one word _ word-one
    (then-one moment _ moment-one (then-one moment _ moment-one (then-one moment _ moment-one attributes-one))))))))

pub body_part-one : (k : Kind) → OneForm (body_part k)
body_part-one directory = then-one inode entries inode-one entries-one
body_part-one file = size-one
body_part-one symlink = target-one
body_part-one (special pipe) = nothing-one
body_part-one (special character) = word-one
body_part-one (special block) = word-one
body_part-one (special socket) = nothing-one

pub plain_node-one : OneForm plain_node
plain_node-one =
    via-one node_of node_parts node-parts (seq kind (λ k. meta then body_part k)) (λ p h. parts-node p)
    (seq-one kind (λ k. meta then body_part k) kind-one (λ k. then-one meta (body_part k) meta-one (body_part-one k)))

pub node-one : OneForm node
unfolding node
node-one = restated-one FitsNode plain_node node-fits fits-node plain_node-one

pub base-one : OneForm base
base-one = listed-one by_number inode node inode-one node-one

-- ---- the layers

pub changes-one : OneForm changes
changes-one = listed-one by_bytes name (maybe value) name-one (maybe-one value value-one)

pub names-one : OneForm names
names-one = listed-one by_bytes name nothing name-one nothing-one

flags-one : MaskedOne flags
flags-one =
    flag-one word _ word-one (flag-one word _ word-one (flag-one word _ word-one (flag-one word later_flags word-one
    (flag-one moment _ moment-one (flag-one moment _ moment-one (flag-one moment _ moment-one
    (flag-one moment _ moment-one (last-one changes changes-one))))))))

pub fields-one : OneForm fields
unfolding fields
fields-one =
    restated-one FitsFields _ _ (λ f h. assumption h)
    (via-one fields_of field_parts (λ f. refl) (masked flags refl) (λ p h. refl) (masked-one flags refl flags-one))

pub change_part-one : (k : Kind) → OneForm (change_part k)
change_part-one directory =
    then-one (maybe inode) (entries then names) (maybe-one inode inode-one) (then-one entries names entries-one names-one)
change_part-one file = maybe-one size size-one
change_part-one symlink = maybe-one target target-one
change_part-one (special s) = word-one

pub code_part-one : (c : Option Kind) → OneForm (code_part c)
code_part-one None = nothing-one
code_part-one (Some k) = then-one fields (change_part k) fields-one (change_part-one k)

pub plain_record-one : OneForm plain_record
plain_record-one =
    via-one record_of record_parts record-parts (seq code code_part) (λ p h. parts-record p) (seq-one code code_part code-one code_part-one)

pub layer_record-one : OneForm layer_record
unfolding layer_record
layer_record-one = restated-one FitsRecord plain_record record-fits fits-record plain_record-one

pub records-one : OneForm records
records-one = listed-one by_number inode layer_record inode-one layer_record-one

-- ---- batches

pub batch_rest-one : OneForm batch_rest
batch_rest-one =
    then-one word _ word-one (then-one word _ word-one (then-one (between 1 5 refl) _ (between-one 1 5 refl) (then-one moment records moment-one records-one)))

pub plain_batch-one : (prev : Option ℕ) → OneForm (plain_batch prev)
plain_batch-one prev =
    via-one batch_of batch_parts (λ b. refl) (row by_number inode batch_rest prev) (λ p h. refl)
    (row-one by_number inode batch_rest inode-one batch_rest-one prev)

pub batch_after-one : (prev : Option ℕ) → OneForm (batch_after prev)
unfolding batch_after
batch_after-one prev =
    restated-one (λ b. (least prev ≤ b.id) × FitsBatch b) (plain_batch prev) (batch-fits prev) (fits-batch prev) (plain_batch-one prev)

pub plain_batches-one : OneForm plain_batches
plain_batches-one =
    tagged-one (number_to 16 refl) length (chain batch_after id_of None) (λ n l h. h.0) (number_to-one 16 refl)
    (chain-one batch_after id_of batch_after-one None)

pub batches-one : OneForm batches
unfolding batches
batches-one = restated-one FitsBatches plain_batches batches-fit fit-batches plain_batches-one

-- ---- the store

pub next_id-one : (bs : List Batch) → OneForm (next_id bs)
next_id-one bs = only-one (ids_below bs) inode inode-one

pub plain_store-one : OneForm plain_store
plain_store-one =
    via-one store_of store_parts (λ s. refl) (base then seq batches (λ bs. records then next_id bs then word then word then number_to 5 refl)) (λ p h. refl)
    (then-one base _ base-one (seq-one batches (λ bs. records then next_id bs then word then word then number_to 5 refl) batches-one
    (λ bs. then-one records _ records-one (then-one (next_id bs) _ (next_id-one bs)
    (then-one word _ word-one (then-one word (number_to 5 refl) word-one (number_to-one 5 refl)))))))

pub store-one : OneForm store
unfolding store
store-one = restated-one FitsStore plain_store store-fits fits-store plain_store-one
