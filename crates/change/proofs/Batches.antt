-- Batches one after the other: what the code passes over, and what is written of them.
-- Assumes nothing.
use Rattle.std.specs.Prelude.{None, Option, Some}
use mathlib.Core.Path.{◌≡◌, refl, sym, ap, ◌∙◌}
use mathlib.Core.List.{List, [], ◌∷◌, ◌++◌, append-nil, append_assoc}
use Prim.Native.Nat.{ℕ}
use lib.ListN.{length}
use Rattle.std.specs.Prelude.{Result, Ok, Err}
use Rattle.wire.specs.declared.fault.Fault.{Fault}
use Rattle.wire.specs.Parse.{Parsed, got, bind}
use Rattle.wire.specs.Number.{number_bytes}
use Rattle.wire.specs.Lists.{chain_write}
use Rattle.wire.specs.Reading.{Reads, meant}
use Rattle.wire.proofs.Readers.{read-then, read-stop, handed}
use Rattle.image.specs.Meaning.{Batch}
use Rattle.image.specs.Fits.{FitsBatch}
use Rattle.image.specs.FieldLayout.{inode, word, moment}
use Rattle.image.specs.RecordLayout.{layer_record, records}
use Rattle.image.specs.StoreLayout.{batch_after, id_of, batches}
use Rattle.survey.specs.Gathering.{batch_head}
use Rattle.passes.specs.Held.{Finds}
use Rattle.image.specs.Places.{Ends}
use Rattle.passes.specs.declared.inode.Held.TheVariants as H
use Rattle.image.proofs.Passing.{ends-got, ends-fault}
use Rattle.writers.specs.Batches.{head_meant}
use Rattle.writers.specs.declared.batch.BatchHead.{BatchHead}
use Rattle.change.specs.Batches.{HeadParts, pass_batch}

-- ---- one batch

-- what is passed, with another value
ends-kept : {A B : Type 0} {img : List ℕ} {p : List ℕ → Parsed A} {at next : ℕ} (b : B) → Ends img p at (Ok next)
    → Reads img (λ s. bind (p s) (λ l q. got b q)) at (Ok (b, next))
ends-kept b h = record { same = rw (ends-got h).1; within = h.within }

kept-stop : {A B : Type 0} {img : List ℕ} {p : List ℕ → Parsed A} {at : ℕ} {f : Fault} (b : B) → Ends img p at (Err f)
    → Reads img (λ s. bind (p s) (λ l q. got b q)) at (Err f)
kept-stop b h = record { same = rw (ends-fault h); within = tt }

module _ {img : List ℕ} {at : ℕ} {o : Result (BatchHead × ℕ) Fault} (r : Reads img batch_head.read at (meant head_meant o)) where
  pub batch-unread : {f : Fault} {u : Result (BatchHead × ℕ) Fault} → o ≡ Err f → u ≡ Err f → Reads img pass_batch at (meant head_meant u)
  batch-unread d e = rw e (read-stop _ (rw d at r))

  module _ {h : BatchHead} {mid : ℕ} (d : o ≡ Ok (h, mid)) {w : Result ℕ Fault} (p : Ends img records.read mid w) where
    pub batch-unpassed : {f : Fault} {u : Result (BatchHead × ℕ) Fault} → w ≡ Err f → u ≡ Err f → Reads img pass_batch at (meant head_meant u)
    batch-unpassed c e = rw e (read-then _ (rw d at r) (kept-stop (head_meant h) (rw c at p)))

    pub batch-passed : {next : ℕ} → w ≡ Ok next → Reads img pass_batch at (Ok (head_meant h, next))
    batch-passed c = read-then _ (rw d at r) (ends-kept (head_meant h) (rw c at p))

pub ruleset passes_batch = (batch-unread, batch-unpassed, batch-passed, handed)

-- where the records of a layer end
module _ {img : List ℕ} {at : ℕ} {o : Result (Option ℕ × ℕ) Fault} (f : Finds img H.Record 0 at o) where
  pub list-ends : {place : Option ℕ} {q : ℕ} → o ≡ Ok (place, q) → Ends img records.read at (Ok q)
  unfolding layer_record
  list-ends d = let g = rw d at f in g.ends

  pub list-endless : {y : Fault} {r : Result ℕ Fault} → o ≡ Err y → r ≡ Err y → Ends img records.read at r
  unfolding layer_record
  list-endless d e = let g = rw d at f in rw e (g.ends)

pub ruleset list_ends = (list-ends, list-endless, handed)

-- ---- what is written of batches

abbrev pub head_of : Batch → HeadParts
head_of b = (b.id, (b.bytes, (b.operations, (b.reason, b.committed))))

abbrev pub batch_bytes : Batch → List ℕ
batch_bytes b = batch_head.write (head_of b) ++ records.write b.records

unfoldable pub queue_bytes : List Batch → List ℕ
queue_bytes [] = []
queue_bytes (b ∷ bs) = batch_bytes b ++ queue_bytes bs

six : (a b c d e f : List ℕ) → a ++ (b ++ (c ++ (d ++ (e ++ f)))) ≡ (a ++ (b ++ (c ++ (d ++ e)))) ++ f
six a b c d e f = simp append_assoc

chain-bytes : (prev : Option ℕ) (bs : List Batch) → chain_write batch_after id_of prev bs ≡ queue_bytes bs
unfolding batch_after queue_bytes
chain-bytes prev [] = refl
chain-bytes prev (b ∷ bs) =
    ap (λ (t : List ℕ). t ++ chain_write batch_after id_of (Some b.id) bs)
    (six (inode.write b.id) (word.write b.bytes) (word.write b.operations) (number_bytes b.reason) (moment.write b.committed) (records.write b.records))
    ∙ ap (λ (t : List ℕ). batch_bytes b ++ t) (chain-bytes (Some b.id) bs)

pub batches-bytes : (bs : List Batch) → batches.write bs ≡ number_bytes (length bs) ++ queue_bytes bs
unfolding batches
batches-bytes bs = ap (λ (t : List ℕ). number_bytes (length bs) ++ t) (chain-bytes None bs)

-- one batch more
pub queue-more : (bs : List Batch) (b : Batch) → queue_bytes (bs ++ (b ∷ [])) ≡ queue_bytes bs ++ batch_bytes b
unfolding queue_bytes
queue-more [] b = append-nil (batch_bytes b)
queue-more (a ∷ bs) b =
    ap (λ (t : List ℕ). batch_bytes a ++ t) (queue-more bs b) ∙ sym (append_assoc (batch_bytes a) (queue_bytes bs) (batch_bytes b))

-- what is passed of a batch that was written
pub pass-back : (b : Batch) (t : List ℕ) → FitsBatch b → pass_batch (batch_bytes b ++ t) ≡ got (head_of b) t
unfolding layer_record
pass-back b t h =
    ap pass_batch (append_assoc (batch_head.write (head_of b)) (records.write b.records) t)
    ∙ rw (
      batch_head.back (head_of b) (records.write b.records ++ t) (h.id, (h.bytes, (h.operations, (h.reason, h.committed)))),
      records.back b.records t h.records,
    )
