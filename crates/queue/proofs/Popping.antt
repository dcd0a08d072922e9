-- The queue of an image that may be used, and pop.
-- Assumes nothing.
use mathlib.Core.Path.{◌≡◌, refl, sym, ap, ◌∙◌}
use mathlib.Core.List.{List, [], ◌∷◌, ◌++◌, append_assoc}
use Prim.Native.Nat.{ℕ, ◌+◌, ◌-◌, ◌≤◌}
use native.Mathlib.Omega.{arith}
use lib.ListN.{length, drop_of_length-le}
use borrow.Author.Tests.{eq-eqb, ne_eqb}
use Rattle.std.specs.Prelude.{Result, Ok, Err, IsOk}
use Rattle.wire.specs.declared.fault.Fault.{Fault}
use Rattle.wire.specs.Number.{number_bytes}
use Rattle.wire.specs.Reading.{Reads, meant}
use Rattle.image.specs.Meaning.{Batch, Store}
use Rattle.image.specs.Fits.{FitsBatch}
use Rattle.image.specs.NodeLayout.{base}
use Rattle.image.specs.RecordLayout.{records}
use Rattle.image.specs.RoundTrip.{write_image}
use Rattle.image.specs.Rows.{RowsAt}
use Rattle.image.specs.declared.rows.Rows.{Rows}
use Rattle.writers.specs.Tails.{tail}
use Rattle.rules.specs.Initial.{usual}
use Rattle.rules.specs.Calls.{Call}
use Rattle.rules.specs.Queue.{set_batches, popped}
use Rattle.rules.specs.Outcomes.{result}
use Rattle.rules.specs.ChangeCalls.{pop_flushed_batch}
use Rattle.change.specs.Changed.{Changes, if_fits}
use Rattle.change.specs.Sections.{Spans, tail_of, Stands}
use Rattle.change.specs.Batches.{HeadParts, pass_batch}
use Rattle.waiting.specs.NewQueues.{requeued}
use Rattle.survey.specs.declared.refusal.Refusal.{Refusal}
use Rattle.survey.specs.declared.refusal.Refusal.TheVariants as D
use Rattle.writers.specs.Batches.{head_meant}
use Rattle.writers.specs.declared.batch.BatchHead.{BatchHead}
use Rattle.survey.specs.declared.store.Sections.{Sections}
use Rattle.change.proofs.Sections.{span-part, span-front, span-back, span-both, reads-got, meant-ok, meant-is, store_bytes, stands-fits}
use Rattle.change.proofs.Finishing.{changes-refused, changes-made}
use Rattle.change.proofs.Queued.{rows-count, rows-queue}
use Rattle.change.proofs.Batches.{head_of, batch_bytes, queue_bytes, batches-bytes, pass-back}

first_of : {A : Type 0} (l : List A) → (length l ≡ 0 → ⊥) → (a : A) × (t : List A) × (l ≡ a ∷ t)
first_of [] h = absurd (h refl)
first_of (a ∷ l) h = (a, l, refl)

module _ {img : List ℕ} {p : Sections} {s : Store} (w : Stands img p s) {rows : Rows} (a : RowsAt img 16 p.batches rows) where
  -- the front batch, and those after it
  module _ {b : Batch} {bs : List Batch} (e : s.batches ≡ b ∷ bs) where
    front-span : Spans img rows.first (batch_bytes b ++ queue_bytes bs) p.live
    unfolding queue_bytes
    front-span = rw e at (rows-queue w a)

    front_fits : FitsBatch b
    front_fits = (rw e at (stands-fits w).batches.each).0

    module _ (u : Result (BatchHead × ℕ) Fault) (r : Reads img pass_batch rows.first (meant head_meant u)) where
      front_read : meant head_meant u ≡ Ok (head_of b, rows.first + length (batch_bytes b))
      front_read =
          let f = span-front (batch_bytes b) (queue_bytes bs) front-span in
          reads-got img (ap pass_batch f.is ∙ pass-back b _ front_fits) f.within r

      module _ {v : BatchHead × ℕ} (z : u ≡ Ok v) where
        front-is : ◌≡◌ {A = HeadParts × ℕ} (head_meant v.0, v.1) (head_of b, rows.first + length (batch_bytes b))
        front-is = meant-is head_meant front_read z

        rest-span : Spans img v.1 (queue_bytes bs) p.live
        rest-span = rw (ap (λ (k : HeadParts × ℕ). k.1) front-is) (span-back (batch_bytes b) (queue_bytes bs) front-span)

        popped-bytes : requeued img p (record { first = v.1; count = rows.count - 1 }) ≡ write_image (set_batches bs s)
        popped-bytes =
            let n : rows.count - 1 ≡ length bs = omega (arith, rows-count w a, ap length e) in
            rw (n, span-part w.base, span-part (span-both rest-span (span-both w.live w.tail)), store_bytes, batches-bytes)
            (ap (λ (t : List ℕ). base.write s.base ++ t)
            (sym (append_assoc (number_bytes (length bs)) (queue_bytes bs) (records.write s.live ++ tail.write (tail_of s)))))

  -- ---- "Pop removes the front"

  pub pop-none : (id : ℕ) {old : List ℕ} → (1 ≤ rows.count → ⊥) → Changes (pop_flushed_batch usual img id (length old)) old (Err D.NoBatch) old
  pop-none id h = changes-refused (Call.pop id) w (rw (drop_of_length-le s.batches {i = 0} (omega (arith, rows-count w a, h))))

  module _ {n : ℕ} (left : (1 ≤ rows.count) × (n ≡ rows.count - 1)) (u : Result (BatchHead × ℕ) Fault)
      (r : Reads img pass_batch rows.first (meant head_meant u)) where
    front : (b : Batch) × (bs : List Batch) × (s.batches ≡ b ∷ bs)
    front = first_of s.batches (λ z. let k = left.0 in absurd (omega (arith, rows-count w a)))

    pub front-ok : IsOk u
    front-ok = meant-ok head_meant u (front_read front.2 u r)

    module _ {v : BatchHead × ℕ} (z : u ≡ Ok v) where
      front-id : v.0.id ≡ front.0.id
      front-id = ap (λ (k : HeadParts × ℕ). k.0.0) (front-is front.2 u r z)

      pub pop-other : (id : ℕ) {old : List ℕ} → (v.0.id ≡ id → ⊥) → Changes (pop_flushed_batch usual img id (length old)) old (Err D.WrongBatch) old
      pop-other id d = changes-refused (Call.pop id) w (rw (front.2, ne_eqb id front.0.id (λ z. d (front-id ∙ sym z))))

      pub pop-made : (id : ℕ) {old new : List ℕ} {answer : Result ℕ Refusal} → v.0.id ≡ id
          → Changes (if_fits (requeued img p (record { first = v.1; count = n })) (length old)) old answer new
          → Changes (pop_flushed_batch usual img id (length old)) old answer new
      unfolding result
      pop-made id d =
          changes-made (Call.pop id) w (rw (front.2, eq-eqb id front.0.id (sym d ∙ front-id)))
          (ap (λ (k : ℕ). requeued img p (record { first = v.1; count = k })) left.1 ∙ popped-bytes front.2 u r z
          ∙ ap (λ (l : List Batch). write_image (set_batches (popped l) s)) (sym front.2))
