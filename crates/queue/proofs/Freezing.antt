-- Freeze: its refusals in order, and live as one batch more.
-- Assumes nothing.
use Rattle.std.specs.Prelude.{None, Result, Ok, Err}
use mathlib.Core.Path.{◌≡◌, refl, sym, ap, ◌∙◌}
use mathlib.Core.Bool.{true, false}
use mathlib.Core.List.{List, [], ◌∷◌, ◌++◌, append-nil, append_assoc}
use Prim.Native.Nat.{ℕ, suc, ◌+◌, ◌^◌, ◌≤◌, ◌<◌}
use native.Mathlib.Omega.{arith}
use lib.ListN.{length, drop, length-append, drop_of_length-le}
use borrow.Author.Tests.{le-leb, lt-leb, eq-eqb, ne_eqb}
use Rattle.std.specs.Result.{result_unwrap_or}
use Rattle.wire.specs.declared.fault.Fault.{Fault}
use Rattle.wire.specs.declared.time.Time.{Time}
use Rattle.wire.specs.Number.{edge, number_bytes, number_read, number_to}
use Rattle.wire.specs.Orders.{by_number}
use Rattle.wire.specs.Maps.{empty}
use Rattle.wire.specs.Lists.{chain_write, row, onto, last_count}
use Rattle.wire.specs.Reading.{Reads, meant}
use Rattle.image.specs.Meaning.{Batch, Store}
use Rattle.image.specs.FieldLayout.{inode}
use Rattle.image.specs.NodeLayout.{base}
use Rattle.image.specs.RecordLayout.{layer_record, records}
use Rattle.image.specs.StoreLayout.{batches}
use Rattle.image.specs.Rows.{RowsAt}
use Rattle.image.specs.declared.rows.Rows.{Rows}
use Rattle.image.proofs.Listed.{rows-read}
use Rattle.survey.specs.Gathering.{batch_head}
use Rattle.image.specs.RoundTrip.{write_image}
use Rattle.writers.specs.Batches.{head_meant}
use Rattle.writers.specs.Tails.{TailParts, tail, tail_meant}
use Rattle.writers.specs.declared.batch.BatchHead.{BatchHead}
use Rattle.writers.specs.declared.tail.Tail.{Tail}
use Rattle.rules.specs.Initial.{usual}
use Rattle.rules.specs.Calls.{Limits, Call}
use Rattle.rules.specs.Queue.{frozen_batch, frozen}
use Rattle.rules.specs.Refusals.{is_empty, sum_of, is_full}
use Rattle.rules.specs.Outcomes.{result}
use Rattle.rules.specs.ChangeCalls.{freeze_live}
use Rattle.change.specs.Changed.{Changes, if_fits}
use Rattle.change.specs.Sections.{tail_of, Stands}
use Rattle.change.specs.Batches.{HeadParts}
use Rattle.waiting.specs.Queues.{head_bytes, head_operations, sum_from, QueueAt, at_capacity, frozen_head, tail_after_id}
use Rattle.change.specs.Sections.{between}
use Rattle.waiting.specs.NewQueues.{refrozen}
use Rattle.survey.specs.declared.refusal.Refusal.{Refusal}
use Rattle.survey.specs.declared.refusal.Refusal.TheVariants as D
use Rattle.waiting.specs.declared.batch.Queue.{Queue}
use Rattle.waiting.specs.declared.write.Frozen.{Frozen}
use Rattle.survey.specs.declared.store.Sections.{Sections}
use Rattle.change.proofs.Sections.{span-part, span-front, span-reads, same_Ok, value-ok, store_bytes, stands-fits}
use Rattle.change.proofs.Finishing.{changes-refused, changes-made}
use Rattle.change.proofs.Batches.{head_of, batch_bytes, queue_bytes, batches-bytes, queue-more}
use Rattle.waiting.proofs.Queues.{sum-queue}
use Rattle.change.proofs.Queued.{stands-counted, stands-count, stands-queue, stands-tail}

not-empty : {A : Type 0} (l : List A) → (length l ≡ 0 → ⊥) → is_empty l ≡ false
not-empty [] h = absurd (h refl)
not-empty (a ∷ l) h = refl

-- ---- the new image

-- no records
no-records : records.write (empty by_number) ≡ number_bytes 0
unfolding empty
no-records = append-nil (number_bytes 0)

seven : (a c q h l z t : List ℕ) → a ++ (c ++ (q ++ (h ++ (l ++ (z ++ t))))) ≡ a ++ ((c ++ (q ++ (h ++ l))) ++ (z ++ t))
seven a c q h l z t = simp append_assoc

-- what is written of batches with one more
more-batches : (bs : List Batch) (b : Batch) → batches.write (bs ++ (b ∷ [])) ≡ number_bytes (length bs + 1) ++ (queue_bytes bs ++ batch_bytes b)
more-batches bs b =
    let e : length (bs ++ (b ∷ [])) ≡ length bs + 1 = length-append bs (b ∷ []) in
    batches-bytes (bs ++ (b ∷ [])) ∙ (λ i. number_bytes (e i) ++ queue-more bs b i)

-- what is written of a store that was frozen
frozen-bytes : (time : Time) (s : Store) → write_image (frozen time s)
    ≡ base.write s.base ++ (number_bytes (length s.batches + 1) ++ (queue_bytes s.batches
    ++ (batch_head.write (frozen_head (tail_of s) time) ++ (records.write s.live ++ (number_bytes 0 ++ tail.write (tail_after_id s.next))))))
frozen-bytes time s =
    let e : suc s.next ≡ s.next + 1 = omega arith in
    store_bytes (frozen time s)
    ∙ (λ i. base.write s.base ++ (more-batches s.batches (frozen_batch time s) i ++ (no-records i ++ tail.write (e i, (0, (0, 0))))))
    ∙ sym (seven (base.write s.base) (number_bytes (length s.batches + 1)) (queue_bytes s.batches) (batch_head.write (frozen_head (tail_of s) time))
    (records.write s.live) (number_bytes 0) (tail.write (tail_after_id s.next)))

-- ---- the call

-- the count of live records
live-read : {img : List ℕ} {p : Sections} {s : Store} → Stands img p s → {o : Result (ℕ × ℕ) Fault} → Reads img (number_read last_count) p.live o
    → o ≡ Ok (length s.live.rows, p.live + length (number_bytes (length s.live.rows)))
live-read {s = s} w l =
    span-reads (number_to last_count refl)
    (span-front (number_bytes (length s.live.rows)) (chain_write (row by_number inode layer_record)
    (onto by_number inode layer_record) None s.live.rows) w.live)
    (omega (arith, (stands-fits w).live.count)) l

module _ {img : List ℕ} {p : Sections} {s : Store} (w : Stands img p s) (depth bytes operations : ℕ) (time : Time) where
  abbrev limits : Limits
  limits = record { batches = depth; bytes = bytes; operations = operations }

  pub freeze-time : {old : List ℕ} → 1000000000 ≤ time.nanos
      → Changes (freeze_live usual img depth bytes operations time (length old)) old (Err D.BadArgument) old
  freeze-time h = changes-refused (Call.freeze limits time) w (rw (le-leb 1000000000 time.nanos h))

  module _ (ok : time.nanos < 1000000000) {queue : Queue} (k : QueueAt img p.batches queue) where
    abbrev place : ℕ × ℕ
    place = result_unwrap_or k.count (0, 0)

    placed : k.count ≡ Ok place
    placed = value-ok (0, 0) (stands-counted w k.reads) refl

    counted : queue.rows.count ≡ length s.batches
    counted = k.totals.counts ∙ stands-count w k.reads placed

    sum_is : (g : HeadParts → ℕ) → sum_from g place.0 (drop place.1 img) ≡ sum_of (λ b. g (head_of b)) s.batches
    sum_is g = rw ((stands-queue w k.reads placed).is, stands-count w k.reads placed) (sum-queue g s.batches (drop p.live img) (stands-fits w).batches.each)

    full_is : is_full limits s.batches ≡ at_capacity queue depth bytes operations
    full_is = rw (k.totals.bytes, k.totals.operations, sum_is head_bytes, sum_is head_operations, counted)

    pub freeze-full : {old : List ℕ} → at_capacity queue depth bytes operations ≡ true
        → Changes (freeze_live usual img depth bytes operations time (length old)) old (Err D.AtCapacity) old
    freeze-full h = changes-refused (Call.freeze limits time) w (rw (lt-leb 1000000000 time.nanos ok, full_is, h))

    module _ (h : at_capacity queue depth bytes operations ≡ false) {live : Rows}
        (l : RowsAt img last_count p.live live) where
      live-count : live.count ≡ length s.live.rows
      live-count = let o = rows-read l in ap (λ (x : ℕ × ℕ). x.0) (same_Ok (sym (value-ok (0, 0) (live-read w o.1) o.2) ∙ live-read w o.1))

      pub freeze-empty : {old : List ℕ} → live.count ≡ 0 → Changes (freeze_live usual img depth bytes operations time (length old)) old (Err D.LiveEmpty) old
      freeze-empty z =
          changes-refused (Call.freeze limits time) w
          (rw (lt-leb 1000000000 time.nanos ok, full_is, h, drop_of_length-le s.live.rows {i = 0} (omega (arith, live-count, z))))

      module _ (some-live : live.count ≡ 0 → ⊥) {u : Result (Tail × ℕ) Fault} (r : Reads img tail.read p.tail (meant tail_meant u)) {v : Tail × ℕ}
          (z : u ≡ Ok v) where
        abbrev staged : Tail
        staged = v.0

        staged-is : tail_meant staged ≡ tail_of s
        staged-is = stands-tail w u r z

        live-not : is_empty s.live.rows ≡ false
        live-not = not-empty s.live.rows (λ z. some-live (live-count ∙ z))

        next-is : staged.next_id ≡ s.next
        next-is = ap (λ (x : TailParts). x.0) staged-is

        pub freeze-last : {old : List ℕ} → (staged.next_id + 1 < 2 ^ 64 → ⊥)
            → Changes (freeze_live usual img depth bytes operations time (length old)) old (Err D.CountFull) old
        freeze-last n =
            let low = (stands-fits w).next in
            let e : staged.next_id ≡ edge = omega (arith, next-is, n) in
            changes-refused (Call.freeze limits time) w
            (rw (lt-leb 1000000000 time.nanos ok, full_is, h, live-not, eq-eqb s.next edge (sym next-is ∙ e)))

        abbrev one_more : BatchHead → Tail → Frozen
        one_more head later = record { batches = record { first = queue.rows.first; count = queue.rows.count + 1 }; head = head; tail = later }

        made_bytes : (head : BatchHead) (later : Tail) → head_meant head ≡ frozen_head (tail_meant staged) time
            → tail_meant later ≡ tail_after_id staged.next_id
            → refrozen img p (one_more head later)
            ≡ base.write s.base ++ (number_bytes (length s.batches + 1) ++ (queue_bytes s.batches
            ++ (batch_head.write (frozen_head (tail_of s) time) ++ (records.write s.live ++ (number_bytes 0 ++ tail.write (tail_after_id s.next))))))
        made_bytes head later eh et =
            let n = ap (λ (m : ℕ). m + 1) counted in
            let q = ap (λ (m : ℕ). between img m p.live) k.totals.from ∙ span-part (stands-queue w k.reads placed) in
            let h = eh ∙ ap (λ (x : TailParts). frozen_head x time) staged-is in
            let l = et ∙ ap tail_after_id next-is in
            λ i. span-part w.base i ++ (number_bytes (n i) ++ (q i ++ (batch_head.write (h i) ++ (span-part w.live i ++ (number_bytes 0 ++ tail.write (l i))))))

        pub freeze-made : {old new : List ℕ} {answer : Result ℕ Refusal} (head : BatchHead) (later : Tail) {next : ℕ}
            → (staged.next_id + 1 < 2 ^ 64) × (next ≡ staged.next_id + 1)
            → head_meant head ≡ frozen_head (tail_meant staged) time
            → (later.next_id ≡ next) × (later.bytes ≡ 0) × (later.operations ≡ 0) × (later.request ≡ None)
            → Changes (if_fits (refrozen img p (one_more head later)) (length old)) old answer new
            → Changes (freeze_live usual img depth bytes operations time (length old)) old answer new
        unfolding result
        freeze-made head later n eh et =
            changes-made (Call.freeze limits time) w {bytes = refrozen img p (one_more head later)}
            (rw (lt-leb 1000000000 time.nanos ok, full_is, h, live-not, ne_eqb s.next edge (λ y. let z = n.0 in absurd (omega (arith, next-is, y)))))
            (made_bytes head later eh (rw (et.0, et.1, et.2, et.3, n.1)) ∙ sym (frozen-bytes time s))
