-- The bytes and operations of all batches of a queue.
-- Assumes nothing.
use mathlib.Core.Path.{◌≡◌, refl, ap, subst, ◌∙◌}
use mathlib.Core.List.{List, [], ◌∷◌, ◌++◌, append_assoc}
use Prim.Native.Nat.{ℕ, zero, suc, ◌+◌, ◌*◌, ◌-◌, ◌≤◌, ◌<◌}
use native.Mathlib.Omega.{arith}
use lib.ListN.{length, drop}
use Rattle.std.specs.Prelude.{Result, Ok, Err}
use Rattle.wire.specs.declared.fault.Fault.{Fault}
use Rattle.image.specs.Rows.{RowsAt}
use Rattle.image.specs.declared.rows.Rows.{Rows}
use Rattle.image.proofs.Listed.{rows-read}
use Rattle.wire.specs.Lists.{Every}
use Rattle.wire.specs.Reading.{Reads, meant}
use Rattle.image.specs.Meaning.{Batch}
use Rattle.image.specs.Fits.{FitsBatch}
use Rattle.rules.specs.Refusals.{sum_of}
use Rattle.waiting.specs.Queues.{head_bytes, head_operations, sum_from, Totalled, QueueAt}
use Rattle.waiting.specs.declared.batch.Queue.{Queue}
use Rattle.writers.specs.Batches.{head_meant}
use Rattle.writers.specs.declared.batch.BatchHead.{BatchHead}
use Rattle.change.specs.Batches.{HeadParts, pass_batch}
use Rattle.change.proofs.Batches.{head_of, batch_bytes, queue_bytes, pass-back}

-- ---- sums

module _ (f : HeadParts → ℕ) {img : List ℕ} {here : ℕ} where
  sum-on : {h : HeadParts} {q : ℕ} → Reads img pass_batch here (Ok (h, q)) → (n : ℕ) → 0 < n
      → sum_from f n (drop here img) ≡ f h + sum_from f (n - 1) (drop q img)
  unfolding sum_from
  sum-on r zero l = absurd (omega arith)
  sum-on r (suc n) l = let z : suc n - 1 ≡ n = omega arith in rw (z, r.same)

  sum-stop : {y : Fault} → Reads img pass_batch here (Err y) → (n : ℕ) → sum_from f n (drop here img) ≡ 0
  unfolding sum_from
  sum-stop r zero = refl
  sum-stop r (suc n) = rw (r.same)

sum-none : (f : HeadParts → ℕ) (n : ℕ) (s : List ℕ) → n ≤ 0 → sum_from f n s ≡ 0
unfolding sum_from
sum-none f zero s h = refl
sum-none f (suc n) s h = absurd (omega arith)

-- The loop has come to `here`, where `left` batches are left; before it were b bytes and o operations.
pub record Totalling (img : List ℕ) (first n here left b o : ℕ) : Type 0 where
  pub bytes : b + sum_from head_bytes left (drop here img) ≡ sum_from head_bytes n (drop first img)
  pub operations : o + sum_from head_operations left (drop here img) ≡ sum_from head_operations n (drop first img)
  pub few_bytes : b + left * 4294967295 ≤ n * 4294967295
  pub few_operations : o + left * 4294967295 ≤ n * 4294967295

module _ {img : List ℕ} {first n here left b o : ℕ} (w : Totalling img first n here left b o) where
  pub totalling-all : left ≤ 0 → Totalled img first n (record { rows = record { first = first; count = n }; bytes = b; operations = o })
  totalling-all h = record {
    from = refl;
    counts = refl;
    bytes = omega (arith, w.bytes, sum-none head_bytes left (drop here img) h);
    operations = omega (arith, w.operations, sum-none head_operations left (drop here img) h);
  }

  module _ {u : Result (BatchHead × ℕ) Fault} (r : Reads img pass_batch here (meant head_meant u)) where
    pub totalling-stop : {y : Fault} → u ≡ Err y → Totalled img first n (record { rows = record { first = first; count = n }; bytes = b; operations = o })
    totalling-stop e =
        let g = rw e at r in
        record {
          from = refl;
          counts = refl;
          bytes = omega (arith, w.bytes, sum-stop head_bytes g left);
          operations = omega (arith, w.operations, sum-stop head_operations g left);
        }

    pub totalling-on : {h : BatchHead} {q : ℕ} → 0 < left → u ≡ Ok (h, q) → h.bytes ≤ 4294967295 → h.operations ≤ 4294967295
        → Totalling img first n q (left - 1) (b + h.bytes) (o + h.operations)
    totalling-on l e i j =
        let g = rw e at r in
        record {
          bytes = omega (arith, w.bytes, sum-on head_bytes g left l);
          operations = omega (arith, w.operations, sum-on head_operations g left l);
          few_bytes = omega (arith, w.few_bytes);
          few_operations = omega (arith, w.few_operations);
        }

-- the batches at a place, by their count
pub queue-at : {img : List ℕ} {at : ℕ} {x : Rows} {r : Queue} → RowsAt img 16 at x → Totalled img x.first x.count r → QueueAt img at r
queue-at {img} {r = r} h t =
    let o = rows-read h in
    record { count = o.0; reads = o.1; totals = subst (λ (x : ℕ × ℕ). Totalled img x.1 x.0 r) o.2 t }

-- ---- of batches that were written

pub sum-queue : (f : HeadParts → ℕ) (bs : List Batch) (t : List ℕ) → Every FitsBatch bs
    → sum_from f (length bs) (queue_bytes bs ++ t) ≡ sum_of (λ b. f (head_of b)) bs
unfolding sum_from queue_bytes
sum-queue f [] t h = refl
sum-queue f (b ∷ bs) t h =
    let e = ap pass_batch (append_assoc (batch_bytes b) (queue_bytes bs) t) ∙ pass-back b (queue_bytes bs ++ t) h.0 in
    rw (e, sum-queue f bs t h.1)
