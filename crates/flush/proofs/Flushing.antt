-- Fold and snapshot: their new images, and how they end.
-- Assumes nothing.
use Rattle.std.specs.Prelude.{None, Result, Err}
use Rattle.std.specs.Result.{result_err}
use mathlib.Core.Path.{◌≡◌, refl, sym, ap, ◌∙◌}
use mathlib.Core.Bool.{Bool, true, false, cond}
use mathlib.Core.List.{List, [], ◌∷◌, append-nil}
use Prim.Native.Nat.{ℕ, ◌+◌, ◌≤◌, min}
use native.Mathlib.Omega.{arith}
use lib.ListN.{length, take, length-append, drop_of_length-le}
use lib.Seq.{sets, take-length}
use Rattle.wire.specs.Number.{edge, number_bytes}
use Rattle.wire.specs.Put.{Put}
use Rattle.wire.proofs.Puts.{put-append}
use Rattle.wire.specs.Maps.{empty}
use Rattle.image.specs.Meaning.{Batch, Layer, Store}
use Rattle.survey.specs.Verdict.{number_of, verdict_of}
use Rattle.survey.specs.declared.refusal.Refusal.{Refusal}
use Rattle.survey.specs.declared.refusal.Refusal.TheVariants as D
use Rattle.image.specs.Rows.{RowsAt}
use Rattle.image.specs.declared.rows.Rows.{Rows}
use Rattle.image.specs.RoundTrip.{write_image}
use Rattle.rules.specs.Initial.{usual}
use Rattle.rules.specs.Answers.{refused, answer, first_of}
use Rattle.rules.specs.Refusals.{is_empty}
use Rattle.rules.specs.Calls.{Call}
use Rattle.rules.specs.Stacks.{with_live, layers}
use Rattle.rules.specs.Queue.{set_base, fold_all, fold_front, snapshot}
use Rattle.rules.specs.Outcomes.{result}
use Rattle.rules.specs.Room.{has_room}
use Rattle.rules.specs.ReadCalls.{map_answer}
use Rattle.rules.specs.ChangeCalls.{new_image, fold_entries, snapshot_all}
use Rattle.rules.proofs.Asked.{over-fine, verdict-refused}
use Rattle.change.specs.Changed.{Changes, if_fits}
use Rattle.change.specs.Sections.{Stands}
use Rattle.survey.specs.declared.store.Sections.{Sections}
use Rattle.change.proofs.Queued.{rows-count}
use Rattle.change.proofs.Sections.{span-part, span-both, store_bytes}
use Rattle.change.proofs.Finishing.{changes-refused, changes-made}
use Rattle.change.proofs.Batches.{queue_bytes, batches-bytes}
use Rattle.walk.specs.Ready.{Ready}
use Rattle.walk.specs.Opens.{LayersOf, OpensLayers, Over}
use Rattle.walk.proofs.Opening.{count-layers}
use Rattle.walk.specs.Walks.{stacks_left}
use Rattle.walk.specs.declared.walk.Walk.{Walk}
use Rattle.walk.specs.declared.open.Layers.{Layers}
use Rattle.base.specs.Nodes.{nodes_of, PutsNodes}
use Rattle.wire.specs.declared.put.Written.{Written}
use Rattle.flush.specs.Flushes.{drops_of, rest_bytes, flushed}
use Rattle.flush.specs.declared.write.Flush.{Flush}
use Rattle.flush.specs.declared.write.Flush.TheVariants as F
use Rattle.base.proofs.Bases.{base-written}

-- ---- the new image

-- its nodes were counted and measured
module _ (w : Walk) (f : Flush) {d : Bool} (e : d ≡ drops_of f) {l m : List ℕ} {n : Written} (a : PutsNodes l 0 (nodes_of d (stacks_left w)) n m) where
  -- the rest measured
  pub image-measured : {l₁ l₂ l₃ l₄ : List ℕ} {q p r : ℕ} → Put l₁ 0 (number_bytes n.count) q l₂ → p ≡ min (q + n.end) edge
      → Put l₄ p (rest_bytes w.img.now f) r l₃
      → Put l 0 (flushed w f) r (sets l 0 (flushed w f))
  image-measured b k c = record {
    to =
        let first = rw (a.counts, e) at b.to in
        let nodes = rw e at a.puts.to in
        simp length-append (omega (arith, first, nodes, k, c.to));
    is = refl;
    short = a.puts.short;
  }

  -- written
  pub image-written : {l₁ l₂ l₃ l₄ : List ℕ} {q r : ℕ} {o : Written} → Put l₁ 0 (number_bytes n.count) q l₂
      → PutsNodes l₂ q (nodes_of d (stacks_left w)) o l₃ → Put l₃ o.end (rest_bytes w.img.now f) r l₄
      → Put l₁ 0 (flushed w f) r l₄
  image-written b c t = rw (← e) (put-append (put-append (rw a.counts at b) c.puts) t)

-- ---- how a snapshot ends

pub snapshot-unopened : {A : Type 0} (img : List ℕ) {old : List ℕ} {o : Result A Refusal} {e : Refusal} {r : Result ℕ Refusal}
    → result_err o ≡ verdict_of img → o ≡ Err e → r ≡ Err e
    → Changes (snapshot_all usual img (length old)) old r old
unfolding new_image
snapshot-unopened img {old} {e = e} v d z =
    let h : snapshot_all usual img (length old) ≡ refused (number_of e) = verdict-refused _ img e (sym v ∙ ap result_err d) in
    rw z (record { answers = rw h; leaves = rw h })

-- the new image, if there is room
snapshot-fits : {img : List ℕ} {p : Sections} {s : Store} → Stands img p s → (room : ℕ)
    → snapshot_all usual img room ≡ if_fits (write_image (snapshot usual s)) room
unfolding new_image
snapshot-fits {img} {p} {s} w room = over-fine _ img w.short w.is ∙ go (has_room room (snapshot usual s))
  where
    go : (b : Bool) → map_answer write_image (cond b (answer (snapshot usual s)) (refused 5)) ≡ cond b (answer (write_image (snapshot usual s))) (refused 5)
    go true = refl
    go false = refl

some-batch : (bs : List Batch) → (length bs ≡ 0 → ⊥) → first_of ((8, is_empty bs) ∷ []) ≡ None
some-batch [] h = absurd (h refl)
some-batch (b ∷ bs) h = refl

module _ {img : List ℕ} {p : Sections} {s : Store} (w : Stands img p s) {rows : Rows} (a : RowsAt img 16 p.batches rows) where
  opened : {m : ℕ} {r : Layers} → OpensLayers img p m r → m ≤ rows.count + 1 → LayersOf img s p.tail m r
  opened l h = l.opens s w (omega (arith, h, rows-count w a, count-layers s.batches s.live))

  -- the runs of the layers that there are are a walk's
  pub opened-ready : {m : ℕ} {r : Layers} → OpensLayers img p m r → m ≤ rows.count + 1 → Ready img r.runs
  opened-ready l h = (opened l h).ready

  -- a number holds the count of its stacks
  pub opened-few : {m : ℕ} {r : Layers} → OpensLayers img p m r → m ≤ rows.count + 1 → (k : Walk) → k.img.now ≡ img → k.runs ≡ r.runs
      → length (stacks_left k) ≤ edge
  opened-few l h k image same = rw (image, same) (opened l h).few

  -- ---- "Fold applies the front batch to the base."

  pub fold-none : {old : List ℕ} → rows.count ≡ 0 → Changes (fold_entries usual img (length old)) old (Err D.NoBatch) old
  fold-none h = changes-refused Call.fold w (rw (drop_of_length-le s.batches {i = 0} (omega (arith, rows-count w a, h))))

  module _ {r : Layers} (l : OpensLayers img p 1 r) (k : Walk) (image : k.img.now ≡ img) (same : k.runs ≡ r.runs) where
    front-over : Over s.base (take 1 (layers s)) k
    front-over = record { are = rw (image, same) ((opened l (omega arith)).are) }

    fold-base : (bs : List Batch) (live : Layer) → (length bs ≡ 0 → ⊥) → fold_all usual (take 1 (with_live bs live)) s.base ≡ fold_front usual bs s.base
    unfolding fold_all
    fold-base [] live h = absurd (h refl)
    fold-base (b ∷ bs) live h = refl

    fold-bytes : (rows.count ≡ 0 → ⊥) → flushed k (F.Fold p.batches) ≡ write_image (set_base (fold_front usual s.batches s.base) s)
    fold-bytes h =
        rw (
          base-written front-over false,
          image,
          span-part (span-both w.batches (span-both w.live w.tail)),
          store_bytes,
          fold-base s.batches s.live (λ z. h (rows-count w a ∙ z)),
        )

    pub fold-made : {old new : List ℕ} {answer : Result ℕ Refusal} → (rows.count ≡ 0 → ⊥)
        → Changes (if_fits (flushed k (F.Fold p.batches)) (length old)) old answer new
        → Changes (fold_entries usual img (length old)) old answer new
    unfolding result
    fold-made h = changes-made Call.fold w (some-batch s.batches (λ z. h (rows-count w a ∙ z))) (fold-bytes h)

  -- ---- "Snapshot folds every layer"

  module _ {m : ℕ} {r : Layers} (l : OpensLayers img p m r) (k : Walk) (image : k.img.now ≡ img) (same : k.runs ≡ r.runs) (e : m ≡ rows.count + 1) where
    all-over : Over s.base (layers s) k
    all-over =
        let z : m ≡ length (layers s) = omega (arith, e, rows-count w a, count-layers s.batches s.live) in
        record { are = rw (image, same) (rw (z, take-length) at (opened l (omega (arith, e))).are) }

    module _ {n : ℕ} (next : n ≡ s.next) where
      snapshot-bytes : flushed k (F.Snapshot n) ≡ write_image (snapshot usual s)
      unfolding snapshot queue_bytes empty
      snapshot-bytes = rw (base-written all-over true, next, store_bytes, batches-bytes, append-nil)

      pub snapshot-made : {old new : List ℕ} {answer : Result ℕ Refusal} → Changes (if_fits (flushed k (F.Snapshot n)) (length old)) old answer new
          → Changes (snapshot_all usual img (length old)) old answer new
      snapshot-made {old} h = rw (snapshot-fits w (length old), ← snapshot-bytes) h
