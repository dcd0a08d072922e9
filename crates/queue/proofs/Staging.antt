-- Calls that change only what follows live: request and note.
-- Assumes nothing.
use mathlib.Core.Path.{◌≡◌, refl, sym, ap, ◌∙◌}
use mathlib.Core.Bool.{Bool, true, false, ◌||◌}
use mathlib.Core.List.{List, ◌++◌}
use Prim.Native.Nat.{ℕ, ◌+◌, ◌≤◌, ◌<◌}
use lib.ListN.{length}
use borrow.Author.Tests.{lt-ltb, le-ltb}
use Rattle.std.specs.Prelude.{Option, Result, Ok, Err}
use Rattle.wire.specs.declared.fault.Fault.{Fault}
use Rattle.wire.specs.Reading.{Reads, meant}
use Rattle.image.specs.Meaning.{Store}
use Rattle.image.specs.NodeLayout.{base}
use Rattle.image.specs.RecordLayout.{records}
use Rattle.image.specs.StoreLayout.{batches}
use Rattle.image.specs.RoundTrip.{write_image}
use Rattle.survey.specs.Reasons.{request_number}
use Rattle.survey.specs.declared.reason.Reason.{Reason}
use Rattle.writers.specs.Tails.{TailParts, tail, tail_meant}
use Rattle.writers.specs.declared.tail.Tail.{Tail}
use Rattle.rules.specs.Initial.{usual}
use Rattle.rules.specs.Calls.{Call}
use Rattle.rules.specs.Refusals.{past_count}
use Rattle.rules.specs.Outcomes.{result}
use Rattle.rules.specs.ChangeCalls.{request_freeze, record_mutation}
use Rattle.change.specs.Changed.{Changes, if_fits}
use Rattle.change.specs.Sections.{Stands}
use Rattle.change.specs.Sections.{between}
use Rattle.waiting.specs.NewQueues.{restaged}
use Rattle.survey.specs.declared.refusal.Refusal.{Refusal}
use Rattle.survey.specs.declared.refusal.Refusal.TheVariants as D
use Rattle.survey.specs.declared.store.Sections.{Sections}
use Rattle.change.proofs.Sections.{span-part, span-both, store_bytes}
use Rattle.change.proofs.Queued.{stands-tail}
use Rattle.change.proofs.Splicing.{three-first}
use Rattle.change.proofs.Finishing.{changes-refused, changes-made}

-- the store with another tail
abbrev retailed : TailParts → Store → Store
retailed t s = record { base = s.base; batches = s.batches; live = s.live; next = t.0; bytes = t.1.0; operations = t.1.1.0; request = t.1.1.1 }

abbrev requested : ℕ → TailParts → Store → Store
requested r t = retailed (t.0, (t.1.0, (t.1.1.0, r)))

-- the tail with another request
abbrev requesting : Option Reason → Tail → Tail
requesting q t = record { next_id = t.next_id; bytes = t.bytes; operations = t.operations; request = q }

-- the tail with other staged counts
abbrev noting : ℕ → ℕ → Tail → Tail
noting b o t = record { next_id = t.next_id; bytes = b; operations = o; request = t.request }

not-false : (b : Bool) → (b ≡ false → ⊥) → b ≡ true
not-false true h = refl
not-false false h = absurd (h refl)

module _ {img : List ℕ} {p : Sections} {s : Store} (w : Stands img p s) where
  before-tail : between img 0 p.tail ≡ base.write s.base ++ (batches.write s.batches ++ records.write s.live)
  before-tail = span-part (span-both w.base (span-both w.batches w.live))

  restaged-bytes : (t : Tail) → restaged img p t ≡ write_image (retailed (tail_meant t) s)
  restaged-bytes t =
      ap (λ (b : List ℕ). b ++ tail.write (tail_meant t)) before-tail
      ∙ sym (three-first (base.write s.base) (batches.write s.batches) (records.write s.live) (tail.write (tail_meant t)))
      ∙ sym (store_bytes (retailed (tail_meant t) s))

  -- ---- "request sets the reason"

  pub request-refused : {r : ℕ} {old : List ℕ} → 5 < r → Changes (request_freeze usual img r (length old)) old (Err D.BadArgument) old
  request-refused {r} h = changes-refused (Call.request r) w (rw (lt-ltb 5 r h))

  module _ {o : Result (Tail × ℕ) Fault} (k : Reads img tail.read p.tail (meant tail_meant o)) {x : Tail × ℕ} (y : o ≡ Ok x) where
    pub request-made : {r : ℕ} (q : Option Reason) {old new : List ℕ} {a : Result ℕ Refusal} → r ≤ 5 → request_number q ≡ r
        → Changes (if_fits (restaged img p (requesting q x.0)) (length old)) old a new
        → Changes (request_freeze usual img r (length old)) old a new
    unfolding result
    request-made {r} q h e =
        changes-made (Call.request r) w (rw (le-ltb 5 r h))
        (restaged-bytes (requesting q x.0) ∙ (λ j. write_image (requested (e j) (stands-tail w _ k y j) s)))

    -- ---- "Note adds one operation and given bytes to the staged counts"

    note-refused : (n : ℕ) {old : List ℕ} → (past_count (x.0.bytes + n) || past_count (x.0.operations + 1)) ≡ true
        → Changes (record_mutation usual img n (length old)) old (Err D.CountFull) old
    note-refused n h =
        let e = stands-tail w _ k y in
        changes-refused (Call.note n) w (rw (← (ap (λ (t : TailParts). t.1.0) e), ← (ap (λ (t : TailParts). t.1.1.0) e), h))

    pub note-bytes : (n : ℕ) {old : List ℕ} → (past_count (x.0.bytes + n) ≡ false → ⊥)
        → Changes (record_mutation usual img n (length old)) old (Err D.CountFull) old
    note-bytes n h = note-refused n (rw (not-false _ h) refl)

    module _ (n : ℕ) {b : ℕ} (few : (past_count (x.0.bytes + n) ≡ false) × (b ≡ x.0.bytes + n)) where
      pub note-operations : {old : List ℕ} → (past_count (x.0.operations + 1) ≡ false → ⊥)
          → Changes (record_mutation usual img n (length old)) old (Err D.CountFull) old
      note-operations h = note-refused n (rw (few.0, not-false _ h) refl)

      pub note-made : {o : ℕ} → (past_count (x.0.operations + 1) ≡ false) × (o ≡ x.0.operations + 1) → {old new : List ℕ} {a : Result ℕ Refusal}
          → Changes (if_fits (restaged img p (noting b o x.0)) (length old)) old a new
          → Changes (record_mutation usual img n (length old)) old a new
      unfolding result
      note-made one =
          let e = stands-tail w _ k y in
          changes-made (Call.note n) w (rw (← (ap (λ (t : TailParts). t.1.0) e), ← (ap (λ (t : TailParts). t.1.1.0) e), few.0, one.0) refl)
          (restaged-bytes _ ∙ rw (few.1, one.1) (ap (λ (t : TailParts). write_image (retailed (t.0, (t.1.0 + n, (t.1.1.0 + 1, t.1.1.1))) s)) e))
