-- The batches of an image that may be used: their count, and where they stand after it; and what stands after live.
-- Assumes nothing.
use Rattle.std.specs.Prelude.{Result, Ok, IsOk, is_ok}
use Rattle.std.specs.Result.{result_unwrap_or}
use mathlib.Core.Path.{◌≡◌, refl, sym, ap}
use mathlib.Core.List.{List, ◌++◌}
use Prim.Native.Nat.{ℕ, ◌+◌}
use lib.ListN.{length}
use Rattle.wire.specs.declared.fault.Fault.{Fault}
use Rattle.wire.specs.Number.{number_bytes, number_read, number_to}
use Rattle.wire.specs.Reading.{Reads, meant}
use Rattle.image.specs.Meaning.{Store}
use Rattle.image.specs.Rows.{RowsAt}
use Rattle.image.specs.declared.rows.Rows.{Rows}
use Rattle.image.proofs.Listed.{rows-read}
use Rattle.writers.specs.Tails.{tail, tail_meant}
use Rattle.writers.specs.declared.tail.Tail.{Tail}
use Rattle.change.specs.Sections.{Spans, tail_of, Stands}
use Rattle.survey.specs.declared.store.Sections.{Sections}
use Rattle.change.proofs.Sections.{span-front, span-back, span-reads, span-ok, span-value, value-is, value-ok, stands-fits}
use Rattle.change.proofs.Batches.{queue_bytes, batches-bytes}

module _ {img : List ℕ} {p : Sections} {s : Store} (w : Stands img p s) where
  queue-span : Spans img p.batches (number_bytes (length s.batches) ++ queue_bytes s.batches) p.live
  queue-span = rw (← (batches-bytes s.batches)) w.batches

  module _ {o : Result (ℕ × ℕ) Fault} (a : Reads img (number_read 16) p.batches o) where
    pub stands-counted : o ≡ Ok (length s.batches, p.batches + length (number_bytes (length s.batches)))
    stands-counted = span-reads (number_to 16 refl) (span-front (number_bytes (length s.batches)) (queue_bytes s.batches) queue-span)
        (stands-fits w).batches.count a

    module _ {x : ℕ × ℕ} (d : o ≡ Ok x) where
      counted : x ≡ (length s.batches, p.batches + length (number_bytes (length s.batches)))
      counted = value-is x stands-counted (sym (ap (λ (o : Result (ℕ × ℕ) Fault). result_unwrap_or o x) d))

      pub stands-count : x.0 ≡ length s.batches
      stands-count = ap (λ (x : ℕ × ℕ). x.0) counted

      pub stands-queue : Spans img x.1 (queue_bytes s.batches) p.live
      stands-queue = rw counted (span-back (number_bytes (length s.batches)) (queue_bytes s.batches) queue-span)

  pub counts-ok : (o : Result (ℕ × ℕ) Fault) → Reads img (number_read 16) p.batches o → IsOk o
  counts-ok o a = ap is_ok (stands-counted a)

-- the same of the rows of the list of batches
module _ {img : List ℕ} {p : Sections} {s : Store} (w : Stands img p s) {rows : Rows} (a : RowsAt img 16 p.batches rows) where
  counted-rows : (rows-read a).0 ≡ Ok (rows.count, rows.first)
  counted-rows = value-ok (0, 0) (stands-counted w (rows-read a).1) (rows-read a).2

  pub rows-count : rows.count ≡ length s.batches
  rows-count = stands-count w (rows-read a).1 counted-rows

  pub rows-queue : Spans img rows.first (queue_bytes s.batches) p.live
  rows-queue = stands-queue w (rows-read a).1 counted-rows

-- what stands after live
module _ {img : List ℕ} {p : Sections} {s : Store} (w : Stands img p s) (o : Result (Tail × ℕ) Fault)
    (k : Reads img tail.read p.tail (meant tail_meant o)) where
  tail-fits : tail.Fits (tail_of s)
  tail-fits = let f = stands-fits w in (f.next, (f.bytes, (f.operations, f.request)))

  pub tail-ok : IsOk o
  tail-ok = span-ok tail tail_meant o w.tail tail-fits k

  pub stands-tail : {x : Tail × ℕ} → o ≡ Ok x → tail_meant x.0 ≡ tail_of s
  stands-tail y = span-value tail tail_meant o w.tail tail-fits k y
