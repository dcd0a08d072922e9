-- Where the sections of an image stand. Document 01: "Order: base, batches, live, next id, staged bytes, staged operations, request."
use Rattle.std.specs.Prelude.{◌≡◌, List, [], ◌++◌, ℕ, ◌+◌, ◌-◌, ◌≤◌, length, drop, Result, IfOk}
use Rattle.std.specs.Result.{result_err}
use Rattle.wire.specs.Parse.{got}
use Rattle.wire.specs.Reading.{part}
use Rattle.image.specs.Meaning.{Store}
use Rattle.image.specs.NodeLayout.{base}
use Rattle.image.specs.RecordLayout.{records}
use Rattle.image.specs.StoreLayout.{batches}
use Rattle.image.specs.RoundTrip.{read_image}
use Rattle.survey.specs.Verdict.{verdict_of}
use Rattle.survey.specs.declared.refusal.Refusal.{Refusal}
use Rattle.writers.specs.Tails.{TailParts, tail}
use Rattle.survey.specs.declared.store.Sections.{Sections}
use Rattle.stack.specs.InStack.{StackOf}
use Rattle.stack.specs.declared.stack.Stack.{Stack}

-- the bytes from one place to another
abbrev pub between : List ℕ → ℕ → ℕ → List ℕ
between img start end = part img start (end - start)

-- the bytes stand in the image, from one place to the other
pub record Spans (img : List ℕ) (from : ℕ) (bytes : List ℕ) (to : ℕ) : Type 0 where
  pub is : drop from img ≡ bytes ++ drop to img
  pub ends : to ≡ from + length bytes
  pub within : to ≤ length img

-- "next id, staged bytes, staged operations, request"
abbrev pub tail_of : Store → TailParts
tail_of s = (s.next, (s.bytes, (s.operations, s.request)))

-- an image that may be used, of this store
pub record Stands (img : List ℕ) (p : Sections) (s : Store) : Type 0 where
  pub short : length img ≤ 65536
  pub is : read_image img ≡ got s []
  pub base : Spans img 0 (base.write s.base) p.batches
  pub batches : Spans img p.batches (batches.write s.batches) p.live
  pub live : Spans img p.live (records.write s.live) p.tail
  pub tail : Spans img p.tail (tail.write (tail_of s)) (length img)

-- "Always first: 1, image over 65,536 bytes; 2, image not by the layout": the refusal, or the sections
pub record Opens (img : List ℕ) (r : Result Sections Refusal) : Type 0 where
  pub verdict : result_err r ≡ verdict_of img
  pub sections : IfOk r (λ p. (s : Store) × Stands img p s)

-- the same, and the stack of one inode
pub record OpensInode (img : List ℕ) (i : ℕ) (r : Result (Sections × Stack) Refusal) : Type 0 where
  pub verdict : result_err r ≡ verdict_of img
  pub sections : IfOk r (λ x. (s : Store) × Stands img x.0 s)
  pub stack : IfOk r (λ x. StackOf img i x.1)
