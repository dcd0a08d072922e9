-- Staged counts are not invented: whatever the call, what was noted is staged, queued or popped.
use Rattle.std.specs.Prelude.{None, Some}
use mathlib.Core.Path.{◌≡◌, refl, ap}
use mathlib.Core.List.{List, [], ◌∷◌, ◌++◌}
use Prim.Native.Nat.{ℕ, zero, suc, ◌+◌}
use native.Mathlib.Omega.{arith}
use Rattle.image.specs.Meaning.{Base, Layer, Batch, Store}
use Rattle.rules.specs.Initial.{Initial}
use Rattle.rules.specs.Calls.{Call}
use Rattle.rules.specs.Normalise.{normal_batches}
use Rattle.rules.specs.Queue.{popped}
use Rattle.rules.specs.Outcomes.{result}
use Rattle.rules.specs.Refusals.{sum_of}

-- the two counts
pub data Count : Type 0 where
  bytes operations : Count

abbrev pub staged : Count → Store → ℕ
staged bytes s = s.bytes
staged operations s = s.operations

abbrev pub held : Count → Batch → ℕ
held bytes b = b.bytes
held operations b = b.operations

-- staged and queued
abbrev pub total : Count → Store → ℕ
total k s = staged k s + sum_of (held k) s.batches

-- "Note adds one operation and given bytes to the staged counts"
abbrev pub noting : Count → ℕ → ℕ
noting bytes n = n
noting operations n = 1

abbrev pub front : Count → List Batch → ℕ
front k [] = 0
front k (b ∷ bs) = held k b

sum-append : (f : Batch → ℕ) (bs : List Batch) (b : Batch) → sum_of f (bs ++ (b ∷ [])) ≡ sum_of f bs + f b
sum-append f [] b = omega arith
sum-append f (c ∷ bs) b = omega (arith, sum-append f bs b)

sum-normal : (k : Count) (under : List Layer) (base : Base) (bs : List Batch) (p : ℕ) → sum_of (held k) (normal_batches under base bs p) ≡ sum_of (held k) bs
unfolding normal_batches
sum-normal k under base [] p = refl
sum-normal bytes under base (b ∷ bs) zero = refl
sum-normal operations under base (b ∷ bs) zero = refl
sum-normal k under base (b ∷ bs) (suc p) = ap (λ n. held k b + n) (sum-normal k (under ++ (b.records ∷ [])) base bs p)

sum-popped : (k : Count) (n : ℕ) (bs : List Batch) → (n + sum_of (held k) (popped bs)) + front k bs ≡ n + sum_of (held k) bs
sum-popped k n [] = omega arith
sum-popped k n (b ∷ bs) = omega arith

-- what a call notes
abbrev pub comes : Count → Call → ℕ
comes k (Call.insert i r) = 0
comes k (Call.tombstone i) = 0
comes k (Call.add i name inode t) = 0
comes k (Call.remove i name t) = 0
comes k (Call.set_parent i p) = 0
comes k (Call.update i new) = 0
comes k (Call.normalise p) = 0
comes k (Call.freeze limits t) = 0
comes k Call.fold = 0
comes k (Call.pop id) = 0
comes k (Call.note n) = noting k n
comes k (Call.request r) = 0

-- what a call takes out of the queue
abbrev pub leaves : Count → Call → Store → ℕ
leaves k (Call.insert i r) s = 0
leaves k (Call.tombstone i) s = 0
leaves k (Call.add i name inode t) s = 0
leaves k (Call.remove i name t) s = 0
leaves k (Call.set_parent i p) s = 0
leaves k (Call.update i new) s = 0
leaves k (Call.normalise p) s = 0
leaves k (Call.freeze limits t) s = 0
leaves k Call.fold s = 0
leaves k (Call.pop id) s = front k s.batches
leaves k (Call.note n) s = 0
leaves k (Call.request r) s = 0

module _ (initial : Initial) where
  -- counts that a call leaves alone
  alone : (k : Count) (s : Store) (base : Base) (live : Layer) (request : ℕ)
      → total k (record { base = base; batches = s.batches; live = live; next = s.next; bytes = s.bytes; operations = s.operations; request = request }) + 0 ≡ total k s + 0
  alone bytes s base live request = refl
  alone operations s base live request = refl

  pub counts-kept : (k : Count) (c : Call) (s : Store) → total k (result initial c s) + leaves k c s ≡ total k s + comes k c
  unfolding result
  counts-kept k (Call.insert i None) s = refl
  counts-kept k (Call.insert i (Some r)) s = alone k s _ _ _
  counts-kept k (Call.tombstone i) s = alone k s _ _ _
  counts-kept k (Call.add i name inode t) s = alone k s _ _ _
  counts-kept k (Call.remove i name t) s = alone k s _ _ _
  counts-kept k (Call.set_parent i p) s = alone k s _ _ _
  counts-kept k (Call.update i None) s = refl
  counts-kept k (Call.update i (Some new)) s = alone k s _ _ _
  counts-kept bytes (Call.normalise p) s = rw sum-normal
  counts-kept operations (Call.normalise p) s = rw sum-normal
  counts-kept bytes (Call.freeze limits t) s = rw sum-append (omega arith)
  counts-kept operations (Call.freeze limits t) s = rw sum-append (omega arith)
  counts-kept k Call.fold s = alone k s _ _ _
  counts-kept bytes (Call.pop id) s = omega (arith, sum-popped bytes s.bytes s.batches)
  counts-kept operations (Call.pop id) s = omega (arith, sum-popped operations s.operations s.batches)
  counts-kept bytes (Call.note n) s = omega arith
  counts-kept operations (Call.note n) s = omega arith
  counts-kept k (Call.request r) s = alone k s _ _ _
