-- What a writer leaves: its bytes from `at` on, where they are inside the buffer, and the place after them, inside or not.
-- With an empty buffer it only measures. A place past all that a usize holds is `edge`, so a writer asks nothing.
use Rattle.std.specs.Prelude.{◌≡◌, List, ℕ, ◌+◌, ◌++◌, ◌<◌, min, length}
use Rattle.std.proofs.lemmas.List.Edits.{sets}
use Rattle.std.proofs.Common.{MutBor}
use Rattle.wire.specs.Number.{edge, number_bytes}
use Rattle.wire.specs.declared.put.Written.{Written}

pub record Put (old : List ℕ) (at : ℕ) (bytes : List ℕ) (next : ℕ) (new : List ℕ) : Type 0 where
  pub to : next ≡ min (at + length bytes) edge
  pub is : new ≡ sets old at bytes
  pub short : length old < edge

-- What writes these n rows into every buffer, wherever it begins, has written the list of them, its count first.
abbrev pub PutsCounted : (MutBor (List ℕ) → ℕ → Written → MutBor (List ℕ) → Type 0) → List ℕ → ℕ → ℕ → List ℕ → Type 0
PutsCounted Puts old at next new =
    (n : ℕ) (bytes : List ℕ) → ((l : MutBor (List ℕ)) (q : ℕ) (w : Written) (m : MutBor (List ℕ)) → Puts l q w m → Put l.now q bytes w.end m.now × (w.count ≡ n))
    → Put old at (number_bytes n ++ bytes) next new
