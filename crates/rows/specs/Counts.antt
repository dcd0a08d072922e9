-- How many rows the sources of a listing decide.
use Rattle.std.specs.Prelude.{◌≡◌, ℕ, length}
use Rattle.std.proofs.Math.Nat.{ℕ_set}
use Rattle.merge.specs.Merges.{rows_decided}
use Rattle.merge.specs.declared.sources.Sources.{Sources}

abbrev pub Counts : Sources → ℕ → Type 0
Counts all n = length (rows_decided all) ≡ n

-- which can be said in one way alone
pub Counts-prop : (all : Sources) (n : ℕ) → IsProp (Counts all n)
Counts-prop all n = ℕ_set (length (rows_decided all)) n
