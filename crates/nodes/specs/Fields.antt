-- What the readers of fields by value promise.
use Rattle.std.specs.Prelude.{List, ℕ, Result, IfOk, None, Option, Some}
use Rattle.wire.specs.declared.fault.Fault.{Fault}
use Rattle.wire.specs.Parse.{Parsed}
use Rattle.wire.specs.Reading.{Reads, meant}

-- of a value that is there
abbrev pub holds_if : {V : Type 0} → (V → ℕ → Type 0) → Option V → ℕ → Type 0
holds_if Holds None end = Unit {0}
holds_if Holds (Some v) end = Holds v end

-- What the parser reads at a place is what the value says, of which this holds up to the place after it.
pub record ReadsAs {V M : Type 0} (img : List ℕ) (p : List ℕ → Parsed M) (says : V → M) (Holds : V → ℕ → Type 0) (at : ℕ) (r : Result (V × ℕ) Fault)
    : Type 0 where
  pub reads : Reads img p at (meant says r)
  pub holds : IfOk r (λ x. Holds x.0 x.1)
