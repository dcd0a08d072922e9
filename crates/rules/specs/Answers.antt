-- What a call gives. Document 01: "A refusal gives its number"; "'None' is an answer."
use Rattle.std.specs.Prelude.{List, [], ◌∷◌, Bool, true, false, cond, ℕ, None, Option, Some}

pub data Answer (A : Type 0) : Type 0 where
  refused : ℕ → Answer A
  answer : A → Answer A

-- the number of the first test that holds: refusals are judged in document 01's order
abbrev pub first_of : List (ℕ × Bool) → Option ℕ
first_of [] = None
first_of (t ∷ ts) = cond t.1 (Some t.0) (first_of ts)

abbrev pub unless : {A : Type 0} → Option ℕ → A → Answer A
unless None a = answer a
unless (Some n) a = refused n

abbrev pub is_refused : {A : Type 0} → Answer A → Bool
is_refused (refused n) = true
is_refused (answer a) = false
