-- What the answer of a call means. Document 01: "A refusal gives its number"; "'None' is an answer." "If an answer is an enum, a definition
-- states this paper's number and values for each of the enum's cases."
use Rattle.std.specs.Prelude.{List, ℕ, take, Result, Ok, Err, None, Option, Some}
use Rattle.survey.specs.Verdict.{number_of}
use Rattle.survey.specs.declared.refusal.Refusal.{Refusal}
use Rattle.rules.specs.Answers.{Answer, refused, answer}

-- by what a value means
abbrev pub answered : {A B : Type 0} → (A → B) → Result A Refusal → Answer B
answered m (Ok a) = answer (m a)
answered m (Err r) = refused (number_of r)

-- "A listing fills a lent row of entries": so many of the rows as they are after the call
abbrev pub filled_rows : {E : Type 0} → List E → Option ℕ → Option (List E)
filled_rows rows None = None
filled_rows rows (Some n) = Some (take n rows)
