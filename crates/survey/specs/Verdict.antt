-- Document 01: "Always first: 1, image over 65,536 bytes; 2, image not by the layout."
use Rattle.std.specs.Prelude.{◌≡◌, cond, List, ℕ, ltb, length, Result, Ok, Err, Some, None, IfOk, Option, ◌++◌, codes, decimal}
use Rattle.std.specs.Result.{result_err}
use Rattle.wire.specs.Parse.{Parsed, fault, got}
use Rattle.image.specs.Meaning.{Store}
use Rattle.image.specs.RoundTrip.{read_image}
use Rattle.survey.specs.Survey.{Surveyed}
use Rattle.survey.specs.declared.refusal.Refusal.{Refusal}
use Rattle.survey.specs.declared.refusal.Refusal.TheVariants as D
use Rattle.survey.specs.declared.store.Survey.{Survey}

-- the number of each refusal
abbrev pub number_of : Refusal → ℕ
number_of D.ImageTooLong = 1
number_of D.ImageBroken = 2
number_of D.BadName = 3
number_of D.BadArgument = 4
number_of D.NoRoom = 5
number_of D.AtCapacity = 6
number_of D.LiveEmpty = 7
number_of D.NoBatch = 8
number_of D.WrongBatch = 9
number_of D.CountFull = 10
number_of D.NoLayer = 11

-- what the programs print of a refusal: its number in decimal after the word
abbrev pub refusal_text : Refusal → List ℕ
refusal_text r = codes "refused " ++ decimal (number_of r)

-- a result with its refusal as a number
abbrev pub numbered : {A : Type 0} → Result A Refusal → Result A ℕ
numbered (Ok a) = Ok a
numbered (Err r) = Err (number_of r)

-- the number of a verdict, which is a refusal or that there is none
abbrev pub refusal_of : Option Refusal → Option ℕ
refusal_of None = None
refusal_of (Some r) = Some (number_of r)

-- both faults are refusal 2 today (document 02, T-09, parts them)
abbrev pub judge : Parsed Store → Option Refusal
judge (fault f) = Some D.ImageBroken
judge (got s r) = None

unfoldable pub verdict_of : List ℕ → Option Refusal
verdict_of img = cond (ltb 65536 (length img)) (Some D.ImageTooLong) (judge (read_image img))

-- the verdict, and the survey where the image is fine
pub record Judges (img : List ℕ) (sought : ℕ) (r : Result Survey Refusal) : Type 0 where
  pub verdict : result_err r ≡ verdict_of img
  pub survey : IfOk r (λ s. Surveyed img sought s)
