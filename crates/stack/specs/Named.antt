-- Calls that are given a name. Document 01: "Reads: 1, 2, then 3 if the name given is empty or over 255 bytes."
use Rattle.std.specs.Prelude.{◌≡◌, cond, List, ℕ, Result, IfOk, None, Option, Some}
use Rattle.std.specs.Result.{result_err}
use Rattle.image.specs.Meaning.{Text}
use Rattle.survey.specs.Verdict.{verdict_of}
use Rattle.survey.specs.declared.refusal.Refusal.{Refusal}
use Rattle.survey.specs.declared.refusal.Refusal.TheVariants.{BadName}
use Rattle.rules.specs.Asks.{bad_name}
use Rattle.stack.specs.InStack.{StackOf}
use Rattle.stack.specs.declared.stack.Stack.{Stack}

-- the refusal of an image and a name, by that of the image
abbrev pub named_verdict : Option Refusal → Text → Option Refusal
named_verdict None name = cond (bad_name name) (Some BadName) None
named_verdict (Some r) name = Some r

pub record OpensNamed (img : List ℕ) (i : ℕ) (name : Text) (r : Result Stack Refusal) : Type 0 where
  pub verdict : result_err r ≡ named_verdict (verdict_of img) name
  pub stack : IfOk r (λ s. StackOf img i s)
