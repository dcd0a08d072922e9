-- What a change answers, and what it leaves in the target.
use Rattle.std.specs.Prelude.{◌≡◌, Bool, ◌||◌, ◌&&◌, cond, List, ℕ, leb, ltb, length, Result, Ok, Err}
use Rattle.std.proofs.Common.{MutBor}
use Rattle.wire.specs.Put.{Put}
use Rattle.survey.specs.Verdict.{numbered}
use Rattle.survey.specs.declared.refusal.Refusal.{Refusal}
use Rattle.rules.specs.Answers.{Answer, refused, answer}
use Rattle.rules.specs.ChangeCalls.{written}

-- "A refusal gives its number"; success, the length of the new image
abbrev pub answered : Answer (List ℕ) → Result ℕ ℕ
answered (refused n) = Err n
answered (answer new) = Ok (length new)

-- Answer and target are those of the call's definition.
pub record Changes (def : Answer (List ℕ)) (old : List ℕ) (r : Result ℕ Refusal) (new : List ℕ) : Type 0 where
  pub answers : numbered r ≡ answered def
  pub leaves : new ≡ written def old

-- the new image, if there is room for it: "5 stands for: the new image is over 65,536 bytes or over the lent target."
abbrev pub if_fits : List ℕ → ℕ → Answer (List ℕ)
if_fits new room = cond (leb (length new) 65536 && leb (length new) room) (answer new) (refused 5)

-- the same test, of a size that was measured
abbrev pub lacks_room : ℕ → ℕ → Bool
lacks_room size room = ltb 65536 size || ltb room size

-- What puts the same bytes into every buffer, from 0 on, has put them as the new image, if there is room.
abbrev pub Writes : (MutBor (List ℕ) → ℕ → MutBor (List ℕ) → Type 0) → List ℕ → Result ℕ Refusal → List ℕ → Type 0
Writes Puts old r new =
    (bytes : List ℕ) → ((l : MutBor (List ℕ)) (q : ℕ) (m : MutBor (List ℕ)) → Puts l q m → Put l.now 0 bytes q m.now)
    → Changes (if_fits bytes (length old)) old r new
