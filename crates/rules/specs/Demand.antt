-- Demand 3, in the words of its overview: "From an orderly image, after any list of calls (refused ones included, accepted ones within
-- document 01's conditions), every read answers as one plain table of inodes to which the accepted changes were applied directly; and each
-- call has the result or refusal that the rules give." Here on meanings: the store that an image holds.
use Rattle.std.specs.Prelude.{◌≡◌, List, [], ◌∷◌, Bool}
use Rattle.image.specs.Meaning.{Store}
use Rattle.rules.specs.Initial.{Initial}
use Rattle.rules.specs.Answers.{Answer, refused, answer, is_refused}
use Rattle.rules.specs.Asks.{Ask, ask}
use Rattle.rules.specs.Calls.{Call}
use Rattle.rules.specs.Outcomes.{change, if_room}
use Rattle.rules.specs.Table.{Told, table_of, tell_all, ask_table}
use Rattle.rules.specs.Orderly.{Orderly, Condition}

-- a call, and whether the new image has room, in 65,536 bytes and in the lent target
pub record Made : Type 0 where
  pub call : Call
  pub room : Store → Bool

-- a refused call leaves the store
abbrev pub store_after : Answer Store → Store → Store
store_after (refused n) s = s
store_after (answer t) s = t

abbrev pub IfAccepted : Type 0 → Answer Store → Type 0
IfAccepted P (refused n) = Unit {0}
IfAccepted P (answer t) = P

module _ (initial : Initial) where
  -- what a call gives, refusal or new store
  abbrev pub outcome : Made → Store → Answer Store
  outcome m s = if_room m.room (change initial m.call s)

  abbrev pub next : Made → Store → Store
  next m s = store_after (outcome m s) s

  unfoldable pub after : List Made → Store → Store
  after [] s = s
  after (m ∷ ms) s = after ms (next m s)

  -- what the table is told: which call, its arguments, whether it was refused
  unfoldable pub told : List Made → Store → List Told
  told [] s = []
  told (m ∷ ms) s = record { call = m.call; refused = is_refused (outcome m s) } ∷ told ms (next m s)

  -- each accepted call is within its condition
  abbrev pub Conditions : List Made → Store → Type 0
  Conditions [] s = Unit {0}
  Conditions (m ∷ ms) s = IfAccepted (Condition initial m.call s) (outcome m s) × Conditions ms (next m s)

  -- From an orderly store, after any list of calls of which the accepted ones are within their conditions, every read answers as the table
  -- that started as the folded store and was told the calls.
  abbrev pub Demand-3 : Type 0
  Demand-3 =
      (s : Store) → Orderly s → (calls : List Made) → Conditions calls s
      → (q : Ask) → ask initial q (after calls s) ≡ ask_table initial q (tell_all initial (told calls s) (table_of initial s))
