-- Claims about what the definitions compute, and the stores that they are made of.
use Rattle.std.specs.Prelude.{None, Option, Some}
use mathlib.Core.Path.{◌≡◌}
use mathlib.Core.List.{List, [], ◌∷◌}
use mathlib.Core.Bool.{true}
use Prim.Native.Nat.{ℕ}
use Rattle.wire.specs.Time.{epoch}
use Rattle.wire.specs.Orders.{by_number, by_bytes}
use Rattle.wire.specs.Maps.{empty, put}
use Rattle.image.specs.Meaning.{Text, Entries, Body, Node, Fields, Change, Record, Store, delta, kind_of}
use Rattle.rules.specs.Initial.{usual}
use Rattle.rules.specs.Fold.{first_meta}
use Rattle.rules.specs.Answers.{Answer, refused, answer}
use Rattle.rules.specs.Stacks.{over_base}
use Rattle.rules.specs.FileAttrs.{FileAttr}
use Rattle.rules.specs.Calls.{Limits, Call}
use Rattle.rules.specs.Demand.{Made, after}

-- what the definitions give, and what is said of it
pub record Claim : Type 1 where
  pub Value : Type 0
  pub found : Value
  pub said : Value

abbrev pub claim : {A : Type 0} → A → A → Claim
claim {A} found said = record { Value = A; found = found; said = said }

abbrev pub Hold : List Claim → Type 0
Hold [] = Unit {0}
Hold (c ∷ cs) = (c.found ≡ c.said) × Hold cs

-- a table of entries, each of some claims
abbrev pub HoldAll : List (List Claim) → Type 0
HoldAll [] = Unit {0}
HoldAll (e ∷ es) = Hold e × HoldAll es

-- ---- stores

abbrev pub empty_store : Store
empty_store = over_base 1 (empty by_number)

-- a node of initial values, but for its body
abbrev pub node_of : Body → Node
node_of body = record { meta = first_meta usual (kind_of body); body = body }

-- a base of one node
abbrev pub one : ℕ → Body → Store
one i body = over_base 1 (put by_number i (Some (node_of body)) (empty by_number))

abbrev pub single : Text → ℕ → Entries
single name i = put by_bytes name (Some i) (empty by_bytes)

-- ---- calls

-- with room for every new image
abbrev pub made : List Call → List Made
made [] = []
made (c ∷ cs) = record { call = c; room = λ s. true } ∷ made cs

abbrev pub run : List Call → Store → Store
run cs s = after usual (made cs) s

abbrev pub large : Limits
large = record { batches = 100; bytes = 1000000; operations = 1000000 }

abbrev pub freeze : Call
freeze = Call.freeze large epoch

-- a delta given to insert
abbrev pub given-delta : Fields → Change → Option Record
given-delta f c = Some (delta (record { fields = f; change = c }))

-- ---- names

abbrev pub a : Text
a = 97 ∷ []

abbrev pub b : Text
b = 98 ∷ []

-- ---- answers

abbrev pub perm_of : Answer (Option FileAttr) → Option ℕ
perm_of (refused n) = None
perm_of (answer None) = None
perm_of (answer (Some x)) = Some x.perm

abbrev pub size_of : Answer (Option FileAttr) → Option ℕ
size_of (refused n) = None
size_of (answer None) = None
size_of (answer (Some x)) = Some x.size
