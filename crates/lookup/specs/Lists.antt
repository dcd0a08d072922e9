-- Lists by name that stand in an image.
use Rattle.std.specs.Prelude.{List, ℕ, drop, None}
use Rattle.wire.specs.Orders.{by_bytes}
use Rattle.image.specs.FieldLayout.{name}
use Rattle.image.specs.Under.{under}
use Rattle.image.specs.Places.{rows_from}
use Rattle.image.specs.declared.name.Under.{Under}
use Rattle.nodes.specs.Listed.{by_name}
use Rattle.stack.specs.Stacks.{IsRead, is_read-prop}
use Rattle.wire.specs.declared.part.Part.{Part}

-- a list stands at its place
abbrev pub IsList : List ℕ → Under → Part → Type 0
IsList img u p = IsRead ((by_name u).read (drop p.start img))

-- which can be said in one way alone
pub IsList-prop : (img : List ℕ) (u : Under) (p : Part) → IsProp (IsList img u p)
IsList-prop img u p = is_read-prop ((by_name u).read (drop p.start img))

-- so many rows stand from a place on, which can be said in one way alone too
abbrev pub AreRows : List ℕ → Under → ℕ → ℕ → Type 0
AreRows img u first n = IsRead (rows_from by_bytes name (under u) n None (drop first img))

pub AreRows-prop : (img : List ℕ) (u : Under) (first n : ℕ) → IsProp (AreRows img u first n)
AreRows-prop img u first n = is_read-prop (rows_from by_bytes name (under u) n None (drop first img))
