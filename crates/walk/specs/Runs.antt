-- Lists by inode as rows. Document 01: "Base: by rising inode", "Records by rising inode".
use Rattle.std.specs.Prelude.{◌≡◌, List, [], ◌∷◌, ℕ, zero, suc, drop, None, Option, Some}
use Rattle.std.proofs.Props.{props}
use Rattle.wire.specs.Parse.{Parsed, fault, got}
use Rattle.wire.specs.Combinators.{◌then◌}
use Rattle.wire.specs.Number.{number_read}
use Rattle.wire.specs.Orders.{by_number}
use Rattle.wire.specs.Lists.{last_count}
use Rattle.image.specs.Meaning.{Node, Record}
use Rattle.image.specs.FieldLayout.{inode}
use Rattle.image.specs.Places.{if_read}
use Rattle.passes.specs.Held.{HeldUnder, held}
use Rattle.passes.specs.declared.inode.Held.{Held}
use Rattle.passes.specs.declared.inode.Held.TheVariants as H
use Rattle.merge.specs.Pile.{head_if, pass}
use Rattle.walk.specs.declared.run.Run.{Run}

-- ---- rows

-- what stands under an inode: a node of the base, or a record of a layer
pub data Piece : Type 0 where
  of_node : Node → Piece
  of_record : Record → Piece

abbrev pub piece : (h : Held) → HeldUnder h → Piece
piece H.Node n = of_node n
piece H.Record r = of_record r

abbrev pub Row : Type 0
Row = ℕ × Piece

abbrev pub rows_if : {A : Type 0} → Parsed A → (A → List ℕ → List Row) → List Row
rows_if (fault f) g = []
rows_if (got a r) g = g a r

-- the n rows at the front of the bytes s; where there are none, none
unfoldable pub rows_read : Held → ℕ → List ℕ → List Row
rows_read h zero s = []
rows_read h (suc n) s = rows_if ((inode then held h).read s) (λ e r. (e.0, piece h e.1) ∷ rows_read h n r)

-- a list, its count first
abbrev pub list_rows : Held → List ℕ → List Row
list_rows h s = rows_if (number_read last_count s) (λ n r. rows_read h n r)

-- the rows of a run: the one that it is at, and those that follow; there is none in none
abbrev pub run_rows : List ℕ → Held → Option Run → List Row
run_rows img h None = []
run_rows img h (Some r) = rows_if ((held h).read (drop r.place img)) (λ a s. (r.inode, piece h a) ∷ rows_read h r.rest.count (drop r.rest.first img))

-- ---- what the functions over a run promise

-- something is read, and this is left
abbrev pub Leaves : {A : Type 0} → Parsed A → List ℕ → Type 0
Leaves (fault f) s = ⊥
Leaves (got a r) s = r ≡ s

-- what stands under the inode is read at its place, and ends at the next
abbrev pub Sound : List ℕ → Held → Option Run → Type 0
Sound img h None = Unit {0}
Sound img h (Some r) = Leaves ((held h).read (drop r.place img)) (drop r.rest.first img)

-- which can be said in one way alone
leaves-prop : {A : Type 0} (o : Parsed A) (s : List ℕ) → IsProp (Leaves o s)
leaves-prop (fault f) s = hlevel
leaves-prop (got a r) s = hlevel props

pub Sound-prop : (img : List ℕ) (h : Held) (o : Option Run) → IsProp (Sound img h o)
Sound-prop img h None = hlevel
Sound-prop img h (Some r) = leaves-prop ((held h).read (drop r.place img)) (drop r.rest.first img)

pub record RowsOf (img : List ℕ) (h : Held) (n p : ℕ) (r : Option Run) : Type 0 where
  pub are : run_rows img h r ≡ rows_read h n (drop p img)
  pub sound : Sound img h r

pub record ListOf (img : List ℕ) (h : Held) (p : ℕ) (r : Option Run) : Type 0 where
  pub are : run_rows img h r ≡ list_rows h (drop p img)
  pub sound : Sound img h r

-- what stands at a place, if it is one
abbrev pub piece_at : List ℕ → Held → Option ℕ → Option Piece
piece_at img h None = None
piece_at img h (Some p) = if_read ((held h).read (drop p img)) (λ a r. Some (piece h a))

-- it is read there, and ends there
abbrev pub EndsAt : List ℕ → Held → Option ℕ → Option ℕ → Type 0
EndsAt img h None o = Unit {0}
EndsAt img h (Some p) None = ⊥
EndsAt img h (Some p) (Some e) = (a : HeldUnder h) × ((held h).read (drop p img) ≡ got a (drop e img))

-- where what stands under the inode ends
abbrev pub next_of : Option Run → Option ℕ
next_of None = None
next_of (Some r) = Some r.rest.first

-- the run past the inode k, and the place of what stood under k in it
pub record Moved (img : List ℕ) (h : Held) (old : Option Run) (k : ℕ) (place : Option ℕ) (new : Option Run) : Type 0 where
  pub rows : run_rows img h new ≡ pass by_number k (run_rows img h old)
  pub sound : Sound img h new
  pub head : head_if by_number k (run_rows img h old) ≡ piece_at img h place
  pub ends : EndsAt img h place (next_of old)
