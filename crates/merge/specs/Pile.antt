-- A pile of sources: rising rows of changes, the topmost first, each of which alters what stands beneath it by a rule g.
-- Entries of a base, names that a delta removes and entries that it adds are such sources; so are records by inode.
use Rattle.std.specs.Prelude.{List, [], ◌∷◌, ℕ, ◌+◌, length, None, Option, Some}
use Rattle.std.specs.Coded.{×_prop, Unit-prop}
use Rattle.std.specs.declared.cmp.Ordering.{Ordering}
use Rattle.std.specs.declared.cmp.Ordering.TheVariants.{Less, Equal, Greater}
use Rattle.wire.specs.Order.{Order}
use Rattle.wire.specs.Rows.{choose, lookup, set, Rising}
use Rattle.wire.specs.RowLaws.{Rising-prop}
use Rattle.wire.specs.Maps.{Map, meet, merge, empty}

module _ {K : Type 0} (O : Order K) where
  abbrev pub pick_key : Ordering → K → K → Option K
  pick_key Less a b = Some a
  pick_key Equal a b = Some a
  pick_key Greater a b = Some b

  abbrev pub lower : Option K → Option K → Option K
  lower None o = o
  lower (Some a) None = Some a
  lower (Some a) (Some b) = pick_key (O.cmp a b) a b

module _ {K : Type 0} (O : Order K) {C : Type 0} where
  abbrev pub first_key : List (K × C) → Option K
  first_key [] = None
  first_key (e ∷ l) = Some e.0

  -- the least key that stands first
  unfoldable pub least_key : List (List (K × C)) → Option K
  least_key [] = None
  least_key (s ∷ ss) = lower O (first_key s) (least_key ss)

  -- the change of k, if it stands first
  abbrev pub head_if : K → List (K × C) → Option C
  head_if k [] = None
  head_if k (e ∷ l) = choose (O.cmp k e.0) (Some e.1) None

  -- without the first row, if its key is k
  unfoldable pub pass : K → List (K × C) → List (K × C)
  pass k [] = []
  pass k (e ∷ l) = choose (O.cmp k e.0) l (e ∷ l)

  unfoldable pub pass_all : K → List (List (K × C)) → List (List (K × C))
  pass_all k [] = []
  pass_all k (s ∷ ss) = pass k s ∷ pass_all k ss

  -- each source rises
  abbrev pub Ascend : List (List (K × C)) → Type 0
  Ascend [] = Unit {0}
  Ascend (s ∷ ss) = Rising O s × Ascend ss

  -- which can be said in one way alone
  pub Ascend-prop : (ss : List (List (K × C))) → IsProp (Ascend ss)
  Ascend-prop [] = Unit-prop
  Ascend-prop (s ∷ ss) = ×_prop (Rising-prop O s) (Ascend-prop ss)

  module _ {A : Type 0} (g : K → C → Option A → Option A) where
    -- a source over rows
    unfoldable pub laid : List (K × C) → List (K × A) → List (K × A)
    laid [] m = m
    laid (c ∷ cs) m = set O c.0 (g c.0 c.1 (lookup O c.0 (laid cs m))) (laid cs m)

    unfoldable pub pile : List (List (K × C)) → List (K × A)
    pile [] = []
    pile (s ∷ ss) = laid s (pile ss)

    -- what the changes of k that stand first make, one after another from the lowest
    unfoldable pub answer : K → List (List (K × C)) → Option A
    answer k [] = None
    answer k (s ∷ ss) = meet (g k) (head_if k s) (answer k ss)

    -- maps of changes, the topmost first, merged one after another
    unfoldable pub merged : List (Map O C) → Map O A
    merged [] = empty O
    merged (c ∷ cs) = merge O g c (merged cs)

    unfoldable pub rows_of : List (Map O C) → List (List (K × C))
    rows_of [] = []
    rows_of (c ∷ cs) = c.rows ∷ rows_of cs

-- a row, if there is a value for it
abbrev pub row : {K A : Type 0} → K → Option A → List (K × A) → List (K × A)
row k None l = l
row k (Some a) l = (k, a) ∷ l

-- how many rows there are in all
unfoldable pub total : {X : Type 0} → List (List X) → ℕ
total [] = 0
total (s ∷ ss) = length s + total ss

-- ---- sources that decide: of each key they have, whether it is there, and with what

module _ {K : Type 0} (O : Order K) {A : Type 0} where
  -- the topmost source that has a key decides it
  abbrev pub itself : K → Option A → Option A → Option A
  itself k c o = c

  abbrev pub first : List (K × Option A) → Option (K × Option A)
  first [] = None
  first (e ∷ l) = Some e

  abbrev pub uppermost : Ordering → K × Option A → K × Option A → K × Option A
  uppermost Less u l = u
  uppermost Equal u l = u
  uppermost Greater u l = l

  -- the row with the lesser key; of equal keys the upper
  abbrev pub upper : Option (K × Option A) → Option (K × Option A) → Option (K × Option A)
  upper None l = l
  upper (Some u) None = Some u
  upper (Some u) (Some l) = Some (uppermost (O.cmp u.0 l.0) u l)

  -- the first row with the least key, of the topmost source that has one
  unfoldable pub least : List (List (K × Option A)) → Option (K × Option A)
  least [] = None
  least (s ∷ ss) = upper (first s) (least ss)

  -- what the sources decide
  abbrev pub decisions : List (List (K × Option A)) → List (K × A)
  decisions ss = pile O itself ss
