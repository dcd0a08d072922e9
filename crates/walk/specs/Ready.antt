-- The runs of a walk: the base's, and those of the layers over it, the lowest first.
use Rattle.std.specs.Prelude.{◌≡◌, List, [], ◌∷◌, ℕ, ◌≤◌, length, take, Option}
use Rattle.std.specs.List.{All}
use Rattle.std.specs.Coded.{×_prop, le_prop}
use Rattle.std.proofs.Math.Nat.{ℕ_set}
use Rattle.wire.specs.Orders.{by_number}
use Rattle.wire.specs.RowLaws.{Rising-prop}
use Rattle.passes.specs.declared.inode.Held.TheVariants as H
use Rattle.merge.specs.Pile.{Ascend}
use Rattle.walk.specs.Runs.{Row, run_rows, Sound, Sound-prop}
use Rattle.walk.specs.declared.run.Run.{Run}
use Rattle.walk.specs.declared.run.Runs.{Runs}

-- layers, the lowest first, over what is beneath them
unfoldable pub layers_over : List ℕ → List (Option Run) → List (List Row) → List (List Row)
layers_over img [] ss = ss
layers_over img (r ∷ rs) ss = layers_over img rs (run_rows img H.Record r ∷ ss)

-- the rows of the base and of the layers over it, the topmost first
abbrev pub sources_in : List ℕ → Runs → List (List Row)
sources_in img r = layers_over img (take r.count r.layers) (run_rows img H.Node r.base ∷ [])

pub record Few (r : Runs) : Type 0 where
  pub few : r.count ≤ 17
  pub wide : length r.layers ≡ 17

-- each run is at a row that is read
pub record Whole (img : List ℕ) (r : Runs) : Type 0 where
  pub few : Few r
  pub base : Sound img H.Node r.base
  pub layers : All (Sound img H.Record) (take r.count r.layers)

-- and each rises
pub record Ready (img : List ℕ) (r : Runs) : Type 0 where
  pub whole : Whole img r
  pub ascend : Ascend by_number (sources_in img r)

-- which can be said in one way alone
Few-prop : (r : Runs) → IsProp (Few r)
Few-prop r = hlevel (le_prop, ℕ_set)

Whole-prop : (img : List ℕ) (r : Runs) → IsProp (Whole img r)
Whole-prop img r = hlevel (Few-prop, Sound-prop)

ascend-prop : (ss : List (List Row)) → IsProp (Ascend by_number ss)
ascend-prop [] = hlevel
ascend-prop (s ∷ ss) = ×_prop (Rising-prop by_number s) (ascend-prop ss)

pub Ready-prop : (img : List ℕ) (r : Runs) → IsProp (Ready img r)
Ready-prop img r = hlevel (Whole-prop, ascend-prop)
