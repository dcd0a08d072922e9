-- The stacks that a walk over a base and layers has left are those of the base and layers, for every inode in any of them.
-- Assumes nothing.
use Rattle.std.specs.Prelude.{None, Option, Some}
use mathlib.Core.Path.{◌≡◌, refl}
use mathlib.Core.List.{List, [], ◌∷◌}
use Prim.Native.Nat.{ℕ}
use native.Mathlib.Omega.{arith}
use Rattle.std.specs.declared.cmp.Ordering.{Ordering}
use Rattle.std.specs.declared.cmp.Ordering.TheVariants.{Less, Equal, Greater}
use Rattle.wire.specs.Order.{Order}
use Rattle.wire.specs.Orders.{by_number}
use Rattle.wire.specs.Rows.{choose, lookup, Rising}
use Rattle.wire.specs.RowLaws.{lookup-under}
use Rattle.wire.specs.Maps.{Map, meet, get, get-merge, get-empty}
use Rattle.wire.specs.Lists.{Every}
use Rattle.image.specs.Meaning.{Node, Record, Base, Layer}
use Rattle.rules.specs.Changes.{map_if}
use Rattle.rules.specs.Stacks.{over?, stack_on, stack}
use Rattle.rules.proofs.MapValues.{map_values, get-map}
use Rattle.merge.specs.Pile.{merged, rows_of}
use Rattle.merge.proofs.Piles.{pile-merged, rising-pile}
use Rattle.walk.specs.Runs.{Piece, of_node, of_record}
use Rattle.walk.specs.Walks.{Pieces, or_nothing, laying, stacks_of, sources_of, stacks_left}
use Rattle.walk.specs.Opens.{node_rows, layers_on, Over}
use Rattle.walk.specs.declared.walk.Walk.{Walk}

maps_on : List Layer → List (Map by_number Piece) → List (Map by_number Piece)
maps_on [] cs = cs
maps_on (l ∷ ls) cs = maps_on ls (map_values by_number of_record l ∷ cs)

rows_on : (ls : List Layer) (cs : List (Map by_number Piece)) → layers_on ls (rows_of by_number laying cs) ≡ rows_of by_number laying (maps_on ls cs)
unfolding layers_on rows_of maps_on map_values
rows_on [] cs = refl
rows_on (l ∷ ls) cs = rows_on ls (map_values by_number of_record l ∷ cs)

abbrev under : ℕ → List (Map by_number Piece) → Pieces
under i cs = or_nothing (get by_number i (merged by_number laying cs))

laid_on : (i : ℕ) (ls : List Layer) (cs : List (Map by_number Piece)) (rs : List Record) (n : Option Node) → under i cs ≡ (rs, n)
    → under i (maps_on ls cs) ≡ (stack_on i ls rs, n)
unfolding maps_on merged stack_on
laid_on i [] cs rs n e = e
laid_on i (l ∷ ls) cs rs n e =
    laid_on i ls (map_values by_number of_record l ∷ cs) (over? (get by_number i l) rs) n (rw (get-merge, get-map) (go (get by_number i l)))
  where
    go : (o : Option Record) → or_nothing (meet (laying i) (map_if of_record o) (get by_number i (merged by_number laying cs))) ≡ (over? o rs, n)
    go None = e
    go (Some r) = rw e

module _ (b : Base) (ls : List Layer) where
  stack-under : (i : ℕ) → under i (maps_on ls (map_values by_number of_node b ∷ [])) ≡ (stack i ls, get by_number i b)
  unfolding merged
  stack-under i = laid_on i ls (map_values by_number of_node b ∷ []) [] (get by_number i b) (rw (get-merge, get-map, get-empty) (go (get by_number i b)))
    where
      go : (o : Option Node) → ◌≡◌ {A = Pieces} (or_nothing (meet (laying i) (map_if of_node o) None)) ([], o)
      go None = refl
      go (Some n) = refl

  stacks-are : (i : ℕ) → or_nothing (lookup by_number i (stacks_of (layers_on ls (node_rows b ∷ [])))) ≡ (stack i ls, get by_number i b)
  unfolding rows_of map_values get
  stacks-are i =
      rw (rows_on ls (map_values by_number of_node b ∷ []), pile-merged by_number laying (maps_on ls (map_values by_number of_node b ∷ []))) (stack-under i)

-- each row is what a lookup of its key gives
pub every-found : {K A : Type 0} (O : Order K) (P : K × A → Type 0) (l : List (K × A)) → Rising O l → ((k : K) (a : A) → lookup O k l ≡ Some a → P (k, a))
    → Every P l
unfolding lookup
every-found O P [] r f = tt
every-found {K} {A} O P (e ∷ l) r f = (f e.0 e.1 (rw (O.self e.0)), every-found O P l r.1 (λ k a h. f k a (go k a h (O.cmp k e.0) refl)))
  where
    go : (k : K) (a : A) → lookup O k l ≡ Some a → (d : Ordering) → O.cmp k e.0 ≡ d → choose d (Some e.1) (lookup O k l) ≡ Some a
    go k a h Less q = h
    go k a h Greater q = h
    go k a h Equal q =
        let z : lookup O k l ≡ None = rw (O.same k e.0 q) (lookup-under O e.0 l r.0) in
        absurd (let y : ◌≡◌ {A = ℕ} 0 1 = cc in omega arith)

-- the stack of each inode that is left
pub record Is (b : Base) (ls : List Layer) (e : ℕ × Pieces) : Type 0 where
  pub pieces : e.1 ≡ (stack e.0 ls, get by_number e.0 b)

module _ {b : Base} {ls : List Layer} {w : Walk} (o : Over b ls w) where
  pub over-stacks : (i : ℕ) → or_nothing (lookup by_number i (stacks_left w)) ≡ (stack i ls, get by_number i b)
  over-stacks i = rw o.are (stacks-are b ls i)

  pub over-rising : Rising by_number (stacks_left w)
  over-rising = rising-pile by_number laying (sources_of w)

  pub over-each : Every (Is b ls) (stacks_left w)
  over-each = every-found by_number (Is b ls) (stacks_left w) over-rising (λ i x h. record { pieces = rw h at (over-stacks i) })
