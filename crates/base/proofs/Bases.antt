-- The nodes of a walk over a base and layers are the base with the layers folded in.
-- Assumes nothing.
use Rattle.std.specs.Prelude.{None, Option, Some}
use mathlib.Core.Path.{◌≡◌, refl, sym, ap, ◌∙◌}
use mathlib.Core.Bool.{Bool, true, false}
use mathlib.Core.List.{List, [], ◌∷◌}
use Prim.Native.Nat.{ℕ}
use Rattle.std.specs.declared.cmp.Ordering.{Ordering}
use Rattle.std.specs.declared.cmp.Ordering.TheVariants.{Less, Equal, Greater}
use Rattle.wire.specs.Order.{Order}
use Rattle.wire.specs.Orders.{by_number}
use Rattle.wire.specs.Rows.{choose, lookup, Under, Rising}
use Rattle.wire.specs.RowLaws.{lookup-under}
use Rattle.wire.specs.Maps.{Map, get, keep, map-ext, get-keep}
use Rattle.wire.specs.Lists.{chain_write, row as rowCodec, onto}
use Rattle.image.specs.Meaning as M
use Rattle.image.specs.Meaning.{Base, Layer, Batch, Store}
use Rattle.image.specs.FieldLayout.{inode}
use Rattle.image.specs.NodeLayout.{node, base}
use Rattle.rules.specs.Initial.{usual}
use Rattle.rules.specs.Queue.{kept, fold_all}
use Rattle.rules.specs.Stacks.{stack}
use Rattle.rules.proofs.Folded.{folded}
use Rattle.rules.proofs.Layers.{get-table}
use Rattle.merge.specs.Pile.{row}
use Rattle.walk.specs.Walks.{Pieces, or_nothing, stacks_left}
use Rattle.walk.specs.Opens.{Over}
use Rattle.walk.specs.declared.walk.Walk.{Walk}
use Rattle.walk.proofs.Stacked.{over-stacks, over-rising}
use Rattle.base.specs.Nodes.{kept_if, nodes_of, nodes_bytes, base_bytes}
use Rattle.base.proofs.Sifting.{none_kept}

-- ---- a row that may be there, in rising rows

module _ {K A : Type 0} (O : Order K) where
  under-row : (k i : K) (o : Option A) (l : List (K × A)) → O.cmp k i ≡ Less → Under O k l → Under O k (row i o l)
  under-row k i None l h u = u
  under-row k i (Some a) l h u = (h, u)

  rising-row : (i : K) (o : Option A) (l : List (K × A)) → Under O i l → Rising O l → Rising O (row i o l)
  rising-row i None l u r = r
  rising-row i (Some a) l u r = (u, r)

  lookup-row : (k i : K) (o : Option A) (l : List (K × A)) → Under O i l → lookup O k (row i o l) ≡ choose (O.cmp k i) o (lookup O k l)
  unfolding lookup
  lookup-row k i (Some a) l u = refl
  lookup-row k i None l u = go (O.cmp k i) refl
    where
      go : (d : Ordering) → O.cmp k i ≡ d → lookup O k l ≡ choose d None (lookup O k l)
      go Less e = refl
      go Greater e = refl
      go Equal e = rw (O.same k i e) (lookup-under O i l u)

-- ---- the nodes of stacks

module _ (d : Bool) where
  -- what is made of a stack
  node_of : Pieces → Option M.Node
  node_of p = kept_if d (folded usual p.0 p.1)

  nodes-under : (k : ℕ) (l : List (ℕ × Pieces)) → Under by_number k l → Under by_number k (nodes_of d l)
  unfolding nodes_of
  nodes-under k [] u = tt
  nodes-under k (e ∷ l) u = under-row by_number k e.0 (kept_if d (folded usual e.1.0 e.1.1)) (nodes_of d l) u.0 (nodes-under k l u.1)

  nodes-rise : (l : List (ℕ × Pieces)) → Rising by_number l → Rising by_number (nodes_of d l)
  unfolding nodes_of
  nodes-rise [] r = tt
  nodes-rise (e ∷ l) r = rising-row by_number e.0 (kept_if d (folded usual e.1.0 e.1.1)) (nodes_of d l) (nodes-under e.0 l r.0) (nodes-rise l r.1)

  -- looked up
  nodes-get : (k : ℕ) (l : List (ℕ × Pieces)) → Rising by_number l → lookup by_number k (nodes_of d l) ≡ node_of (or_nothing (lookup by_number k l))
  unfolding nodes_of lookup node_of folded
  nodes-get k [] r = sym (none_kept d)
  nodes-get k (e ∷ l) r =
      lookup-row by_number k e.0 (kept_if d (folded usual e.1.0 e.1.1)) (nodes_of d l) (nodes-under e.0 l r.0) ∙ go (by_number.cmp k e.0) (nodes-get k l r.1)
    where
      go : (c : Ordering) → lookup by_number k (nodes_of d l) ≡ node_of (or_nothing (lookup by_number k l))
          → choose c (kept_if d (folded usual e.1.0 e.1.1)) (lookup by_number k (nodes_of d l))
          ≡ node_of (or_nothing (choose c (Some e.1) (lookup by_number k l)))
      go Less ih = ih
      go Equal ih = refl
      go Greater ih = ih

-- every layer folded in; and without what a snapshot drops
abbrev folded_base : Bool → List Layer → Base → Base
folded_base true ls b = keep by_number (λ i n. kept n) (fold_all usual ls b)
folded_base false ls b = fold_all usual ls b

base-get : (d : Bool) (ls : List Layer) (b : Base) (k : ℕ) → get by_number k (folded_base d ls b) ≡ kept_if d (folded usual (stack k ls) (get by_number k b))
base-get true ls b k = rw (get-keep, get-table usual k ls b)
base-get false ls b k = get-table usual k ls b

module _ {b : Base} {ls : List Layer} {w : Walk} (o : Over b ls w) (d : Bool) where
  node_map : Map by_number M.Node
  node_map = record { rows = nodes_of d (stacks_left w); rising = nodes-rise d (stacks_left w) (over-rising o) }

  node-map : node_map ≡ folded_base d ls b
  unfolding get node_of node_map
  node-map =
      map-ext by_number node_map (folded_base d ls b)
      (λ k. nodes-get d k (stacks_left w) (over-rising o) ∙ ap (node_of d) (over-stacks o k) ∙ sym (base-get d ls b k))

  nodes-are : nodes_of d (stacks_left w) ≡ (folded_base d ls b).rows
  unfolding node_map
  nodes-are = ap (λ (m : Map by_number M.Node). m.rows) node-map

-- ---- as they are written

nodes-written : (prev : Option ℕ) (l : List (ℕ × M.Node)) → nodes_bytes l ≡ chain_write (rowCodec by_number inode node) (onto by_number inode node) prev l
unfolding nodes_bytes
nodes-written prev [] = refl
nodes-written prev (e ∷ l) = rw (nodes-written (Some e.0) l)

pub base-written : {b : Base} {ls : List Layer} {w : Walk} (o : Over b ls w) (d : Bool)
    → base_bytes d (stacks_left w) ≡ base.write (folded_base d ls b)
base-written {b = b} {ls} o d = rw (nodes-are o d) (rw (nodes-written None (folded_base d ls b).rows))
