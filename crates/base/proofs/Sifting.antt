-- Which nodes of a walk are kept, and the loop that writes and counts them.
-- Assumes nothing.
use Rattle.std.specs.Prelude.{None, Option, Some}
use Rattle.std.specs.Option.{option_zip}
use mathlib.Core.Path.{◌≡◌, refl, sym, ap, ◌∙◌}
use mathlib.Core.Bool.{Bool, true, false, cond}
use mathlib.Core.Logic.{⊎_elim}
use mathlib.Core.List.{List, [], ◌++◌, append-nil}
use Prim.Native.Nat.{ℕ, ◌+◌, ◌-◌, ◌≤◌, ◌<◌}
use native.Mathlib.Omega.{arith}
use mir.Syntax.{w64}
use mir.Val.{Fits}
use lib.ListN.{length, drop, length-append, length-drop, drop_of_length-le}
use lib.Seq.{take_all, take_at}
use Rattle.wire.specs.Number.{edge, lt-or-ge}
use Rattle.wire.specs.Put.{Put}
use Rattle.wire.proofs.Puts.{put-append, put-length}
use Rattle.image.specs.Meaning as M
use Rattle.image.specs.Meaning.{kind_of}
use Rattle.image.specs.FieldLayout.{inode}
use Rattle.image.specs.NodeLayout.{node}
use Rattle.rules.specs.PlacedStacks.{records_on, node_at, unplaced_node}
use Rattle.rules.proofs.Folded.{folded}
use Rattle.writers.proofs.Writing.{put-nothing}
use Rattle.stack.specs.Stacks.{node_in}
use Rattle.stack.specs.declared.stack.Stack.{Stack}
use Rattle.change.specs.Sections.{between}
use Rattle.merge.specs.Pile.{row}
use Rattle.fold.specs.FoldedNodes.{Shows, ShowsIf, folded_in, FoldsTo, bytes_if}
use Rattle.fold.specs.declared.folded.Folded.{Folded}
use Rattle.fold.proofs.Folding.{shows-kind}
use Rattle.walk.specs.Walks.{Pieces, stacks_left, NodeEnds, Steps}
use Rattle.walk.specs.declared.walk.Walk.{Walk}
use Rattle.walk.specs.declared.walk.Step.{Step}
use Rattle.base.specs.Nodes.{kept_if, Like, Stays, StaysAt, count_if, nodes_of, row_bytes, nodes_bytes, PutsRow, PutsNodes}
use Rattle.wire.specs.declared.put.Written.{Written}
use Rattle.image.proofs.OneForm.{node-one}

-- ---- a node

shows-like : {img : List ℕ} {f : Folded} {m : M.Node} → Shows img f m → Like img f.node m
shows-like h = record { links = ap (λ (x : M.Node). x.meta.links) (sym h.is); kind = shows-kind h }

-- ---- the row of a stack

pub none_kept : (d : Bool) → kept_if d None ≡ None
none_kept true = refl
none_kept false = refl

module _ (s : Stack) {o : Option Folded} (g : ShowsIf s.img.now o (folded_in s)) where
  module _ {f : Folded} (e : o ≡ Some f) where
    row-folds : FoldsTo s f
    row-folds = rw e at g

    there : (m : M.Node) × (folded_in s ≡ Some m) × Shows s.img.now f m
    there = go (folded_in s) refl row-folds
      where
        go : (x : Option M.Node) → folded_in s ≡ x → ShowsIf s.img.now (Some f) x → (m : M.Node) × (folded_in s ≡ Some m) × Shows s.img.now f m
        go None q h = absurd h
        go (Some m) q h = (m, q, h)

    module _ {d b : Bool} (k : Stays f.node d b) (i : ℕ) {old : List ℕ} (n : Written) where
      pub row_put : b ≡ true → {mid new : List ℕ} {q p : ℕ} → Put old n.end (inode.write i) q mid → Put mid q (bytes_if (folded_in s)) p new
          → {r : Written} → (r.end ≡ p) × (r.count ≡ n.count + 1) → PutsRow old n i (kept_if d (folded_in s)) r new
      row_put z u v m =
          let a = there in
          let w : kept_if d (Some a.0) ≡ Some a.0 = k.says s.img.now a.0 (shows-like a.2) ∙ rw z in
          rw (a.1, w) (record { puts = rw m.0 (put-append u (rw a.1 at v)); counts = m.1 })

      pub row-dropped : b ≡ false → length old < edge → Fits w64 n.end → PutsRow old n i (kept_if d (folded_in s)) n old
      row-dropped z h l =
          let a = there in
          let w : kept_if d (Some a.0) ≡ None = k.says s.img.now a.0 (shows-like a.2) ∙ rw z in
          rw (a.1, w) (record { puts = put-nothing h l; counts = omega arith })

-- ---- a base node that no record is over

pub no-records : (s : Stack) → s.places.count ≡ 0 → folded_in s ≡ unplaced_node (node_in s.img.now s.places)
unfolding records_on folded
no-records s z = rw z

module _ (img : List ℕ) (p e : ℕ) (h : NodeEnds img (Some p) (Some e)) where
  -- it is copied
  base-bytes : between img p e ≡ node.write h.0
  base-bytes =
      let w = node.write h.0 in
      let b : drop p img ≡ w ++ drop e img = (node-one.forth (drop p img) h.0 (drop e img) h.1).0 in
      let l : length img - p ≡ length w + (length img - e) = rw (← length-drop, ← length-drop, ← length-append) (ap length b) in
      rw b
      (⊎_elim
      (λ (k : length img < e).
      let z : drop e img ≡ [] = drop_of_length-le img {i = e} (omega arith) in
      rw (z, append-nil) (take_all (e - p) w (omega (arith, l))))
      (λ (k : e ≤ length img). take_at w (drop e img) (e - p) (omega (arith, l)))
      (lt-or-ge (length img) e))

  base-is : unplaced_node (node_at img (Some p)) ≡ Some h.0
  base-is = rw h.1

  base-row : {d b : Bool} → StaysAt img p d b → kept_if d (unplaced_node (node_at img (Some p))) ≡ cond b (Some h.0) None
  base-row k = rw (base-is, k.says h.0 (drop e img) h.1)

-- where it starts and where it ends
zipped : (o e : Option ℕ) {p q : ℕ} → option_zip o e ≡ Some (p, q) → (o ≡ Some p) × (e ≡ Some q)
zipped None e z = (cc, cc)
zipped (Some a) None z = (cc, cc)
zipped (Some a) (Some b) {p} {q} z = let x : ◌≡◌ {A = ℕ × ℕ} (a, b) (p, q) = cc in (ap (λ (x : ℕ × ℕ). Some x.0) x, ap (λ (x : ℕ × ℕ). Some x.1) x)

module _ (img : List ℕ) (place end : Option ℕ) (h : NodeEnds img place end) (d : Bool) (i : ℕ) (o : Written) where
  module _ {p e : ℕ} (z : option_zip place end ≡ Some (p, e)) where
    here : NodeEnds img (Some p) (Some e)
    here = let y = zipped place end z in rw (y.0, y.1) at h

    module _ {b : Bool} (k : StaysAt img p d b) where
      kept-is : kept_if d (unplaced_node (node_at img place)) ≡ cond b (Some here.0) None
      kept-is = ap (λ (o : Option ℕ). kept_if d (unplaced_node (node_at img o))) (zipped place end z).0 ∙ base-row img p e here k

      pub base-put : b ≡ true → {old mid new : List ℕ} {q r : ℕ} → Put old o.end (inode.write i) q mid → Put mid q (between img p e) r new
          → {w : Written} → (w.end ≡ r) × (w.count ≡ o.count + 1) → PutsRow old o i (kept_if d (unplaced_node (node_at img place))) w new
      base-put x u v m = rw (kept-is, x) (record { puts = rw m.0 (put-append u (rw (base-bytes img p e here) at v)); counts = m.1 })

-- ---- the rows of a walk

row-bytes : (i : ℕ) (o : Option M.Node) (l : List (ℕ × M.Node)) → nodes_bytes (row i o l) ≡ row_bytes i o ++ nodes_bytes l
unfolding nodes_bytes
row-bytes i None l = refl
row-bytes i (Some m) l = refl

row_count_lem : (i : ℕ) (o : Option M.Node) (l : List (ℕ × M.Node)) → length (row i o l) ≡ count_if o + length l
row_count_lem i None l = omega arith
row_count_lem i (Some m) l = omega arith

row_one : (o : Option M.Node) → count_if o ≤ 1
row_one None = omega arith
row_one (Some m) = omega arith

-- what is left, written after those so far, makes the whole
pub record Writing (l₀ : List ℕ) (at : ℕ) (all : List (ℕ × Pieces)) (d : Bool) (l : List ℕ) (w : Walk) (n : Written) : Type 0 where
  pub long : length l ≡ length l₀
  pub low : n.end ≤ edge
  pub few : n.count + length (stacks_left w) ≤ edge
  pub on : (r : ℕ) (k : List ℕ) → Put l n.end (nodes_bytes (nodes_of d (stacks_left w))) r k → Put l₀ at (nodes_bytes (nodes_of d all)) r k
  pub are : length (nodes_of d all) ≡ n.count + length (nodes_of d (stacks_left w))

pub writing-none : {l : List ℕ} {at : ℕ} (w : Walk) (d : Bool) → length (stacks_left w) ≤ edge → Fits w64 at
    → Writing l at (stacks_left w) d l w (record { end = at; count = 0 })
writing-none w d few k =
    record {
      long = refl;
      low = omega (arith, k.fits);
      few = omega (arith, few);
      on = λ r k p. p;
      are = omega arith;
    }

module _ {l₀ : List ℕ} {at : ℕ} {all : List (ℕ × Pieces)} {d : Bool} {l : List ℕ} {w : Walk} {n : Written} (g : Writing l₀ at all d l w n) {v : Walk} where
  module _ {t : Step} (s : Steps w (Some t) v) where
    pub writing_more : {r : Written} {k : List ℕ} → PutsRow l n t.inode (kept_if d (folded_in t.stack)) r k → Writing l₀ at all d k v r
    unfolding nodes_of
    writing_more {r} {k} p =
        let m = kept_if d (folded_in t.stack) in
        let fewer = rw s.stacks at g.few in
        let these = rw s.stacks at g.are in
        record {
          long = put-length p.puts ∙ g.long;
          low = omega (arith, p.puts.to);
          few = omega (arith, fewer, p.counts, row_one m);
          on = λ q x h. g.on q x (rw (s.stacks, row-bytes t.inode m (nodes_of d (stacks_left v))) (put-append p.puts h));
          are = omega (arith, these, p.counts, row_count_lem t.inode m (nodes_of d (stacks_left v)));
        }

  pub writing-all : Steps w None v → length l₀ < edge → PutsNodes l₀ at (nodes_of d all) n l
  unfolding nodes_of nodes_bytes
  writing-all s h =
      let none : stacks_left w ≡ [] = s.stacks in
      record {
        puts = g.on n.end l (rw none (put-nothing (omega (arith, g.long)) (record { fits = omega (arith, g.low) })));
        counts = let z = rw none at g.are in omega (arith, z);
      }
