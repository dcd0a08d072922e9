-- Attributes from the bottom: the base's, and what each record makes of them.
-- Assumes nothing.
use Rattle.nodes.specs.declared.node.Node.{Node}
use Rattle.std.specs.Prelude.{None, Option, Some}
use mathlib.Core.Path.{◌≡◌, sym, ap, ◌∙◌}
use mathlib.Core.List.{List}
use Prim.Native.Nat.{ℕ, ◌+◌, ◌<◌, ◌≤◌}
use native.Mathlib.Omega.{arith}
use Rattle.rules.specs.Initial.{usual}
use Rattle.rules.specs.FileAttrs.{attributes, base_attr, step_attr}
use Rattle.rules.specs.FileAttrs as R
use Rattle.attrs.specs.declared.node.FileAttr.{FileAttr}
use Rattle.deltas.specs.declared.delta.NodeDelta.{NodeDelta}
use Rattle.deltas.specs.declared.delta.NodeDelta.TheVariants as D
use Rattle.deltas.specs.declared.delta.EntryDelta.{EntryDelta}
use Rattle.deltas.specs.declared.delta.EntryDelta.TheVariants as E
use Rattle.deltas.specs.Deltas.{entry_meant, ChangeListed, EntryListed}
use Rattle.attrs.specs.Attrs.{TargetIn}
use Rattle.attrs.proofs.Linked.{kind-in}
use Rattle.layers.specs.Attrs.{EntryTargetIn, BaseLinkIn, attr_if}
use Rattle.stack.specs.Stacks.{BaseIs, node_meant_if}
use Rattle.stack.specs.InStack.{RecordIn, BaseIn, shown_lowest}
use Rattle.stack.specs.declared.stack.Stack.{Stack}
use Rattle.stack.proofs.Walks.{shown-base, shown-more}

-- ---- targets are inside the image

change-in : (img : List ℕ) (n : NodeDelta) (end : ℕ) → ChangeListed img n end → TargetIn img n
change-in img (D.Directory d) end h = tt
change-in img (D.File d) end h = tt
change-in img (D.Symlink d) end h = h
change-in img (D.Fifo d) end h = tt
change-in img (D.CharDevice d) end h = tt
change-in img (D.BlockDevice d) end h = tt
change-in img (D.Socket d) end h = tt

entry_in : (img : List ℕ) (e : EntryDelta) (end : ℕ) → EntryListed img e end → EntryTargetIn img e
entry_in img (E.Node n) end h = change-in img n end h
entry_in img E.Tombstone end h = tt

base-in : (img : List ℕ) (p : Option ℕ) (o : Option Node) → BaseIs img p o → BaseLinkIn img o
base-in img p None b = tt
base-in img None (Some n) b = absurd b
base-in img (Some p) (Some n) b = kind-in img n.kind b.end b.reads.entries

-- ---- the walk

-- the attributes that the lowest i records and the node of a stack show
pub record Risen (ino : ℕ) (s : Stack) (i : ℕ) (a : Option FileAttr) : Type 0 where
  pub low : i ≤ s.places.count
  pub same : attr_if a ≡ shown_lowest (attributes usual ino) s i

module _ {ino : ℕ} {s : Stack} where
  -- "Start at the base's"
  pub rise-start : (o : Option Node) {a : Option FileAttr} → BaseIn s o
      → ((m : List ℕ) → BaseLinkIn m o → attr_if a ≡ base_attr ino (node_meant_if m o)) → Risen ino s 0 a
  rise-start o b h =
      let m = s.img.now in
      record { low = omega arith; same = h m (base-in m s.places.base o b) ∙ sym (shown-base (attributes usual ino) m s.places o b) }

  -- what the record above them makes of them
  pub rise-on : {i : ℕ} {e : EntryDelta} {a x : Option FileAttr} → Risen ino s i a → i < s.places.count → RecordIn s i e
      → ((m : List ℕ) → EntryTargetIn m e → attr_if x ≡ step_attr usual ino (entry_meant m e) (attr_if a)) → Risen ino s (i + 1) x
  rise-on {i} {e} w l g f =
      let m = s.img.now in
      let below = ap (λ (z : Option R.FileAttr). step_attr usual ino (entry_meant m e) z) w.same in
      record { low = omega (arith, l); same = f m (entry_in m e g.end g.reads.lists) ∙ below ∙ sym (shown-more s.stacked (attributes usual ino) i l g) }
