-- What every walk over a stack needs: each of its records is read, and stands on those below it.
-- Assumes nothing.
use Rattle.nodes.specs.declared.node.Node.{Node}
use Rattle.std.specs.Prelude.{Result, Ok, Err, IsOk, None, Option, Some}
use mathlib.Core.Path.{◌≡◌, refl, sym, ap, ◌∙◌, subst}
use mathlib.Core.List.{List, [], ◌∷◌}
use Prim.Native.Nat.{ℕ, zero, suc, ◌+◌, ◌-◌, ◌≤◌, ◌<◌}
use native.Mathlib.Numerals.{add-one}
use native.Mathlib.Omega.{arith}
use lib.ListN.{length, drop, get_or, length-take}
use lib.Seq.{take-suc, get_or-take}
use Rattle.wire.specs.declared.fault.Fault.{Fault}
use Rattle.image.specs.RecordLayout.{layer_record}
use Rattle.survey.specs.declared.batch.InodeLayerStack.{InodeLayerStack}
use Rattle.survey.specs.Gathering.{deltas_of}
use Rattle.rules.specs.Reads.{Read, look}
use Rattle.rules.specs.PlacedStacks.{records_on, node_at, unplaced_node}
use Rattle.rules.proofs.PlacedStack.{records-snoc}
use Rattle.nodes.specs.declared.node.Node as N
use Rattle.deltas.specs.declared.delta.EntryDelta.{EntryDelta}
use Rattle.nodes.specs.Nodes.{ReadsNode}
use Rattle.deltas.specs.Deltas.{entry_meant, ReadsEntry}
use Rattle.std.specs.declared.ops.ControlFlow.{ControlFlow}
use Rattle.std.specs.declared.ops.ControlFlow.TheVariants as C
use Rattle.stack.specs.Stacks.{IsRead, AllRead, Stacked, records_under, shown_under, RecordIs, BaseIs, node_meant_if}
use Rattle.stack.specs.InStack.{RecordIn, BaseIn, shown_lowest, shown_in}
use Rattle.stack.specs.Questions.{RecordAnswers}
use Rattle.stack.specs.declared.stack.Stack.{Stack}

-- ---- what is read at a place

all-at : (img ps : List ℕ) (i : ℕ) → AllRead img ps → i < length ps → IsRead (layer_record.read (drop (get_or ps i 0) img))
all-at img [] i h l = absurd (omega arith)
all-at img (p ∷ ps) zero h l = h.0
all-at img (p ∷ ps) (suc i) h l = all-at img ps i h.1 (omega arith)

module _ {img : List ℕ} {s : InodeLayerStack} (h : Stacked img s) where
  record-read : (i : ℕ) → i < s.count → IsRead (layer_record.read (drop (get_or s.deltas i 0) img))
  record-read i l = rw (get_or-take s.count s.deltas i 0 l) at (all-at img (deltas_of s) i h.records (rw length-take (omega (arith, h.few, h.wide))))

  -- a record of the stack is read whole
  pub record-ok : (i : ℕ) {o : Result (EntryDelta × ℕ) Fault} → i < s.count → ReadsEntry img (get_or s.deltas i 0) o → IsOk o
  record-ok i {o} l g = go o g
    where
      go : (o : Result (EntryDelta × ℕ) Fault) → ReadsEntry img (get_or s.deltas i 0) o → IsOk o
      go (Ok r) g = refl
      go (Err f) g = absurd (rw g.reads.same at (record-read i l))

  -- and stands on top of those below it
  pub records-more : (i : ℕ) {e : EntryDelta} → i < s.count → RecordIs img (get_or s.deltas i 0) e
      → records_under img s (i + 1) ≡ record { place = get_or s.deltas i 0; held = entry_meant img e } ∷ records_under img s i
  records-more i l g =
      rw (add-one, take-suc s.deltas i 0 (omega (arith, h.few, h.wide)), records-snoc, g.reads.reads.same)

  pub shown-more : {X : Type 0} (R : Read X) (i : ℕ) {e : EntryDelta} → i < s.count → RecordIs img (get_or s.deltas i 0) e
      → shown_under R img s (i + 1) ≡ R.step (entry_meant img e) (shown_under R img s i)
  unfolding look
  shown-more R i l g = rw (records-more i l g)

pub base-is : {img : List ℕ} {b : Option ℕ} {p end : ℕ} {n : N.Node} {o : Result (N.Node × ℕ) Fault} → b ≡ Some p → ReadsNode img p o → o ≡ Ok (n, end) →
    BaseIs img b (Some n)
base-is {end = end} e g d = rw e (record { end = end; reads = rw d at g })

-- ---- the base

base-meant : (img : List ℕ) (p : Option ℕ) (o : Option Node) → BaseIs img p o → unplaced_node (node_at img p) ≡ node_meant_if img o
base-meant img None None b = refl
base-meant img None (Some n) b = absurd b
base-meant img (Some p) None b = absurd b
base-meant img (Some p) (Some n) b = rw b.reads.reads.same

-- below all records there is the base
pub shown-base : {X : Type 0} (R : Read X) (img : List ℕ) (s : InodeLayerStack) (o : Option Node) → BaseIs img s.base o
    → shown_under R img s 0 ≡ R.base (node_meant_if img o)
unfolding look records_on
shown-base R img s o b = ap R.base (base-meant img s.base o b)

-- ---- a walk from the top

-- what the stack shows is what its lowest `left` records and its node show
pub record Walked {X : Type 0} (R : Read X) (s : Stack) (left : ℕ) : Type 0 where
  pub low : left ≤ s.places.count
  pub same : shown_in R s ≡ shown_lowest R s left

-- a record is that of its place, however the place is counted
pub record-at : (s : Stack) {i j : ℕ} {e : EntryDelta} → RecordIn s i e → i ≡ j → RecordIn s j e
record-at s {e = e} g d = subst (λ (n : ℕ). RecordIn s n e) d g

module _ {X : Type 0} {R : Read X} {s : Stack} where
  module _ {left : ℕ} (w : Walked R s left) where
    module _ (l : 0 < left) {e : EntryDelta} (g : RecordIn s (left - 1) e) where
      -- the topmost of them, over what is below it
      walk-down : shown_in R s ≡ R.step (entry_meant s.img.now e) (shown_lowest R s (left - 1))
      walk-down =
          let z : left ≡ left - 1 + 1 = omega arith in
          w.same ∙ ap (λ (n : ℕ). shown_lowest R s n) z ∙ shown-more s.stacked R (left - 1) (omega (arith, w.low)) g

      module _ {A : Type 0} (says : Option A → X) {flow : ControlFlow (Option A) (Unit {0})} (h : RecordAnswers R says (entry_meant s.img.now e) flow) where
        -- it decides
        pub walk-decided : {a : Option A} → flow ≡ C.Break a → says a ≡ shown_in R s
        walk-decided d = sym (walk-down ∙ (rw d at h) _)

        -- or leaves the matter to what is below it
        pub walk-on : {u : Unit {0}} → flow ≡ C.Continue u → Walked R s (left - 1)
        walk-on d = record { low = omega (arith, w.low); same = walk-down ∙ (rw d at h) _ }

    -- below them all there is the base
    pub walk_end : left ≤ 0 → (o : Option Node) → BaseIn s o → {x : X} → x ≡ R.base (node_meant_if s.img.now o) → x ≡ shown_in R s
    walk_end l o b e =
        let z : left ≡ 0 = omega arith in
        e ∙ sym (w.same ∙ ap (λ (n : ℕ). shown_lowest R s n) z ∙ shown-base R s.img.now s.places o b)
