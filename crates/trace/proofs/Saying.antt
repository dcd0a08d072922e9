-- What a layer says, by what stands in it.
-- Assumes nothing.
use Rattle.std.specs.Prelude.{IfSome, None, Option, Some}
use native.Mathlib.Numerals.{add-one}
use Rattle.lookup.specs.Children.{change_has, record_has, body_has, base_has, child_under, EntriesAt, BaseEntries}
use mathlib.Core.Path.{◌≡◌, refl, sym, ap, ◌∙◌, subst}
use mathlib.Core.List.{List}
use Prim.Native.Nat.{ℕ, zero, suc, ◌+◌, ◌-◌, ◌≤◌, ◌<◌}
use native.Mathlib.Omega.{arith}
use Rattle.wire.specs.Orders.{by_bytes}
use Rattle.wire.specs.Maps.{get, meet}
use Rattle.image.specs.Meaning.{Text, Body, Node, Change, Record, directory, file, symlink, special, tombstone, delta}
use Rattle.image.specs.declared.name.Under.{Under}
use Rattle.image.specs.declared.name.Under.TheVariants as U
use Rattle.image.specs.Under.{under}
use Rattle.image.specs.Places.{Holds}
use Rattle.nodes.specs.Listed.{list_at}
use Rattle.lookup.specs.Search.{Finds}
use Rattle.lookup.specs.declared.list.NameList.{NameList}
use Rattle.rules.specs.Reads.{child, change_child, step_child, body_child, base_child}
use Rattle.survey.specs.declared.batch.InodeLayerStack.{InodeLayerStack}
use Rattle.stack.specs.Stacks.{shown_under, shown}
use Rattle.stack.specs.InStack.{shown_lowest}
use Rattle.stack.specs.declared.stack.Stack.{Stack}
use Rattle.trace.specs.Said.{SaysList, entry_says, said_of, over, says_at, SaysRecord, SaysBase, Speaks, SpeaksAt, Decides}
use Rattle.trace.specs.declared.said.Said.{Said}
use Rattle.trace.specs.declared.said.Said.TheVariants.{Nothing, NoChild, Child}

-- ---- a list of entries

-- what is found under a name, where inodes stand under the names
pub entry_found : {o : Option NameList} {l : NameList} (name : Text) (place : Option ℕ) → IfSome o (λ l. l.what ≡ U.Inode) → o ≡ Some l → Finds l name place
    → Holds l.img.now (under U.Inode).read place (get by_bytes name (list_at l.img.now U.Inode l.place))
entry_found {l = l} name place e d f =
    subst (λ (u : Under). Holds l.img.now (under u).read place (get by_bytes name (list_at l.img.now u l.place))) (rw d at e) f

-- ---- the child lookup is what a layer says, over what is below it

entry-over : (o below : Option ℕ) → meet (λ inode x. Some inode) o below ≡ over (entry_says o) below
entry-over None below = refl
entry-over (Some i) below = refl

removed-over : {A : Type 0} (removed : Option A) (o below : Option ℕ)
    → meet (λ u x. None) removed (meet (λ inode x. Some inode) o below) ≡ over (said_of (meet (λ u x. None) removed (Some o))) below
removed-over None o below = entry-over o below
removed-over (Some u) o below = refl

change-over : (name : Text) (c : Change) (below : Option ℕ) → change_child name c below ≡ over (said_of (change_has name c)) below
change-over name (directory p added removed) below = removed-over (get by_bytes name removed) (get by_bytes name added) below
change-over name (file n) below = refl
change-over name (symlink t) below = refl
change-over name (special s device) below = refl

pub record-over : (name : Text) (r : Record) (below : Option ℕ) → step_child name r below ≡ over (said_of (record_has name r)) below
record-over name tombstone below = refl
record-over name (delta d) below = change-over name d.change below

entry-alone : (o : Option ℕ) → o ≡ over (entry_says o) None
entry-alone None = refl
entry-alone (Some i) = refl

body-over : (name : Text) (b : Body) → body_child name b ≡ over (said_of (body_has name b)) None
body-over name (directory p es) = entry-alone (get by_bytes name es)
body-over name (file size) = refl
body-over name (symlink target) = refl
body-over name (special device) = refl

pub base-over : (name : Text) (o : Option Node) → base_child name o ≡ over (said_of (base_has name o)) None
base-over name None = refl
base-over name (Some n) = body-over name n.body

-- ---- a layer's entries

module _ (s : Stack) (name : Text) (layer : ℕ) where
  layer-says : (o : Option NameList) {r : Said} → EntriesAt s name layer o → SaysList o name r
      → (r ≡ says_at s.img.now s.places name layer) × (shown_lowest (child name) s layer ≡ over r (child_under s name layer))
  layer-says None g e = (e ∙ sym (ap said_of g.1), g.0 ∙ ap (λ (x : Said). over x (child_under s name layer)) (sym e))
  layer-says (Some l) g e =
      let d = rw g.0.image at e in (
        d ∙ sym (ap said_of g.2),
        g.1 ∙ entry-over (get by_bytes name (list_at s.img.now U.Inode l.place)) _ ∙ ap (λ (x : Said). over x (child_under s name layer)) (sym d),
      )

  pub entries-inodes : (o : Option NameList) → EntriesAt s name layer o → IfSome o (λ l. l.what ≡ U.Inode)
  entries-inodes None g = tt
  entries-inodes (Some l) g = g.0.sort

pub record-says : (s : Stack) (name : Text) (i : ℕ) (o : Option NameList) {r : Said} → EntriesAt s name (i + 1) o → SaysList o name r
    → SaysRecord s.img.now s.places name i r
record-says s name i o {r} g e =
    let k = layer-says s name (i + 1) o g e in
    record { itself = k.0; looked = k.1 ∙ ap (λ (n : ℕ). over r (child_under s name n)) (add-one i) }

pub ruleset says = (record-says)

pub base-says : (s : Stack) (name : Text) (o : Option NameList) {r : Said} → BaseEntries s o → SaysList o name r → SaysBase s.img.now s.places name r
base-says s name o g e = let k = layer-says s name 0 o (g name) e in record { itself = k.0; looked = k.1 }

-- ---- the layer that decides

speaks : (r : Said) → (r ≡ Nothing → ⊥) → Speaks r
speaks Nothing h = h refl
speaks NoChild h = tt
speaks (Child i) h = tt

-- the layers above say nothing
pub record Silent (img : List ℕ) (s : InodeLayerStack) (name : Text) (layer : ℕ) : Type 0 where
  pub low : layer ≤ s.count
  pub above : (n : ℕ) → layer < n → n ≤ s.count → says_at img s name n ≡ Nothing
  pub looked : shown (child name) img s ≡ shown_under (child name) img s layer

module _ {img : List ℕ} {s : InodeLayerStack} {name : Text} {layer : ℕ} (w : Silent img s name layer) where
  module _ (l : 0 < layer) {r : Said} (k : SaysRecord img s name (layer - 1) r) where
    here : layer - 1 + 1 ≡ layer
    here = omega arith

    decides-here : Speaks r → Decides img s name layer
    decides-here t = record { low = w.low; above = w.above; speaks = go layer (rw here at k.itself); looked = w.looked }
      where
        go : (n : ℕ) → r ≡ says_at img s name n → SpeaksAt img s name n
        go zero e = tt
        go (suc n) e = subst Speaks e t

    pub decides-next : (r ≡ Nothing → ⊥) → Decides img s name (layer - 1 + 1)
    decides-next t = rw here (decides-here (speaks r t))

-- the lookup's answer is what the layer that decides says
pub decided : (img : List ℕ) (s : InodeLayerStack) (name : Text) (i : ℕ) (r : Said) → Decides img s name (i + 1) → SaysRecord img s name i r → Speaks r
    → shown (child name) img s ≡ over r None
decided img s name i r d k t = d.looked ∙ k.looked ∙ go r t
  where
    go : (r : Said) → Speaks r → over r (shown_under (child name) img s i) ≡ over r None
    go Nothing t = absurd t
    go NoChild t = refl
    go (Child j) t = refl

-- and what the base says, where no layer over it says anything
pub decided-base : (img : List ℕ) (s : InodeLayerStack) (name : Text) (r : Said) → Decides img s name 0 → SaysBase img s name r
    → shown (child name) img s ≡ over r None
decided-base img s name r d k = d.looked ∙ k.looked
