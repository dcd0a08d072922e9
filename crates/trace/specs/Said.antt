-- Document 01: "Child: from the top. Tombstone: none. Directory delta: removed name, none; else added name, its inode; else go on below. Other
-- kind: none. Last, a base directory's entries." Here each layer by itself.
use Rattle.std.specs.Prelude.{◌≡◌, List, ℕ, zero, suc, ◌+◌, ◌≤◌, ◌<◌, None, Option, Some}
use Rattle.wire.specs.Orders.{by_bytes}
use Rattle.wire.specs.Maps.{get}
use Rattle.image.specs.Meaning.{Text}
use Rattle.image.specs.declared.name.Under.TheVariants as U
use Rattle.rules.specs.Reads.{child}
use Rattle.nodes.specs.Listed.{list_at}
use Rattle.lookup.specs.Children.{has}
use Rattle.lookup.specs.declared.list.NameList.{NameList}
use Rattle.stack.specs.Stacks.{shown_under, shown}
use Rattle.survey.specs.declared.batch.InodeLayerStack.{InodeLayerStack}
use Rattle.trace.specs.declared.said.Said.{Said}
use Rattle.trace.specs.declared.said.Said.TheVariants.{Nothing, NoChild, Child}

-- ---- what one layer says

-- "added name, its inode; else go on below"
abbrev pub entry_says : Option ℕ → Said
entry_says None = Nothing
entry_says (Some inode) = Child inode

-- what a layer by itself has under the name (crate `lookup`), said
abbrev pub said_of : Option (Option ℕ) → Said
said_of None = NoChild
said_of (Some o) = entry_says o

-- what a lookup answers after a layer spoke, by the answer of the layers below
abbrev pub over : Said → Option ℕ → Option ℕ
over Nothing below = below
over NoChild below = None
over (Child i) below = Some i

-- a layer that says something
abbrev pub Speaks : Said → Type 0
Speaks Nothing = ⊥
Speaks NoChild = Unit {0}
Speaks (Child i) = Unit {0}

-- ---- the layers of a stack: the base is layer 0, and record i is layer i + 1

-- the entries of a layer; without any it decides that there is no such child
abbrev pub SaysList : Option NameList → Text → Said → Type 0
SaysList None name r = r ≡ NoChild
SaysList (Some l) name r = r ≡ entry_says (get by_bytes name (list_at l.img.now U.Inode l.place))

module _ (img : List ℕ) (s : InodeLayerStack) (name : Text) where
  -- what layer n says
  abbrev pub says_at : ℕ → Said
  says_at n = said_of (shown_under (has name) img s n)

  -- the answer is what record i says; and so the lookup in it and what is below it
  pub record SaysRecord (i : ℕ) (r : Said) : Type 0 where
    pub itself : r ≡ says_at (i + 1)
    pub looked : shown_under (child name) img s (i + 1) ≡ over r (shown_under (child name) img s i)

  -- the same of the base, below which is nothing
  pub record SaysBase (r : Said) : Type 0 where
    pub itself : r ≡ says_at 0
    pub looked : shown_under (child name) img s 0 ≡ over r None

  -- below the base there is nothing to ask
  abbrev pub SpeaksAt : ℕ → Type 0
  SpeaksAt zero = Unit {0}
  SpeaksAt (suc n) = Speaks (says_at (suc n))

  -- the layers above say nothing, so that the lookup is that of the layer and what is below it; and the layer says something, or is the base
  pub record Decides (layer : ℕ) : Type 0 where
    pub low : layer ≤ s.count
    pub above : (n : ℕ) → layer < n → n ≤ s.count → says_at n ≡ Nothing
    pub speaks : SpeaksAt layer
    pub looked : shown (child name) img s ≡ shown_under (child name) img s layer
