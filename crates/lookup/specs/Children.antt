-- The layers of a stack as a child lookup meets them: the base is layer 0, and record i is layer i + 1.
use Rattle.std.specs.Prelude.{◌≡◌, ℕ, zero, suc, None, Option, Some}
use Rattle.wire.specs.Orders.{by_bytes}
use Rattle.wire.specs.Maps.{get, meet}
use Rattle.image.specs.declared.name.Under.TheVariants as U
use Rattle.image.specs.Meaning.{Text, Body, Node, Change, Record, directory, file, symlink, special, tombstone, delta}
use Rattle.rules.specs.Reads.{Read, child}
use Rattle.nodes.specs.Listed.{list_at, Listed}
use Rattle.stack.specs.InStack.{shown_lowest}
use Rattle.stack.specs.declared.stack.Stack.{Stack}
use Rattle.wire.specs.declared.part.Part.{Part}
use Rattle.lookup.specs.declared.list.NameList.{NameList}

-- ---- what a layer by itself has under a name; None, where it decides that there is no such child

-- "removed name, none; else added name, its inode", "Other kind: none."
abbrev pub change_has : Text → Change → Option (Option ℕ)
change_has name (directory p added removed) = meet (λ u x. None) (get by_bytes name removed) (Some (get by_bytes name added))
change_has name (file n) = None
change_has name (symlink t) = None
change_has name (special s device) = None

-- "Tombstone: none."
abbrev pub record_has : Text → Record → Option (Option ℕ)
record_has name tombstone = None
record_has name (delta d) = change_has name d.change

-- "Last, a base directory's entries."
abbrev pub body_has : Text → Body → Option (Option ℕ)
body_has name (directory p es) = Some (get by_bytes name es)
body_has name (file size) = None
body_has name (symlink target) = None
body_has name (special device) = None

abbrev pub base_has : Text → Option Node → Option (Option ℕ)
base_has name None = None
base_has name (Some n) = body_has name n.body

abbrev pub has : Text → Read (Option (Option ℕ))
has name = record { base = base_has name; step = λ r below. record_has name r }

-- ---- the layers

module _ (s : Stack) where
  -- the child that the lowest n layers show
  abbrev pub child_under : Text → ℕ → Option ℕ
  child_under name zero = None
  child_under name (suc n) = shown_lowest (child name) s n

  -- a list of entries in the stack's image, whole
  pub record Entries (l : NameList) : Type 0 where
    pub image : l.img.now ≡ s.img.now
    pub sort : l.what ≡ U.Inode
    pub end : ℕ
    pub whole : Listed s.img.now U.Inode l.place end

  -- the lookup from a layer down: what the entries at a place have under the name, else what is below
  abbrev pub Shows : Text → ℕ → Part → Type 0
  Shows name layer p =
      shown_lowest (child name) s layer
      ≡ meet (λ inode x. Some inode) (get by_bytes name (list_at s.img.now U.Inode p)) (child_under name layer)

  -- "removed name, none; else added name, its inode; else go on below", "Last, a base directory's entries"
  abbrev pub EntriesAt : Text → ℕ → Option NameList → Type 0
  EntriesAt name layer None = (shown_lowest (child name) s layer ≡ None) × (shown_lowest (has name) s layer ≡ None)
  EntriesAt name layer (Some l) =
      Entries l × Shows name layer l.place × (shown_lowest (has name) s layer ≡ Some (get by_bytes name (list_at s.img.now U.Inode l.place)))

  -- the same of the base, whatever the name
  abbrev pub BaseEntries : Option NameList → Type 0
  BaseEntries r = (name : Text) → EntriesAt name 0 r
