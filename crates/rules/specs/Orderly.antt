-- The stores that demand 3 speaks of, and the condition in brackets of each call.
use Rattle.std.specs.Prelude.{◌≡◌, List, [], ◌∷◌, ℕ, IsSome, None, Option, Some}
use Rattle.wire.specs.Orders.{by_number, by_bytes}
use Rattle.wire.specs.Maps.{get}
use Rattle.image.specs.Meaning.{Text, Kind, Entries, Names, Node, Base, Fields, Change, Record, Layer, Store, directory, file, symlink, special, tombstone, delta, changed_kind}
use Rattle.rules.specs.Initial.{Initial}
use Rattle.rules.specs.Stacks.{stack, layers}
use Rattle.rules.specs.Reads.{look, type}
use Rattle.rules.specs.Calls.{Call}
use Rattle.rules.specs.Queue.{fold_front}

-- "Beneath a delta is what the layers under it show of its inode: its type, or nothing if it doesn't exist."

-- On nothing, a directory's delta names its parent and a symlink's its target: fold would make parent 1 and an empty target, where the
-- reads show none (P5).
abbrev pub Complete : Change → Type 0
Complete (directory p added removed) = IsSome p
Complete (file n) = Unit {0}
Complete (symlink t) = IsSome t
Complete (special s device) = Unit {0}

-- On something, a delta is of its kind: fold does nothing with a delta of another kind, where the reads show it ("Other kind: nothing").
abbrev pub Suits : Change → Option Kind → Type 0
Suits c None = Complete c
Suits c (Some k) = changed_kind c ≡ k

-- A name isn't both added and removed: the child lookup asks removed first, a listing and fold let added win (P6).
abbrev pub Disjoint : Entries → Names → Type 0
Disjoint added removed = (name : Text) → IsSome (get by_bytes name added) → IsSome (get by_bytes name removed) → ⊥

-- A symlink's delta sets no mode: it would be shown, and 777 after a fold (P7). "[no mode on a symlink]"; document 02, T-08, widens this.
abbrev pub LinkMode : Option ℕ → Type 0
LinkMode mode = mode ≡ None

abbrev pub Tidy : Change → Fields → Type 0
Tidy (directory p added removed) f = Disjoint added removed
Tidy (file n) f = Unit {0}
Tidy (symlink t) f = LinkMode f.mode
Tidy (special s device) f = Unit {0}

-- the orderly rules for a record, over what is beneath it
abbrev pub Right : Record → Option Kind → Type 0
Right tombstone beneath = Unit {0}
Right (delta d) beneath = Suits d.change beneath × Tidy d.change d.fields

abbrev pub OrderlyStack : List Record → Option Node → Type 0
OrderlyStack [] b = Unit {0}
OrderlyStack (r ∷ rs) b = Right r (look type rs b) × OrderlyStack rs b

abbrev pub OrderlyLayers : List Layer → Base → Type 0
OrderlyLayers ls base = (i : ℕ) → OrderlyStack (stack i ls) (get by_number i base)

abbrev pub Orderly : Store → Type 0
Orderly s = OrderlyLayers (layers s) s.base

-- ---- "condition in demand 3 in brackets"

-- the type that a store shows
abbrev pub type_at : Store → ℕ → Option Kind
type_at s i = look type (stack i (layers s)) (get by_number i s.base)

-- "[no mode on a symlink]"
abbrev pub ModeFor : Fields → Option Kind → Type 0
ModeFor new None = Unit {0}
ModeFor new (Some directory) = Unit {0}
ModeFor new (Some file) = Unit {0}
ModeFor new (Some symlink) = LinkMode new.mode
ModeFor new (Some (special s)) = Unit {0}

-- "[inode doesn't exist, has no live record; the orderly rules hold for it]", with nothing beneath
pub record Insertable (i : ℕ) (r : Record) (s : Store) : Type 0 where
  pub missing : type_at s i ≡ None
  pub not_live : get by_number i s.live ≡ None
  pub orderly : Right r None

abbrev pub Condition : Initial → Call → Store → Type 0
Condition initial (Call.insert i None) s = Unit {0}
Condition initial (Call.insert i (Some r)) s = Insertable i r s
Condition initial (Call.tombstone i) s = Unit {0}
-- "[inode is a directory]"
Condition initial (Call.add i name inode t) s = type_at s i ≡ Some directory
Condition initial (Call.remove i name t) s = type_at s i ≡ Some directory
Condition initial (Call.set_parent i p) s = type_at s i ≡ Some directory
Condition initial (Call.update i None) s = Unit {0}
Condition initial (Call.update i (Some new)) s = ModeFor new (type_at s i)
Condition initial (Call.normalise p) s = Unit {0}
Condition initial (Call.freeze limits t) s = Unit {0}
Condition initial Call.fold s = Unit {0}
-- "[folding again would alter no byte of the base]"
Condition initial (Call.pop id) s = fold_front initial s.batches s.base ≡ s.base
Condition initial (Call.note n) s = Unit {0}
Condition initial (Call.request r) s = Unit {0}
