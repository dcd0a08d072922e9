-- Document 01, "A lookup from the top". A read of a stack is what it makes of the base, and what a record makes of what is below it.
use Rattle.std.specs.Prelude.{List, [], ◌∷◌, Bool, true, false, ℕ, None, Option, Some}
use Rattle.wire.specs.Orders.{by_bytes}
use Rattle.wire.specs.Maps.{meet, empty, get}
use Rattle.image.specs.Meaning.{Text, Kind, Entries, Attributes, Body, Node, Changes, Change, Record, directory, file, symlink, special, tombstone, delta, kind_of, changed_kind}
use Rattle.rules.specs.Fold.{given, add_all, remove_all, alter_all}

pub record Read (X : Type 0) : Type 0 where
  pub base : Option Node → X
  pub step : Record → X → X

unfoldable pub look : {X : Type 0} → Read X → List Record → Option Node → X
look R [] b = R.base b
look R (r ∷ rs) b = R.step r (look R rs b)

-- ---- "Exists, type: the topmost record decides; with none, the base."

abbrev pub base_type : Option Node → Option Kind
base_type None = None
base_type (Some n) = Some (kind_of n.body)

abbrev pub step_type : Record → Option Kind → Option Kind
step_type tombstone below = None
step_type (delta d) below = Some (changed_kind d.change)

abbrev pub type : Read (Option Kind)
type = record { base = base_type; step = step_type }

abbrev pub is_there : {A : Type 0} → Option A → Bool
is_there None = false
is_there (Some a) = true

-- ---- "Child: from the top. Tombstone: none. Directory delta: removed name, none; else added name, its inode; else go on below. Other kind:
-- none. Last, a base directory's entries."

abbrev pub body_child : Text → Body → Option ℕ
body_child name (directory p es) = get by_bytes name es
body_child name (file size) = None
body_child name (symlink target) = None
body_child name (special device) = None

abbrev pub change_child : Text → Change → Option ℕ → Option ℕ
change_child name (directory p added removed) below =
    meet (λ u x. None) (get by_bytes name removed) (meet (λ inode x. Some inode) (get by_bytes name added) below)
change_child name (file n) below = None
change_child name (symlink t) below = None
change_child name (special s device) below = None

abbrev pub base_child : Text → Option Node → Option ℕ
base_child name None = None
base_child name (Some n) = body_child name n.body

abbrev pub step_child : Text → Record → Option ℕ → Option ℕ
step_child name tombstone below = None
step_child name (delta d) below = change_child name d.change below

abbrev pub child : Text → Read (Option ℕ)
child name = record { base = base_child name; step = step_child name }

-- ---- The entries of a listing: "From the bottom: tombstone clears, a directory delta removes then adds, other kinds do nothing."

abbrev pub body_entries : Body → Entries
body_entries (directory p es) = es
body_entries (file size) = empty by_bytes
body_entries (symlink target) = empty by_bytes
body_entries (special device) = empty by_bytes

abbrev pub change_entries : Change → Entries → Entries
change_entries (directory p added removed) es = add_all added (remove_all removed es)
change_entries (file n) es = es
change_entries (symlink t) es = es
change_entries (special s device) es = es

abbrev pub base_entries : Option Node → Entries
base_entries None = empty by_bytes
base_entries (Some n) = body_entries n.body

abbrev pub step_entries : Record → Entries → Entries
step_entries tombstone es = empty by_bytes
step_entries (delta d) es = change_entries d.change es

abbrev pub entries : Read Entries
entries = record { base = base_entries; step = step_entries }

-- ---- "Link text: from the top, first symlink delta with a target; tombstone or other kind, none; then a base symlink's."

abbrev pub or_else : {A : Type 0} → Option A → Option A → Option A
or_else None below = below
or_else (Some a) below = Some a

abbrev pub body_text : Body → Option Text
body_text (directory p es) = None
body_text (file size) = None
body_text (symlink target) = Some target
body_text (special device) = None

abbrev pub change_text : Change → Option Text → Option Text
change_text (directory p added removed) below = None
change_text (file n) below = None
change_text (symlink t) below = or_else t below
change_text (special s device) below = None

abbrev pub base_text : Option Node → Option Text
base_text None = None
base_text (Some n) = body_text n.body

abbrev pub step_text : Record → Option Text → Option Text
step_text tombstone below = None
step_text (delta d) below = change_text d.change below

abbrev pub link_text : Read (Option Text)
link_text = record { base = base_text; step = step_text }

-- ---- "Parent: inode 1 always has parent 1. Else like link text, over directory deltas with a parent."

abbrev pub body_parent : Body → Option ℕ
body_parent (directory p es) = Some p
body_parent (file size) = None
body_parent (symlink target) = None
body_parent (special device) = None

abbrev pub change_parent : Change → Option ℕ → Option ℕ
change_parent (directory p added removed) below = or_else p below
change_parent (file n) below = None
change_parent (symlink t) below = None
change_parent (special s device) below = None

abbrev pub base_parent : Option Node → Option ℕ
base_parent None = None
base_parent (Some n) = body_parent n.body

abbrev pub step_parent : Record → Option ℕ → Option ℕ
step_parent tombstone below = None
step_parent (delta d) below = change_parent d.change below

abbrev pub parent : Read (Option ℕ)
parent = record { base = base_parent; step = step_parent }

-- ---- "Extended attribute: from the top, tombstone none, the first delta naming it decides (set or removed), then the base."

abbrev pub change_of : Text → Option Changes → Option (Option Text)
change_of name None = None
change_of name (Some changes) = get by_bytes name changes

abbrev pub base_attribute : Text → Option Node → Option Text
base_attribute name None = None
base_attribute name (Some n) = get by_bytes name n.meta.attributes

abbrev pub step_attribute : Text → Record → Option Text → Option Text
step_attribute name tombstone below = None
step_attribute name (delta d) below = given (change_of name d.fields.attributes) below

abbrev pub attribute : Text → Read (Option Text)
attribute name = record { base = base_attribute name; step = step_attribute name }

-- ---- the attributes behind their names, from the bottom

abbrev pub base_values : Option Node → Attributes
base_values None = empty by_bytes
base_values (Some n) = n.meta.attributes

abbrev pub step_values : Record → Attributes → Attributes
step_values tombstone vs = empty by_bytes
step_values (delta d) vs = meet alter_all d.fields.attributes vs

abbrev pub values : Read Attributes
values = record { base = base_values; step = step_values }
