-- The sources of a placed stack, the topmost first. Document 01, listing: "From the bottom: tombstone clears, a directory delta removes then
-- adds, other kinds do nothing"; extended attributes: "the first delta naming it decides (set or removed), then the base".
use Rattle.std.specs.Prelude.{◌≡◌, cond, List, [], ◌∷◌, ◌++◌, ℕ, ◌+◌, length, None, Option, Some}
use Rattle.image.specs.Meaning.{Entries, Body, Meta, Node, Changes, Fields, Change, Delta, Record, directory, file, symlink, special, tombstone, delta}
use Rattle.image.specs.FieldLayout.{entries}
use Rattle.image.specs.declared.kind.FileType.{FileType}
use Rattle.image.specs.declared.name.Under.TheVariants as U
use Rattle.rules.specs.Starts.{Placed, attributes_at, entries_at, changes_at, added_at}
use Rattle.wire.specs.Lists.{Every}
use Rattle.merge.specs.Sources.{sources_of, Short}
use Rattle.merge.specs.Merges.{lists_in, listed}
use Rattle.merge.proofs.Lists.{Deciding, pile_rows, source_of}
use Rattle.merge.specs.declared.sources.Lists.{Lists}
use Rattle.merge.specs.declared.sources.Sources.{Sources}
use Rattle.stack.specs.Stacks.{records_in, node_in}
use Rattle.stack.specs.declared.stack.Stack.{Stack}
use Rattle.gather.specs.Lists.{is_of}
use Rattle.gather.specs.declared.gather.Listing.{Listing}
use Rattle.gather.specs.declared.gather.Listing.TheVariants as L

-- the removed names stand after the added entries
abbrev pub removed_at : ℕ → Fields → Option ℕ → Entries → ℕ
removed_at p f parent added = added_at p f parent + length (entries.write added)

abbrev pub body_pile : ℕ → Meta → Body → List Deciding
body_pile p m (directory parent es) = source_of U.Inode (entries_at p m parent) es ∷ []
body_pile p m (file size) = []
body_pile p m (symlink target) = []
body_pile p m (special device) = []

abbrev pub value_pile : ℕ → Meta → List Deciding
value_pile p m = source_of U.Value (attributes_at p m) m.attributes ∷ []

abbrev pub node_pile : Listing → Option (Placed Node) → List Deciding
node_pile l None = []
node_pile L.Entries (Some n) = body_pile n.place n.held.meta n.held.body
node_pile L.Attributes (Some n) = value_pile n.place n.held.meta

-- "a directory delta removes then adds, other kinds do nothing"
abbrev pub change_pile : ℕ → Fields → Change → List Deciding
change_pile p f (directory parent added removed) =
    source_of U.Inode (added_at p f parent) added ∷ (source_of U.Nothing (removed_at p f parent added) removed ∷ [])
change_pile p f (file n) = []
change_pile p f (symlink t) = []
change_pile p f (special s device) = []

abbrev pub alter_pile : ℕ → Fields → Option Changes → List Deciding
alter_pile p f None = []
alter_pile p f (Some cs) = source_of U.Change (changes_at p f cs) cs ∷ []

abbrev pub delta_pile : Listing → Option FileType → ℕ → Delta → List Deciding
delta_pile L.Entries of p d = change_pile p d.fields d.change
delta_pile L.Attributes of p d = cond (is_of of d.change) (alter_pile p d.fields d.fields.attributes) []

-- "tombstone clears"
abbrev pub record_pile : Listing → Option FileType → ℕ → Record → List Deciding → List Deciding
record_pile l of p tombstone below = []
record_pile l of p (delta d) below = delta_pile l of p d ++ below

abbrev pub pile_of : Listing → Option FileType → List (Placed Record) → Option (Placed Node) → List Deciding
pile_of l of [] b = node_pile l b
pile_of l of (r ∷ rs) b = record_pile l of r.place r.held (pile_of l of rs b)

-- those of a stack
abbrev pub pile_in : Listing → Option FileType → Stack → List Deciding
pile_in l of s = pile_of l of (records_in s.img.now s.places) (node_in s.img.now s.places)

-- the lists are those of the stack
pub record GathersLists (s : Stack) (l : Listing) (of : Option FileType) (r : Lists) : Type 0 where
  pub are : sources_of s.img.now (lists_in r) ≡ pile_rows (pile_in l of s)
  pub short : Every Short (sources_of s.img.now (lists_in r))

-- the sources are those of the stack, in its image
pub record Gathers (s : Stack) (l : Listing) (of : Option FileType) (r : Sources) : Type 0 where
  pub image : r.img.now ≡ s.img.now
  pub are : sources_of s.img.now (listed r) ≡ pile_rows (pile_in l of s)
  pub short : Every Short (sources_of s.img.now (listed r))
