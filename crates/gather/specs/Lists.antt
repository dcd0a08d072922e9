-- The lists that a record and a node have by value, as sources.
use Rattle.std.specs.Prelude.{Bool, true, cond, List, [], ◌∷◌, ℕ, None, Option, Some}
use Rattle.image.specs.Meaning.{Change, changed_kind}
use Rattle.image.specs.declared.kind.FileType.{FileType}
use Rattle.image.specs.declared.name.Under.TheVariants as U
use Rattle.deltas.specs.declared.delta.NodeDelta.{NodeDelta}
use Rattle.deltas.specs.declared.delta.NodeDelta.TheVariants as D
use Rattle.nodes.specs.declared.node.Node.{Node}
use Rattle.nodes.specs.declared.node.NodeKind.{NodeKind}
use Rattle.nodes.specs.Nodes.{entries_in}
use Rattle.deltas.specs.Deltas.{attr_of, change_meant}
use Rattle.rules.specs.Fold.{same_kind}
use Rattle.image.specs.FileTypes.{kind_meant}
use Rattle.merge.specs.Sources.{Decided, list_rows}
use Rattle.merge.specs.Merges.{lists_if}
use Rattle.gather.specs.declared.gather.Listing.{Listing}
use Rattle.gather.specs.declared.gather.Listing.TheVariants as L

-- whether a change is of the type, if one is given: fold: "Other kind: nothing."
abbrev pub is_of : Option FileType → Change → Bool
is_of None c = true
is_of (Some t) c = same_kind (changed_kind c) (kind_meant t)

module _ (img : List ℕ) where
  -- "a directory delta removes then adds, other kinds do nothing"
  abbrev pub change_lists : NodeDelta → List (List Decided)
  change_lists (D.Directory d) = list_rows img U.Inode d.added.start ∷ (list_rows img U.Nothing d.removed.start ∷ [])
  change_lists (D.File d) = []
  change_lists (D.Symlink d) = []
  change_lists (D.Fifo d) = []
  change_lists (D.CharDevice d) = []
  change_lists (D.BlockDevice d) = []
  change_lists (D.Socket d) = []

  -- "the first delta naming it decides (set or removed)"
  abbrev pub alter_lists : Option FileType → NodeDelta → List (List Decided)
  alter_lists of n = cond (is_of of (change_meant img n)) (lists_if img U.Change (attr_of n).xattrs) []

  abbrev pub delta_lists : Listing → Option FileType → NodeDelta → List (List Decided)
  delta_lists L.Entries of n = change_lists n
  delta_lists L.Attributes of n = alter_lists of n

  -- "Last, a base directory's entries"
  abbrev pub entry_lists : NodeKind → List (List Decided)
  entry_lists k = lists_if img U.Inode (entries_in k)

  abbrev pub node_lists : Listing → Node → List (List Decided)
  node_lists L.Entries n = entry_lists n.kind
  node_lists L.Attributes n = list_rows img U.Value n.meta.xattrs.start ∷ []

  abbrev pub base_lists : Listing → Option Node → List (List Decided)
  base_lists l (Some n) = node_lists l n
  base_lists l None = []
