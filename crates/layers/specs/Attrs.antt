-- Attributes that a stack shows, or none.
use Rattle.nodes.specs.declared.node.Node.{Node}
use Rattle.std.specs.Prelude.{List, ℕ, None, Option, Some}
use Rattle.rules.specs.FileAttrs as R
use Rattle.attrs.specs.declared.node.FileAttr.{FileAttr}
use Rattle.deltas.specs.declared.delta.EntryDelta.{EntryDelta}
use Rattle.deltas.specs.declared.delta.EntryDelta.TheVariants as E
use Rattle.attrs.specs.Meant.{attr_meant}
use Rattle.attrs.specs.Attrs.{TargetIn, LinkIn}

-- a link's target is inside the image
abbrev pub EntryTargetIn : List ℕ → EntryDelta → Type 0
EntryTargetIn img (E.Node d) = TargetIn img d
EntryTargetIn img E.Tombstone = Unit {0}

abbrev pub BaseLinkIn : List ℕ → Option Node → Type 0
BaseLinkIn img (Some n) = LinkIn img n.kind
BaseLinkIn img None = Unit {0}

-- no attributes, or these
abbrev pub attr_if : Option FileAttr → Option R.FileAttr
attr_if (Some a) = Some (attr_meant a)
attr_if None = None
