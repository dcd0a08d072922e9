-- What a delta by value makes of attributes.
use Rattle.std.specs.Prelude.{◌≡◌, List, ℕ}
use Rattle.rules.specs.Fold.{given}
use Rattle.rules.specs.FileAttrs.{change_size, on_attr}
use Rattle.nodes.specs.Options.{Inside, InsideIf}
use Rattle.deltas.specs.Deltas.{change_meant, delta_meant}
use Rattle.deltas.specs.declared.delta.NodeDelta.{NodeDelta}
use Rattle.deltas.specs.declared.delta.NodeDelta.TheVariants.{Directory, File, Symlink, Fifo, CharDevice, BlockDevice, Socket}
use Rattle.nodes.specs.declared.node.NodeKind.{NodeKind}
use Rattle.nodes.specs.declared.node.NodeKind.TheVariants as K
use Rattle.attrs.specs.declared.node.FileAttr.{FileAttr}
use Rattle.attrs.specs.Meant.{attr_meant}

-- a link's target is inside the image, so that its length is its part's
abbrev pub TargetIn : List ℕ → NodeDelta → Type 0
TargetIn img (Directory d) = Unit {0}
TargetIn img (File d) = Unit {0}
TargetIn img (Symlink d) = InsideIf img d.target
TargetIn img (Fifo d) = Unit {0}
TargetIn img (CharDevice d) = Unit {0}
TargetIn img (BlockDevice d) = Unit {0}
TargetIn img (Socket d) = Unit {0}

-- "A file size or link target sets size."
abbrev pub Sized : NodeDelta → ℕ → ℕ → Type 0
Sized d old r = (img : List ℕ) → TargetIn img d → r ≡ given (change_size (change_meant img d)) old

-- "then it sets the fields it has, whatever its kind"
abbrev pub Applies : NodeDelta → FileAttr → FileAttr → Type 0
Applies d old new = (img : List ℕ) → TargetIn img d → attr_meant new ≡ on_attr (delta_meant img d) (attr_meant old)

-- a base link's target is inside the image
abbrev pub LinkIn : List ℕ → NodeKind → Type 0
LinkIn img (K.Directory parent es) = Unit {0}
LinkIn img (K.File size) = Unit {0}
LinkIn img (K.Symlink target) = Inside img target
LinkIn img K.Fifo = Unit {0}
LinkIn img (K.CharDevice rdev) = Unit {0}
LinkIn img (K.BlockDevice rdev) = Unit {0}
LinkIn img K.Socket = Unit {0}
