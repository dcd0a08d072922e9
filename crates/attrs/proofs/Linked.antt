-- A node that was read has its link's target in the image.
-- Assumes nothing.
use mathlib.Core.List.{List}
use Prim.Native.Nat.{ℕ}
use Rattle.nodes.specs.declared.node.NodeKind.{NodeKind}
use Rattle.nodes.specs.declared.node.NodeKind.TheVariants as K
use Rattle.nodes.specs.Nodes.{EntriesListed}
use Rattle.attrs.specs.Attrs.{LinkIn}

pub kind-in : (img : List ℕ) (k : NodeKind) (end : ℕ) → EntriesListed img k end → LinkIn img k
kind-in img (K.Directory p es) end h = tt
kind-in img (K.File n) end h = tt
kind-in img (K.Symlink t) end h = h
kind-in img K.Fifo end h = tt
kind-in img (K.CharDevice r) end h = tt
kind-in img (K.BlockDevice r) end h = tt
kind-in img K.Socket end h = tt
