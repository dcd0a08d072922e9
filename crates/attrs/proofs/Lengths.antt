-- The size of a link is the length of its target.
-- Assumes nothing.
use mathlib.Core.Path.{◌≡◌, sym}
use mathlib.Core.List.{List}
use Prim.Native.Nat.{ℕ}
use native.Mathlib.Omega.{arith}
use lib.ListN.{length, drop, length-drop}
use lib.Seq.{length-take-le}
use Rattle.rules.specs.FileAttrs.{base_size}
use Rattle.wire.specs.declared.part.Part.{Part}
use Rattle.nodes.specs.declared.node.NodeKind.{NodeKind}
use Rattle.nodes.specs.declared.node.NodeKind.TheVariants as K
use Rattle.nodes.specs.Options.{Inside, text_at}
use Rattle.nodes.specs.Nodes.{body_meant}
use Rattle.attrs.specs.Attrs.{LinkIn}

text-length : (img : List ℕ) (p : Part) → Inside img p → p.length ≡ length (text_at img p)
text-length img p h = sym (length-take-le p.length (drop p.start img) (omega (arith, length-drop p.start img, h)))

pub base-link-size : (img : List ℕ) {k : NodeKind} {p : Part} → k ≡ K.Symlink p → LinkIn img k → p.length ≡ base_size (body_meant img k)
base-link-size img {p = p} e h = rw e (text-length img p (rw e at h))
