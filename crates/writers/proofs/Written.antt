-- What the writers of a base node's meta write is what the layout writes.
-- Assumes nothing.
use Rattle.std.specs.Prelude.{◌≡◌, List, ◌++◌, ℕ}
use Rattle.std.proofs.Common.{append_assoc}
use Rattle.image.specs.declared.name.Under.TheVariants as U
use Rattle.image.specs.Meaning.{Attributes}
use Rattle.image.specs.FieldLayout.{attributes}
use Rattle.image.specs.NodeLayout.{meta}
use Rattle.nodes.specs.Listed.{list_at}
use Rattle.nodes.specs.Nodes.{meta_meant}
use Rattle.nodes.specs.declared.node.InodeMeta.{InodeMeta}
use Rattle.writers.specs.Writes.{meta_bytes, meta_with}

pub meta-with-bytes : (m : InodeMeta) (l : Attributes) → meta.write (meta_with m l) ≡ meta_bytes m ++ attributes.write l
unfolding meta
meta-with-bytes m l = simp append_assoc

pub meta-bytes : (img : List ℕ) (m : InodeMeta) → meta.write (meta_meant img m) ≡ meta_bytes m ++ attributes.write (list_at img U.Value m.xattrs)
meta-bytes img m = meta-with-bytes m (list_at img U.Value m.xattrs)
