-- No list of a stack has more rows than a count can say.
-- Assumes nothing.
use Rattle.wire.specs.declared.part.Part.{Part}
use Rattle.std.specs.Prelude.{None, Option, Some}
use mathlib.Core.Path.{◌≡◌, refl}
use mathlib.Core.Bool.{Bool, true, false, cond}
use mathlib.Core.List.{List, [], ◌∷◌, ◌++◌}
use Prim.Native.Nat.{ℕ, ◌+◌, ◌≤◌}
use native.Mathlib.Omega.{arith}
use lib.ListN.{length, drop}
use Rattle.wire.specs.Parse.{Parsed, fault, got}
use Rattle.wire.specs.Number.{number_bytes, number_read}
use Rattle.wire.specs.Lists.{Every, last_count}
use Rattle.image.specs.declared.name.Under.{Under}
use Rattle.image.specs.declared.name.Under.TheVariants as U
use Rattle.image.specs.declared.kind.FileType.{FileType}
use Rattle.merge.specs.Merges.{lists_if}
use Rattle.deltas.specs.declared.delta.NodeDelta.{NodeDelta}
use Rattle.deltas.specs.declared.delta.NodeDelta.TheVariants as D
use Rattle.nodes.specs.declared.node.Node.{Node}
use Rattle.nodes.specs.declared.node.NodeKind.{NodeKind}
use Rattle.nodes.specs.declared.node.NodeKind.TheVariants as K
use Rattle.deltas.specs.Deltas.{attr_of, change_meant}
use Rattle.merge.specs.Sources.{rows_if, rows_from, list_rows}
use Rattle.gather.specs.Lists.{is_of, change_lists, delta_lists, entry_lists, node_lists, base_lists}
use Rattle.merge.specs.Sources.{Short}
use Rattle.merge.proofs.Few.{rows_few}
use Rattle.gather.specs.declared.gather.Listing.{Listing}
use Rattle.gather.specs.declared.gather.Listing.TheVariants as L
use Rattle.wire.proofs.NumberForms.{number-forth}

pub every_append : {A : Type 0} (P : A → Type 0) (xs ys : List A) → Every P xs → Every P ys → Every P (xs ++ ys)
every_append P [] ys h k = k
every_append P (x ∷ xs) ys h k = (h.0, every_append P xs ys h.1 k)

module _ (img : List ℕ) (u : Under) where
  list-few : (p : ℕ) → length (list_rows img u p) ≤ last_count
  list-few p = go (number_read last_count (drop p img)) refl
    where
      go : (o : Parsed ℕ) → number_read last_count (drop p img) ≡ o → length (rows_if o (λ n. rows_from img u n (p + length (number_bytes n)))) ≤ last_count
      go (fault f) e = omega arith
      go (got n r) e = omega (arith, rows_few img u n (p + length (number_bytes n)), (number-forth last_count (drop p img) n r e).1)

module _ (img : List ℕ) where
  change-short : (n : NodeDelta) → Every Short (change_lists img n)
  change-short (D.Directory d) = (list-few img U.Inode d.added.start, (list-few img U.Nothing d.removed.start, tt))
  change-short (D.File d) = tt
  change-short (D.Symlink d) = tt
  change-short (D.Fifo d) = tt
  change-short (D.CharDevice d) = tt
  change-short (D.BlockDevice d) = tt
  change-short (D.Socket d) = tt

  alter-short : (b : Bool) (o : Option Part) → Every Short (cond b (lists_if img U.Change o) [])
  alter-short true (Some p) = (list-few img U.Change p.start, tt)
  alter-short true None = tt
  alter-short false o = tt

  pub delta-short : (l : Listing) (of : Option FileType) (n : NodeDelta) → Every Short (delta_lists img l of n)
  delta-short L.Entries of n = change-short n
  delta-short L.Attributes of n = alter-short (is_of of (change_meant img n)) (attr_of n).xattrs

  entry-short : (k : NodeKind) → Every Short (entry_lists img k)
  entry-short (K.Directory parent es) = (list-few img U.Inode es.start, tt)
  entry-short (K.File size) = tt
  entry-short (K.Symlink t) = tt
  entry-short K.Fifo = tt
  entry-short (K.CharDevice rdev) = tt
  entry-short (K.BlockDevice rdev) = tt
  entry-short K.Socket = tt

  node-short : (l : Listing) (n : Node) → Every Short (node_lists img l n)
  node-short L.Entries n = entry-short n.kind
  node-short L.Attributes n = (list-few img U.Value n.meta.xattrs.start, tt)

  pub base_short : (l : Listing) (o : Option Node) → Every Short (base_lists img l o)
  base_short l (Some n) = node-short l n
  base_short l None = tt
