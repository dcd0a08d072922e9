-- What the last arm of a match is told: the kind is one of those that no arm before it names.
-- Assumes nothing.
use mathlib.Core.Path.{◌≡◌, refl}
use mathlib.Core.Bool.{Bool, true, false}
use mathlib.Core.List.{List, [], ◌∷◌}
use Prim.Native.Nat.{ℕ}
use denote.Enum.Declared.{tag_of}
use mir.Val.{has_key}
use types.Run.{OneOf, miss}
use Rattle.wire.specs.declared.part.Part.{Part}
use Rattle.deltas.specs.declared.delta.DirectoryDelta.{DirectoryDelta}
use Rattle.deltas.specs.declared.delta.FileDelta.{FileDelta}
use Rattle.deltas.specs.declared.delta.SymlinkDelta.{SymlinkDelta}
use Rattle.deltas.specs.declared.delta.SpecialDelta.{SpecialDelta}
use Rattle.deltas.specs.declared.delta.NodeDelta.{NodeDelta}
use Rattle.deltas.specs.declared.delta.NodeDelta.TheVariants as D
use Rattle.nodes.specs.declared.node.NodeKind.{NodeKind}
use Rattle.nodes.specs.declared.node.NodeKind.TheVariants as K
use Rattle.deltas.specs.contracts.delta.NodeDelta as delta
use Rattle.nodes.specs.contracts.node.NodeKind as kind

-- what is asked of a kind that is one of them; nothing of another
abbrev pub Asked : Bool → Type 0 → Type 0
Asked true A = A
Asked false A = Unit {0}

asked : (keys : List ℕ) (k : ℕ) {A : Type 0} → Asked (has_key keys k) A → OneOf keys k → A
asked keys k {A} a h = go (has_key keys k) refl a
  where
    go : (b : Bool) → has_key keys k ≡ b → Asked b A → A
    go true e a = a
    go false e a = absurd (miss keys k (rw e tt) h)

module _ (keys : List ℕ) (P : NodeDelta → Type 0) where
  pub one-delta : Asked (has_key keys 0) ((d : DirectoryDelta) → P (D.Directory d)) → Asked (has_key keys 1) ((d : FileDelta) → P (D.File d))
      → Asked (has_key keys 2) ((d : SymlinkDelta) → P (D.Symlink d)) → Asked (has_key keys 3) ((d : SpecialDelta) → P (D.Fifo d))
      → Asked (has_key keys 4) ((d : SpecialDelta) → P (D.CharDevice d)) → Asked (has_key keys 5) ((d : SpecialDelta) → P (D.BlockDevice d))
      → Asked (has_key keys 6) ((d : SpecialDelta) → P (D.Socket d)) → (n : NodeDelta) → OneOf keys (tag_of delta.the_type n) → P n
  one-delta dir file link fifo char block sock (D.Directory d) h = asked keys 0 dir h d
  one-delta dir file link fifo char block sock (D.File d) h = asked keys 1 file h d
  one-delta dir file link fifo char block sock (D.Symlink d) h = asked keys 2 link h d
  one-delta dir file link fifo char block sock (D.Fifo d) h = asked keys 3 fifo h d
  one-delta dir file link fifo char block sock (D.CharDevice d) h = asked keys 4 char h d
  one-delta dir file link fifo char block sock (D.BlockDevice d) h = asked keys 5 block h d
  one-delta dir file link fifo char block sock (D.Socket d) h = asked keys 6 sock h d

module _ (keys : List ℕ) (P : NodeKind → Type 0) where
  pub one-kind : Asked (has_key keys 0) ((parent : ℕ) (es : Part) → P (K.Directory parent es)) → Asked (has_key keys 1) ((size : ℕ) → P (K.File size))
      → Asked (has_key keys 2) ((target : Part) → P (K.Symlink target)) → Asked (has_key keys 3) (P K.Fifo) → Asked (has_key keys 4)
      ((rdev : ℕ) → P (K.CharDevice rdev))
      → Asked (has_key keys 5) ((rdev : ℕ) → P (K.BlockDevice rdev)) → Asked (has_key keys 6) (P K.Socket) → (k : NodeKind) → OneOf keys
      (tag_of kind.the_type k) → P k
  one-kind dir file link fifo char block sock (K.Directory parent es) h = asked keys 0 dir h parent es
  one-kind dir file link fifo char block sock (K.File size) h = asked keys 1 file h size
  one-kind dir file link fifo char block sock (K.Symlink target) h = asked keys 2 link h target
  one-kind dir file link fifo char block sock K.Fifo h = asked keys 3 fifo h
  one-kind dir file link fifo char block sock (K.CharDevice rdev) h = asked keys 4 char h rdev
  one-kind dir file link fifo char block sock (K.BlockDevice rdev) h = asked keys 5 block h rdev
  one-kind dir file link fifo char block sock K.Socket h = asked keys 6 sock h

abbrev pub not_symlink : List ℕ
not_symlink = 0 ∷ 1 ∷ 3 ∷ 4 ∷ 5 ∷ 6 ∷ []
