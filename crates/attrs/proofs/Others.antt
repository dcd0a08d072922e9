-- What the last arm of a match says, by field.
-- Assumes nothing.
use mathlib.Core.Path.{◌≡◌, refl}
use mathlib.Core.List.{List, [], ◌∷◌}
use Rattle.std.specs.Prelude.{None, Option, Some, unwrap_or}
use Prim.Native.Nat.{ℕ}
use denote.Enum.Declared.{tag_of}
use Rattle.rules.specs.Fold.{given}
use Rattle.rules.specs.FileAttrs.{base_device, base_perm, base_size, change_device, change_size}
use Rattle.deltas.specs.declared.delta.NodeDelta.{NodeDelta}
use Rattle.nodes.specs.declared.node.NodeKind.{NodeKind}
use Rattle.nodes.specs.Nodes.{body_meant}
use Rattle.deltas.specs.Deltas.{change_meant}
use Rattle.deltas.specs.contracts.delta.NodeDelta as delta
use Rattle.nodes.specs.contracts.node.NodeKind as kind
use types.Run.{OneOf}
use Rattle.deltas.proofs.Others.{one-delta, one-kind, not_symlink}

-- all but the two devices
abbrev not_device : List ℕ
not_device = 0 ∷ 1 ∷ 2 ∷ 3 ∷ 6 ∷ []

pub other-device : (img : List ℕ) (n : NodeDelta) → OneOf not_device (tag_of delta.the_type n) → 0 ≡ change_device (change_meant img n)
other-device img = one-delta not_device (λ n. 0 ≡ change_device (change_meant img n)) (λ d. refl) (λ d. refl) (λ d. refl) (λ d. refl) tt tt (λ d. refl)

pub other-base-device : (img : List ℕ) (k : NodeKind) → OneOf not_device (tag_of kind.the_type k) → 0 ≡ base_device (body_meant img k)
other-base-device img = one-kind not_device (λ k. 0 ≡ base_device (body_meant img k)) (λ parent es. refl) (λ size. refl) (λ target. refl) refl tt tt refl

-- all but a file and a symlink
abbrev not_sized : List ℕ
not_sized = 0 ∷ 3 ∷ 4 ∷ 5 ∷ 6 ∷ []

pub other-size : (img : List ℕ) (n : NodeDelta) (old : ℕ) → OneOf not_sized (tag_of delta.the_type n) → old ≡ given (change_size (change_meant img n)) old
other-size img n old =
    one-delta not_sized (λ n. old ≡ given (change_size (change_meant img n)) old) (λ d. refl) tt tt (λ d. refl) (λ d. refl) (λ d. refl) (λ d. refl) n

pub other-base-size : (img : List ℕ) (k : NodeKind) → OneOf not_sized (tag_of kind.the_type k) → 0 ≡ base_size (body_meant img k)
other-base-size img = one-kind not_sized (λ k. 0 ≡ base_size (body_meant img k)) (λ parent es. refl) tt tt refl (λ rdev. refl) (λ rdev. refl) refl

pub other-perm : (img : List ℕ) (k : NodeKind) (perm : ℕ) → OneOf not_symlink (tag_of kind.the_type k) → perm ≡ base_perm (body_meant img k) perm
other-perm img k perm =
    one-kind not_symlink (λ k. perm ≡ base_perm (body_meant img k) perm) (λ parent es. refl) (λ size. refl) tt refl (λ rdev. refl) (λ rdev. refl) refl k

-- ---- a field of a delta over the old one

pub over_old : {A : Type 0} (o : Option A) (a : A) → unwrap_or o a ≡ given o a
over_old (Some x) a = refl
over_old None a = refl
