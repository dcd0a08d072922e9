-- Types told apart by their tags.
-- Assumes nothing.
use mathlib.Core.Path.{◌≡◌, refl}
use denote.Enum.Declared.{tag_of}
use denote.Enum.Bare.{sameb}
use Rattle.image.specs.Meaning.{Kind, kind_number}
use Rattle.image.specs.FileTypes.{kind_meant}
use Rattle.image.specs.declared.kind.FileType.{FileType}
use Rattle.image.specs.declared.kind.FileType.TheVariants as T
use Rattle.image.specs.contracts.kind.FileType as type
use Rattle.rules.specs.Fold.{same_kind}

kind-tag : (t : FileType) → tag_of type.the_type t ≡ kind_number (kind_meant t)
kind-tag T.Directory = refl
kind-tag T.RegularFile = refl
kind-tag T.Symlink = refl
kind-tag T.NamedPipe = refl
kind-tag T.CharDevice = refl
kind-tag T.BlockDevice = refl
kind-tag T.Socket = refl

pub same_types : (a b : FileType) {k : Kind} → kind_meant a ≡ k → sameb type.the_type a b ≡ same_kind k (kind_meant b)
unfolding same_kind
same_types a b e = rw (← e, kind-tag a, kind-tag b)
