-- The rows of the initial values, by type.
-- Assumes nothing.
use mathlib.Core.Path.{◌≡◌, refl}
use mathlib.Core.List.{List, [], ◌∷◌}
use Prim.Native.Nat.{ℕ}
use lib.ListN.{get_or}
use Rattle.image.specs.Meaning.{Kind, directory, file, symlink, special, pipe, character, block, socket, kind_number}
use Rattle.rules.specs.Initial.{usual}
use Rattle.image.specs.declared.kind.FileType.{FileType}
use Rattle.image.specs.declared.kind.FileType.TheVariants as K
use Rattle.image.specs.FileTypes.{kind_meant}

abbrev row : Kind → List ℕ
row k = (usual k).perm ∷ (usual k).links ∷ []

-- "directory, file, symlink, pipe, character, block, socket"
abbrev rows : List (List ℕ)
rows = row directory ∷ row file ∷ row symlink ∷ row (special pipe) ∷ row (special character) ∷ row (special block) ∷ row (special socket) ∷ []

pub row_at : (t : FileType) → get_or rows (kind_number (kind_meant t)) [] ≡ row (kind_meant t)
row_at K.Directory = refl
row_at K.RegularFile = refl
row_at K.Symlink = refl
row_at K.NamedPipe = refl
row_at K.CharDevice = refl
row_at K.BlockDevice = refl
row_at K.Socket = refl
