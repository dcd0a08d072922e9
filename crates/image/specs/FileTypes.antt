-- What a type of the code means.
use Rattle.std.specs.Prelude.{◌≡◌, ℕ, ◌<◌, ◌≤◌, Option, Result, Ok, Err, List, codes}
use Rattle.std.specs.Option.{option_map}
use Rattle.wire.specs.declared.fault.Fault.{Fault}
use Rattle.wire.specs.declared.fault.Fault.TheVariants.{Malformed}
use Rattle.image.specs.Meaning.{Kind, directory, file, symlink, special, pipe, character, block, socket}
use Rattle.image.specs.KindLayout.{kind_at}
use Rattle.image.specs.declared.kind.FileType.{FileType}
use Rattle.image.specs.declared.kind.FileType.TheVariants as K

-- "kind 0 to 6 in the order above": directory, file, symlink, pipe, character, block, socket
abbrev pub kind_meant : FileType → Kind
kind_meant K.Directory = directory
kind_meant K.RegularFile = file
kind_meant K.Symlink = symlink
kind_meant K.NamedPipe = special pipe
kind_meant K.CharDevice = special character
kind_meant K.BlockDevice = special block
kind_meant K.Socket = special socket

-- "code 0 tombstone or kind + 1": the kind, or none for a tombstone
abbrev pub code_meant : Option FileType → Option Kind
code_meant = option_map kind_meant

-- the type of a number, which is badly formed if it is above 6
abbrev pub KindOf : ℕ → Result FileType Fault → Type 0
KindOf n (Ok t) = (n ≤ 6) × (kind_meant t ≡ kind_at n)
KindOf n (Err f) = (6 < n) × (f ≡ Malformed)

-- what the programs print of a type
abbrev pub type_text : FileType → List ℕ
type_text K.Directory = codes "directory"
type_text K.RegularFile = codes "file"
type_text K.Symlink = codes "symlink"
type_text K.NamedPipe = codes "pipe"
type_text K.CharDevice = codes "character device"
type_text K.BlockDevice = codes "block device"
type_text K.Socket = codes "socket"
