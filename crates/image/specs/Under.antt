-- The four lists by name: what stands under each name.
use Rattle.std.specs.Prelude.{ℕ, Option}
use Rattle.wire.specs.Codec.{Codec}
use Rattle.wire.specs.Combinators.{nothing}
use Rattle.image.specs.Meaning.{Text}
use Rattle.image.specs.Masks.{maybe}
use Rattle.image.specs.FieldLayout.{inode, value}
use Rattle.image.specs.declared.name.Under.{Under}
use Rattle.image.specs.declared.name.Under.TheVariants as U

abbrev pub UnderName : Under → Type 0
UnderName U.Nothing = Unit {0}
UnderName U.Inode = ℕ
UnderName U.Value = Text
UnderName U.Change = Option Text

-- "removed" names; "entries (name, inode)"; "attributes (name, value)"; "attribute changes: name, then 0 removed or 1 and value"
abbrev pub under : (u : Under) → Codec (UnderName u)
under U.Nothing = nothing
under U.Inode = inode
under U.Value = value
under U.Change = maybe value
