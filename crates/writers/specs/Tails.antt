-- What stands at the end of an image, by value.
use Rattle.std.specs.Prelude.{refl, Bool, ℕ}
use Rattle.wire.specs.Codec.{Codec}
use Rattle.wire.specs.Combinators.{◌then◌, only}
use Rattle.wire.specs.Number.{number_to}
use Rattle.image.specs.FieldLayout.{inode, word}
use Rattle.survey.specs.Reasons.{request_number}
use Rattle.writers.specs.declared.tail.Tail.{Tail}

abbrev pub TailParts : Type 0
TailParts = ℕ × (ℕ × (ℕ × ℕ))

-- "next id, staged bytes, staged operations, request (0 none; 1 to 5)"
abbrev pub tail : Codec TailParts
tail = inode then word then word then number_to 5 refl

abbrev pub tail_meant : Tail → TailParts
tail_meant t = (t.next_id, (t.bytes, (t.operations, request_number t.request)))

-- the same, where the next id passes a test: the store's ids are below it
abbrev pub tail_if : (ℕ → Bool) → Codec TailParts
tail_if test = only test inode then word then word then number_to 5 refl
