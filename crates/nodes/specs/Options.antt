-- What a value that is there, or not, means. Document 01: "`Option` becomes an enum", "texts as places beside it".
use Rattle.std.specs.Prelude.{List, ℕ, ◌+◌, ◌≤◌, length, Option}
use Rattle.std.specs.Option.{option_map}
use Rattle.wire.specs.Reading.{part}
use Rattle.image.specs.Meaning.{Text}
use Rattle.nodes.specs.Fields.{holds_if}
use Rattle.wire.specs.declared.part.Part.{Part}

abbrev pub text_at : List ℕ → Part → Text
text_at img p = part img p.start p.length

-- a part that is inside the image has its whole length
abbrev pub Inside : List ℕ → Part → Type 0
Inside img p = p.start + p.length ≤ length img

abbrev pub InsideIf : List ℕ → Option Part → Type 0
InsideIf img o = holds_if (λ p end. Inside img p) o 0

abbrev pub text_of : List ℕ → Option Part → Option Text
text_of img = option_map (text_at img)
