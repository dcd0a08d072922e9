-- Document 01: "letter (d - l p c b s by kind)".
use Rattle.std.specs.Prelude.{ℕ, cond, leb, None, Option, Some}
use Rattle.image.specs.Meaning.{Kind, directory, file, symlink, special, pipe, character, block, socket}
use Rattle.image.specs.KindLayout.{kind_at}

-- the letters are ASCII
abbrev pub letter : Kind → ℕ
letter directory = 0x64
letter file = 0x2D
letter symlink = 0x6C
letter (special pipe) = 0x70
letter (special character) = 0x63
letter (special block) = 0x62
letter (special socket) = 0x73

-- of a number from 0 to 6; other numbers are no kind
abbrev pub letter_of : ℕ → Option ℕ
letter_of n = cond (leb n 6) (Some (letter (kind_at n))) None
