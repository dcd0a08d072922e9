-- Document 01: "The listing program reads an image from standard input and writes the line `INODE T MODE LINKS SIZE`, then the attributes of
-- each snapshot inode, rising: decimal inode, letter (d - l p c b s by kind), permission in octal with at least four digits, decimal links,
-- decimal size; or only `refused N`."
use Rattle.std.specs.Prelude.{List, [], ◌∷◌, ◌++◌, ℕ, None, Option, Some}
use Rattle.image.specs.Meaning.{Node, Store}
use Rattle.image.specs.Letters.{letter}
use Rattle.rules.specs.Initial.{usual}
use Rattle.rules.specs.Answers.{Answer, refused, answer}
use Rattle.rules.specs.FileAttrs.{FileAttr, base_attr}
use Rattle.rules.specs.Queue.{snapshot}
use Rattle.rules.specs.Outcomes.{if_room}
use Rattle.rules.specs.Room.{has_room}
use Rattle.rules.specs.ReadCalls.{over_image}
use Rattle.lines.specs.Digits.{decimal, octal}

-- between two fields, and at the end of a line, as in document 01's example (ASCII)
abbrev pub space : List ℕ
space = 0x20 ∷ []

abbrev pub newline : List ℕ
newline = 0x0A ∷ []

-- "the line `INODE T MODE LINKS SIZE`"
abbrev pub heading : List ℕ
heading =
    0x49 ∷ 0x4E ∷ 0x4F ∷ 0x44 ∷ 0x45 ∷ 0x20 ∷ 0x54 ∷ 0x20 ∷ 0x4D ∷ 0x4F ∷ 0x44 ∷ 0x45 ∷ 0x20
    ∷ 0x4C ∷ 0x49 ∷ 0x4E ∷ 0x4B ∷ 0x53 ∷ 0x20 ∷ 0x53 ∷ 0x49 ∷ 0x5A ∷ 0x45 ∷ newline

-- "decimal inode, letter, permission in octal with at least four digits, decimal links, decimal size"
abbrev pub line : FileAttr → List ℕ
line a =
    (decimal a.inode ++ space)
    ++ (((letter a.type ∷ []) ++ (space ++ (octal a.perm ++ space)))
    ++ ((decimal a.links ++ space)
    ++ (decimal a.size ++ newline)))

-- "or only `refused N`"
abbrev pub refusal : ℕ → List ℕ
refusal n = (0x72 ∷ 0x65 ∷ 0x66 ∷ 0x75 ∷ 0x73 ∷ 0x65 ∷ 0x64 ∷ space) ++ (decimal n ++ newline)

-- "the attributes of each snapshot inode": a snapshot is a base alone, so they are those of its node
abbrev pub line_if : Option FileAttr → List ℕ
line_if None = []
line_if (Some a) = line a

abbrev pub line_of : ℕ × Node → List ℕ
line_of e = line_if (base_attr e.0 (Some e.1))

-- "rising": the rows of a base rise by inode
unfoldable pub lines_of : List (ℕ × Node) → List ℕ
lines_of [] = []
lines_of (e ∷ l) = line_of e ++ lines_of l

-- the snapshot of an image's store, or its refusal ("snapshot: 1, 2, 5"), where its new image has so much room
abbrev pub snapshot_of : ℕ → List ℕ → Answer Store
snapshot_of room img = over_image (λ s. if_room (has_room room) (answer (snapshot usual s))) img

-- "writes the line `INODE T MODE LINKS SIZE`, then the attributes of each snapshot inode; or only `refused N`"
abbrev pub listing : Answer Store → List ℕ
listing (refused n) = refusal n
listing (answer s) = heading ++ lines_of s.base.rows

-- All that the program writes of an image. It lends the snapshot 65,536 bytes, as much as any image may have.
abbrev pub listing_bytes : List ℕ → List ℕ
listing_bytes img = listing (snapshot_of 65536 img)
