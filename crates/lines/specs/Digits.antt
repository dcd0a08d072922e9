-- Document 01: "decimal inode", "permission in octal with at least four digits".
use Rattle.std.specs.Prelude.{ℕ, zero, suc, ◌+◌, ◌-◌, ◌/◌, ◌%◌, ◌&&◌, cond, List, [], ◌∷◌, ◌++◌, eqb}

-- a digit in ASCII
abbrev pub glyph : ℕ → ℕ
glyph d = d + 0x30

-- The digits of n in a base, at least `least` of them and at most `most`: those of n / base, then that of n % base; none of 0, where there
-- are enough.
unfoldable pub digits : ℕ → ℕ → ℕ → ℕ → List ℕ
digits base zero least n = []
digits base (suc most) least n =
    let before = digits base most (least - 1) (n / base) in
    cond (eqb n 0 && eqb least 0) [] (before ++ (glyph (n % base) ∷ []))

-- "decimal"; 64 bits take at most 20 digits
abbrev pub decimal : ℕ → List ℕ
decimal n = digits 10 22 1 n

-- "in octal with at least four digits"; 64 bits take at most 22
abbrev pub octal : ℕ → List ℕ
octal n = digits 8 22 4 n
