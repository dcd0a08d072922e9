-- Document 01: "Initial values, permission (octal) and links: directory 755, 2; file 644, 1; symlink 777, 1; pipe 644, 1; character 660, 1;
-- block 660, 1; socket 777, 1. These form one array of arrays."
use Rattle.std.specs.Prelude.{◌≡◌, ℕ}
use Rattle.image.specs.Meaning.{Kind, directory, file, symlink, special, pipe, character, block, socket}

-- one of the seven rows
pub record Start : Type 0 where
  pub perm : ℕ
  pub links : ℕ

abbrev pub start : ℕ → ℕ → Start
start perm links = record { perm = perm; links = links }

-- The table is a parameter of the rules (document 02, T-10).
abbrev pub Initial : Type 0
Initial = Kind → Start

-- document 01's table
abbrev pub usual : Initial
usual directory = start 0o755 2
usual file = start 0o644 1
usual symlink = start 0o777 1
usual (special pipe) = start 0o644 1
usual (special character) = start 0o660 1
usual (special block) = start 0o660 1
usual (special socket) = start 0o777 1

-- What demand 3 asks of a table, since "a base symlink starts at 777, whatever is stored".
abbrev pub Accepted : Initial → Type 0
Accepted initial = (initial symlink).perm ≡ 0o777
