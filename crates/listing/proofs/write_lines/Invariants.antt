use Rattle.std.proofs.Common.{◌≡◌, length}
use Rattle.lines.specs.Rows.{HasRows}
use Rattle.listing.proofs.write_lines.Given as goal

abbrev pub invariant-loop-attr : goal.invariant-loop-attr
invariant-loop-attr g l = (length l.line ≡ 128) × HasRows l.attr-iterator.img.now l.attr-iterator.rows
