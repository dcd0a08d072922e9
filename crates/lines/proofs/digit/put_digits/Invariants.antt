use mathlib.Core.Path.{◌≡◌}
use Rattle.lines.proofs.Spelling.{Spelled}
use Rattle.lines.proofs.digit.put_digits.Given as goal

abbrev pub invariant-loop-i : goal.invariant-loop-i
invariant-loop-i l = (l.buf ≡ l.initial.buf) × Spelled l.base l.number l.least l.text l.i l.rest l.left
