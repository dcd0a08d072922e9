-- The bytes read so far stand at the buffer's start, which keeps its length; where a read gave none, the input is at its end.
use Rattle.std.proofs.Common.{length, ◌-◌, ◌≤◌, take, ◌≡◌}
use Rattle.std.specs.Io.KnownBytes.{Consumes}
use Rattle.input.proofs.fill.Given as goal

abbrev pub invariant-loop-done : goal.invariant-loop-done
invariant-loop-done g l =
    (l.done ≤ length l.buf) × (length l.buf ≡ length l.initial.buf) × Consumes (g.R.Read.remaining l.initial.reader) (g.R.Read.remaining l.reader)
    (take l.done l.buf)

abbrev pub decreases-loop-done : goal.decreases-loop-done
decreases-loop-done g l = length l.initial.buf - l.done
