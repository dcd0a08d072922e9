use mathlib.Core.List.{◌∷◌}
use Rattle.overlay.proofs.Editing.{Putting}
use Rattle.overlay.proofs.write.put_image.Given as goal

abbrev pub invariant-loop-other : goal.invariant-loop-other
invariant-loop-other l = Putting l.copied l.fn.buf 0 l.fn.lead (l.fn.one ∷ l.others) l.buf l.next l.after l.others l.other-index
