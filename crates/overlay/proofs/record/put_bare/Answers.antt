use native.Mathlib.Omega.{arith}
use borrow.Author.Tests.{ne_eqb}
use Rattle.wire.proofs.Puts.{put-append}
use Rattle.overlay.proofs.record.put_bare.Goals as goal

pub returns-in-1 : goal.returns-in-1
returns-in-1 c = rw c.in-1.is (put-append c.put_number-added.ensures (put-append c.put_number-removed.ensures c.put_number.ensures))

pub returns-in_default : goal.returns-in_default
returns-in_default c = rw (ne_eqb c.args.code 1 (λ e. omega (arith, e))) c.put_number-in_default.ensures
