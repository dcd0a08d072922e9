use native.Mathlib.Nat.{sub-add-eq, sub-zero}
use native.Mathlib.Omega.{arith}
use mathlib.Core.Bool.{false}
use mathlib.Core.Path.{◌≡◌, sym, ◌∙◌}
use Rattle.std.specs.Ordering.{is_gt}
use Rattle.change.proofs.Cutting.{cut-start, cut-unread, cut-over, cut-stopped, cut-found, cut_on, cut-end}
use Rattle.change.proofs.cut.cut_rows.Goals as goal

pub loop-init : goal.loop-init
loop-init g c = rw sub-zero (cut-start _ _ _)

pub returns-in_default : goal.returns-in_default
returns-in_default g c = cut-unread _ _ _ c.loop.invariant (omega arith) c.compare.ensures c.in_default.is

pub returns-then-is_gt : goal.returns-then-is_gt
returns-then-is_gt g c = cut-over _ _ _ c.loop.invariant (omega arith) c.compare.ensures c.in-Ok.is (sym c.is_gt.ensures ∙ c.if-is_gt.true)

pub returns-in_default-pass : goal.returns-in_default-pass
returns-in_default-pass g c = cut-stopped _ _ _ c.loop.invariant (omega arith) c.compare.ensures c.in-Ok.is c.pass.ensures c.in_default-pass.is

pub returns-then-is_eq : goal.returns-then-is_eq
returns-then-is_eq g c = cut-found _ _ _ c.loop.invariant (omega arith) c.compare.ensures c.in-Ok.is c.pass.ensures c.in-Ok-pass.is cc

pub loop-preserved : goal.loop-preserved
loop-preserved g c =
    let within : is_gt c.in-Ok.order ≡ false = sym c.is_gt.ensures ∙ c.if-is_gt.false in
    rw sub-add-eq (cut_on _ _ _ c.loop.invariant (omega arith) c.compare.ensures c.in-Ok.is c.pass.ensures c.in-Ok-pass.is
    within (sym c.is_eq.ensures ∙ c.if-is_eq.false))

pub returns-after-loop : goal.returns-after-loop
returns-after-loop g c = cut-end _ _ _ c.loop.invariant (omega arith)
