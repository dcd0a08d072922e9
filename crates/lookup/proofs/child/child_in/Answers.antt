use mathlib.Core.Path.{sym, ◌∙◌}
use native.Mathlib.Omega.{arith}
use Rattle.lookup.proofs.Children.{above-into, within_end, within_on, within-past, within-read, within-here, Passed, passed-on, passed-last}
use Rattle.lookup.proofs.child.child_in.Goals as goal
use Rattle.lookup.proofs.child.child_in.Goals.{Joined-next, in-None, in-Some-2+in-Greater}

-- a layer's rows end, or one is greater than the name
passed : (c : Joined-next) → Passed c.args.stack c.args.name.now c.loop-row.found-1 c.layers.layer
passed c =
    elim c.match-next.branch [
      | in-None w ↦ within_end c.loop-row.invariant w.in-None.ensures.steps
      | in-Some-2+in-Greater w ↦ within-past c.loop-row.invariant w.in-Some-2.ensures.steps (sym w.compare_part.ensures ∙ w.in-Greater.is)
    ]

pub loop-row-init : goal.loop-row-init
loop-row-init c =
    rw c.into_iter-row-iterator.ensures.into_iter_gives
    (above-into c.layers.invariant c.in-Some.list (rw c.in-Some.is at c.entries_at.ensures) c.rows-row-items.ensures)

pub loop-row-preserved : goal.loop-row-preserved
loop-row-preserved c = within_on c.loop-row.invariant c.in-Some-2.ensures.steps (sym c.compare_part.ensures ∙ c.in-Less.is)

pub unwrap-inode-requires : goal.unwrap-inode-requires
unwrap-inode-requires c = within-read c.loop-row.invariant c.in-Some-2.ensures.steps _ c.read.ensures.reads

pub returns-in-Equal : goal.returns-in-Equal
returns-in-Equal c =
    within-here c.loop-row.invariant c.in-Some-2.ensures.steps (sym c.compare_part.ensures ∙ c.in-Equal.is) c.read.ensures.reads c.unwrap-inode.ensures

pub layers-preserved : goal.layers-preserved
layers-preserved c = passed-on (passed (goal.at.layers-preserved c).Joined-next) (omega arith)

pub returns-after-next : goal.returns-after-next
returns-after-next c = passed-last (passed (goal.at.returns-after-next c).Joined-next) (omega arith)
