use mathlib.Core.Path.{sym, ◌∙◌}
use Rattle.walk.proofs.Running.{read-plain, from-none, from-unread, from-stop, from_row}
use Rattle.walk.proofs.run.run_from.Goals as goal

pub returns-in_err-count : goal.returns-in_err-count
returns-in_err-count c = from-none _ c.in_err-count.ensures c.from_residual.ensures

pub returns-in_err-inode : goal.returns-in_err-inode
returns-in_err-inode c =
    from-unread _ _ c.in_ok-count.ensures (rw (read-plain c.read.result) at c.read.ensures.reads) (sym c.ok.ensures.value ∙ c.in_err-inode.was) c.from_residual-in_err-inode.ensures

pub returns-in_err-first : goal.returns-in_err-first
returns-in_err-first c =
    from-stop _ _ c.in_ok-count.ensures (rw (read-plain c.read.result) at c.read.ensures.reads) (sym c.ok.ensures.value ∙ c.in_ok-inode.was) c.pass_held.ensures
    (sym c.ok-2.ensures.value ∙ c.in_err-first.was) c.from_residual-in_err-first.ensures

pub returns : goal.returns
returns c =
    from_row _ _ c.in_ok-count.ensures (rw (read-plain c.read.result) at c.read.ensures.reads) (sym c.ok.ensures.value ∙ c.in_ok-inode.was) c.pass_held.ensures
    (sym c.ok-2.ensures.value ∙ c.in_ok-first.was)
