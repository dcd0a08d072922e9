use mathlib.Core.Path.{sym, ◌∙◌}
use Rattle.base.proofs.Sifting.{base-put}
use Rattle.base.proofs.node.put_base_node.Goals as goal

pub returns-then-stays_at : goal.returns-then-stays_at
returns-then-stays_at c =
    base-put c.args.step.now.stack.img.now _ _ c.requires.0 c.args.drops _ c.args.so_far (sym c.zip.ensures ∙ c.in-Some.is)
    c.stays_at.ensures c.if-stays_at.true c.put_number-first.ensures c.put_between-next.ensures c.more.ensures
