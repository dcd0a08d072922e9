use mathlib.Core.Path.{sym, ◌∙◌}
use Rattle.lookup.proofs.Searching.{sought-start, sought-on, step-read, sought-here, sought-past, sought-end}
use Rattle.lookup.proofs.list.NameList.find.Goals as goal

pub loop-row-init : goal.loop-row-init
loop-row-init c = rw c.into_iter-row-iterator.ensures.into_iter_gives (sought-start c.args.self c.args.name.now c.rows-row-items.ensures)

pub loop-row-preserved : goal.loop-row-preserved
loop-row-preserved c = sought-on c.loop-row.invariant c.in-Some.ensures.steps (sym c.compare_part.ensures ∙ c.in-Less.is)

pub returns-in-Equal : goal.returns-in-Equal
returns-in-Equal c =
    rw (sought-here c.loop-row.invariant c.in-Some.ensures.steps (sym c.compare_part.ensures ∙ c.in-Equal.is))
    (_, (step-read c.loop-row.invariant c.in-Some.ensures.steps).held)

pub returns-in-Greater : goal.returns-in-Greater
returns-in-Greater c = rw (sought-past c.loop-row.invariant c.in-Some.ensures.steps (sym c.compare_part.ensures ∙ c.in-Greater.is)) tt

pub returns : goal.returns
returns c = rw (sought-end c.loop-row.invariant c.in-None.ensures.steps) tt
