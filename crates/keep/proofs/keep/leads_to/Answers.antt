use Rattle.keep.proofs.Keeping.{seeking-start, seeking-equal, seeking-greater, seeking-more, seeking-less, seeking-end}
use Rattle.keep.proofs.keep.leads_to.Goals as goal

pub loop-names-init : goal.loop-names-init
loop-names-init c = seeking-start c.requires

pub returns-in-Equal : goal.returns-in-Equal
returns-in-Equal c = seeking-equal c.loop-names.invariant _ c.in-Some.is c.compare_part.ensures c.in-Equal.is

pub returns-in-Greater : goal.returns-in-Greater
returns-in-Greater c = seeking-greater c.loop-names.invariant _ c.in-Some.is c.compare_part.ensures c.in-Greater.is

pub loop-names-smaller : goal.loop-names-smaller
loop-names-smaller c = seeking-less c.loop-names.invariant _ c.in-Some.is c.compare_part.ensures c.in-Less.is c.next-names.ensures.steps

pub loop-names-preserved : goal.loop-names-preserved
loop-names-preserved c = seeking-more c.loop-names.invariant _ c.in-Some.is c.compare_part.ensures c.in-Less.is c.next-names.ensures.steps

pub returns : goal.returns
returns c = seeking-end c.loop-names.invariant c.in_default.is
