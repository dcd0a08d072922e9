use mathlib.Core.Path.{refl}
use native.Mathlib.Omega.{arith}
use Rattle.lookup.specs.Search.{ListRows}
use Rattle.keep.proofs.Keeping.{keeping-start, keeping-few, row-stays, row-drops, keeping_all}
use Rattle.keep.proofs.keep.put_kept.Goals.{After-into_iter-start-iterator}
use Rattle.keep.proofs.keep.put_kept.Goals as goal

listed : (g : _) (c : After-into_iter-start-iterator g) → ListRows c.args.list c.into_iter-start-iterator.result
listed g c = rw (← c.into_iter-start-iterator.ensures.into_iter_gives) at c.rows-start-items.ensures

pub loop-start-init : goal.loop-start-init
loop-start-init g c =
    let l = listed g c in
    record {
      image_is = l.image;
      sort = l.sort;
      keeping =
          keeping-start (record { first = c.args.first; rest = c.args.sources.now }) (record { image = refl; rises = c.requires.rises })
          (omega arith) (omega arith) refl;
    }

pub more-kept-requires : goal.more-kept-requires
more-kept-requires g c =
    omega (arith, keeping-few c.args.list c.loop-start.invariant.keeping (listed g (goal.at.more-kept-requires g c).After-into_iter-start-iterator))

pub loop-start-preserved-then-stays : goal.loop-start-preserved-then-stays
loop-start-preserved-then-stays g c =
    row-stays c.loop-start.invariant c.in-Some.ensures.steps (rw c.of.ensures at c.leads_to-below.ensures) (c.requires.keeps _ _ _ c.stays.ensures)
    c.if-stays.true c.put_between-end.ensures c.more-kept.ensures

pub loop-start-preserved : goal.loop-start-preserved
loop-start-preserved g c =
    row-drops c.loop-start.invariant c.in-Some.ensures.steps (rw c.of.ensures at c.leads_to-below.ensures) (c.requires.keeps _ _ _ c.stays.ensures)
    c.if-stays.false

pub returns : goal.returns
returns g c =
    keeping_all c.args.list c.loop-start.invariant.keeping (listed g (goal.at.returns g c).After-into_iter-start-iterator)
    (omega (arith, c.in-None.ensures.steps))
