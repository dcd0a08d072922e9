use Rattle.std.proofs.Common.{◌≡◌, rules, arith, length, sym}
use Rattle.std.proofs.lemmas.List.{length-take-le}
use Rattle.attrs.specs.Meant.{attr_meant}
use Rattle.lines.proofs.Whole.{line-short, next-rows, put-ends}
use Rattle.listing.proofs.write_lines.Goals as goal

pub loop-attr-init : goal.loop-attr-init
loop-attr-init g c = (search rules, rw (← c.into_iter-attr-iterator.ensures.into_iter_gives) at c.requires)

pub slice_bounds-line-end-in-loop-attr : goal.slice_bounds-line-end-in-loop-attr
slice_bounds-line-end-in-loop-attr g c =
    let long : length c.put_line-end.new.buf ≡ 128 = search rules in
    omega (arith, put-ends c.put_line-end.ensures (line-short (attr_meant c.in-Some.attr)))

pub slice_bounds-write_all-end-in-loop-attr : goal.slice_bounds-write_all-end-in-loop-attr
slice_bounds-write_all-end-in-loop-attr g c =
    let long : length c.put_line-end.new.buf ≡ 128 = search rules in
    sym (length-take-le _ _ (omega (arith, put-ends c.put_line-end.ensures (line-short (attr_meant c.in-Some.attr)))))

pub loop-attr-preserved : goal.loop-attr-preserved
loop-attr-preserved g c = (search rules, next-rows c.loop-attr.invariant.1 c.in-Some.ensures.steps)
