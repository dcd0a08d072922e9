use Rattle.std.proofs.Common.{◌≡◌, rules, arith, length, sym}
use Rattle.std.proofs.lemmas.List.{length-take-le}
use Rattle.lines.proofs.Whole.{refusal-short, put-ends}
use Rattle.listing.proofs.write_refusal.Goals as goal

pub slice_bounds-line-end : goal.slice_bounds-line-end
slice_bounds-line-end g c =
    let long : length c.put_refusal-end.new.buf ≡ 128 = search rules in
    omega (arith, put-ends c.put_refusal-end.ensures (refusal-short _))

pub slice_bounds-write_all-end : goal.slice_bounds-write_all-end
slice_bounds-write_all-end g c =
    let long : length c.put_refusal-end.new.buf ≡ 128 = search rules in
    sym (length-take-le _ _ (omega (arith, put-ends c.put_refusal-end.ensures (refusal-short _))))
