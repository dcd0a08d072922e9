use Rattle.std.proofs.Common.{◌<◌, ◌≡◌, ◌≤◌, ◌∙◌, List, length, ap, arith}
use lib.ListN.{set, take}
use lib.Seq.{length-take-le}
use Rattle.rows.specs.declared.listing.Entry.{Entry}
use Rattle.rows.specs.Plans.{plan_entries}
use Rattle.rows.proofs.Planning.{going-given, going-filled, going_more, target-length}
use Rattle.rows.proofs.listing.fill_rows.Goals as goal

pub unwrap-next-requires : goal.unwrap-next-requires
unwrap-next-requires c =
    let many = length-take-le c.args.plan.count c.args.rows.now (omega arith) in
    going-given c.loop-row.invariant.going (omega (arith, target-length c.args.plan, many)) c.next.ensures.steps

pub loop-row-preserved : goal.loop-row-preserved
loop-row-preserved c =
    let lent = take c.args.plan.count c.args.rows.now in
    let i = c.loop-row.row-index in
    let many : length lent ≡ c.args.plan.count = length-take-le c.args.plan.count c.args.rows.now (omega arith) in
    let here : i < length (plan_entries c.args.plan) = omega (arith, target-length c.args.plan, many) in
    let room : length (plan_entries c.args.plan) ≤ length lent = omega (arith, target-length c.args.plan, c.requires, many) in
    let going = c.loop-row.invariant.going in
    let new : Entry =
    record { start = c.unwrap-next.result.name.start; «length» = c.unwrap-next.result.name.length; inode = c.unwrap-next.result.given.inode } in
    record {
      filled =
          ap (λ (rows : List Entry). set rows i new) c.loop-row.invariant.filled ∙ going-filled going here c.next.ensures.steps c.unwrap-next.ensures lent room;
      going = going_more going here c.next.ensures.steps c.unwrap-next.ensures;
    }
