use mathlib.Core.Path.{sym, ◌∙◌}
use Rattle.wire.proofs.Readers.{handed}
use Rattle.rows.proofs.Listed.{listing-refused, listing_none, listing-few, listing-rows}
use Rattle.rows.proofs.listing.plan_listing.Goals as goal

pub returns-in_err-stack : goal.returns-in_err-stack
returns-in_err-stack c = listing-refused c.open_image.ensures c.args.room c.args.listing c.in_err-stack.was (handed c.from_residual.ensures)

pub returns-in_err-plan : goal.returns-in_err-plan
returns-in_err-plan c =
    listing-few c.open_image.ensures c.args.room c.in_ok-stack.was c.args.listing c.shown_attr.ensures (sym c.is_listed.ensures ∙ c.if-is_listed.true)
    c.plan_rows.ensures c.in_err-plan.was (handed c.from_residual-in_err-plan.ensures)

pub returns-then-is_listed : goal.returns-then-is_listed
returns-then-is_listed c =
    listing-rows c.open_image.ensures c.args.room c.in_ok-stack.was c.args.listing c.shown_attr.ensures (sym c.is_listed.ensures ∙ c.if-is_listed.true)
    c.plan_rows.ensures c.in_ok-plan.was

pub returns : goal.returns
returns c = listing_none c.open_image.ensures c.args.room c.in_ok-stack.was c.args.listing c.shown_attr.ensures (sym c.is_listed.ensures ∙ c.if-is_listed.false)
