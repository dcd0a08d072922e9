use mathlib.Core.Path.{refl, sym, ◌∙◌}
use Rattle.lookup.proofs.Children.{base-none, base-other, base_entries}
use Rattle.lookup.proofs.child.base_entries.Goals as goal

pub returns-in_err-base : goal.returns-in_err-base
returns-in_err-base c = rw c.from_residual.ensures (base-none c.args.stack c.in_err-base.ensures)

pub returns-in_err-place : goal.returns-in_err-place
returns-in_err-place c =
    rw c.from_residual-in_err-place.ensures (base-other c.args.stack _ c.in_ok-base.ensures (sym c.entries.ensures ∙ c.in_err-place.was))

pub returns : goal.returns
returns c =
    base_entries c.args.stack _ c.in_ok-base.ensures (sym c.entries.ensures ∙ c.in_ok-place.was) _ (record { image = refl; sort = refl; at = refl })
