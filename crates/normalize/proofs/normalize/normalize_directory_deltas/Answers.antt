use Rattle.std.proofs.Common.{rules}
use Rattle.rules.specs.Calls.{Call}
use Rattle.change.proofs.Finishing.{changes-unopened}
use Rattle.normalize.proofs.Imaging.{position-refused, position-ready, position-changed}
use Rattle.normalize.proofs.normalize.normalize_directory_deltas.Goals as goal

pub returns-in_err-sections : goal.returns-in_err-sections
returns-in_err-sections c =
    changes-unopened (Call.normalise c.args.position) _ c.open_sections.ensures.verdict c.in_err-sections.was c.from_residual.ensures

pub returns-then-count-position : goal.returns-then-count-position
returns-then-count-position c = position-refused c.in_ok-sections.ensures.sections.1 c.rows_at-count.ensures c.if-count-position.true

pub walk-walk-requires : goal.walk-walk-requires
walk-walk-requires c =
    position-ready c.in_ok-sections.ensures.sections.1 c.rows_at-count.ensures c.if-count-position.false c.open_layers-layers.ensures

pub returns : goal.returns
returns c =
    position-changed c.in_ok-sections.ensures.sections.1 c.rows_at-count.ensures c.if-count-position.false
    c.open_layers-layers.ensures c.walk-walk.result c.walk-walk.ensures.0 c.walk-walk.ensures.1 c.write_if_room.ensures (λ t q u h. search rules)
