use Rattle.rules.specs.Calls.{Call}
use Rattle.change.proofs.Finishing.{changes-unopened}
use Rattle.overlay.proofs.Living.{tombstone-made, written-of}
use Rattle.overlay.proofs.live.tombstone.Goals as goal

pub returns-in_err-sections : goal.returns-in_err-sections
returns-in_err-sections c = changes-unopened (Call.tombstone _) _ c.open_sections.ensures.verdict c.in_err-sections.was c.from_residual.ensures

pub returns : goal.returns
returns c = tombstone-made c.in_ok-sections.ensures.sections.1 c.cut_at-cut.ensures c.replaced-new.ensures
    (written-of c.in_ok-sections.sections c.replaced-new.result c.of.ensures c.write_record.ensures)
