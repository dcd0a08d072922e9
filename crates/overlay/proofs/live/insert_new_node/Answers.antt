use mathlib.Core.Path.{sym, ◌∙◌}
use Rattle.rules.specs.Calls.{Call}
use Rattle.change.proofs.Finishing.{changes-unopened}
use Rattle.overlay.proofs.Living.{insert-refused, insert-made, written-of}
use Rattle.overlay.proofs.live.insert_new_node.Goals as goal

pub returns-in_err-sections : goal.returns-in_err-sections
returns-in_err-sections c = changes-unopened (Call.insert _ _) _ c.open_sections.ensures.verdict c.in_err-sections.was c.from_residual.ensures

pub returns-then-no_delta : goal.returns-then-no_delta
returns-then-no_delta c = insert-refused _ c.in_ok-sections.ensures.sections.1 _ (sym c.no_delta.ensures ∙ c.if-no_delta.true)

pub returns : goal.returns
returns c = insert-made c.in_ok-sections.ensures.sections.1 c.cut_at-cut.ensures _ (sym c.no_delta.ensures ∙ c.if-no_delta.false)
    c.replaced-new.ensures (written-of c.in_ok-sections.sections c.replaced-new.result c.of.ensures c.write_record.ensures)
