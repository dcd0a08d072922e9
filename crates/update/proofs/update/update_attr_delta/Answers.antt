use mathlib.Core.Path.{ap, ◌∙◌}
use Rattle.std.specs.Result.{result_ok}
use Rattle.rules.specs.Calls.{Call}
use Rattle.rules.specs.ChangeCalls.{given_fields}
use Rattle.wire.proofs.Readers.{handed}
use Rattle.change.proofs.Finishing.{changes-unopened}
use Rattle.overlay.proofs.Living.{written-of}
use Rattle.update.proofs.Updating.{update-refused, update-made}
use Rattle.update.proofs.update.update_attr_delta.Goals as goal

pub returns-in_err-sections : goal.returns-in_err-sections
returns-in_err-sections c = changes-unopened (Call.update c.args.ino (given_fields c.args.delta.now)) _
    c.open_inode.ensures.verdict c.in_err-sections.was c.from_residual.ensures

pub returns-in_err-fields : goal.returns-in_err-fields
returns-in_err-fields c =
    update-refused c.args.delta.now c.in_ok-sections.ensures.sections.1 _ c.whole_fields.ensures c.args.ino
    c.ok_or.ensures.value c.in_err-fields.was (handed c.from_residual-in_err-fields.ensures)

pub returns : goal.returns
returns c = update-made c.args.delta.now c.in_ok-sections.ensures.sections.1 c.whole_fields.ensures (c.ok_or.ensures.ok_part ∙ ap result_ok c.in_ok-fields.was)
    c.in_ok-sections.ensures.stack c.with_fields-new.ensures
    (written-of c.in_ok-sections.sections c.with_fields-new.result c.of.ensures c.write_record.ensures)
