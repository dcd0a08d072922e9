use Rattle.rules.specs.Calls.{Call}
use Rattle.change.proofs.Finishing.{changes-unopened}
use Rattle.overlay.proofs.Living.{written-of}
use Rattle.std.proofs.Common.{rules}
use Rattle.directory.proofs.Directories.{on-parent, parent-made}
use Rattle.directory.proofs.directory.update_dir_parent.Goals as goal

pub returns-in_err-sections : goal.returns-in_err-sections
returns-in_err-sections c = changes-unopened (Call.set_parent _ _) _ c.open_sections.ensures.verdict c.in_err-sections.was c.from_residual.ensures

pub returns : goal.returns
returns c =
    parent-made c.in_ok-sections.ensures.sections.1 (on-parent c.on_directory-new.ensures _ (λ d n m. search rules))
    (written-of c.in_ok-sections.sections c.on_directory-new.result c.of.ensures c.write_record.ensures)
