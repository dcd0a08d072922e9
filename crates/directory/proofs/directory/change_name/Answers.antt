use mathlib.Core.Path.{sym, ◌∙◌}
use native.Mathlib.Omega.{arith}
use Rattle.std.proofs.Common.{rules}
use Rattle.change.proofs.Finishing.{changes-unopened}
use Rattle.overlay.proofs.Living.{written-of}
use Rattle.directory.proofs.Directories.{name-refused, time-refused, on-name, name-made}
use Rattle.directory.proofs.directory.change_name.Goals as goal

pub returns-in_err-sections : goal.returns-in_err-sections
returns-in_err-sections c = λ call y. changes-unopened call _ c.open_sections.ensures.verdict c.in_err-sections.was c.from_residual.ensures

pub returns-then-bad_name : goal.returns-then-bad_name
returns-then-bad_name c = λ call y. name-refused y c.in_ok-sections.ensures.sections.1 (sym c.bad_name.ensures ∙ c.if-bad_name.true)

pub returns-then-time-gt-LAST_NANO : goal.returns-then-time-gt-LAST_NANO
returns-then-time-gt-LAST_NANO c = λ call y. time-refused y c.in_ok-sections.ensures.sections.1
    (sym c.bad_name.ensures ∙ c.if-bad_name.false) (omega (arith, c.if-time-gt-LAST_NANO.true))

pub returns : goal.returns
returns c = λ call y. name-made y c.in_ok-sections.ensures.sections.1 (sym c.bad_name.ensures ∙ c.if-bad_name.false)
    (omega (arith, c.if-time-gt-LAST_NANO.false)) (on-name c.on_directory-new.ensures (λ d n m. search rules))
    (written-of c.in_ok-sections.sections c.on_directory-new.result c.of.ensures c.write_record.ensures)
