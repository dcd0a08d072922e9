use mathlib.Core.Path.{sym, ap, ◌∙◌}
use Rattle.normalize.specs.Records.{is_directory}
use Rattle.normalize.proofs.Recording.{directory-eq, normal-directory, normal-none}
use Rattle.normalize.proofs.record.put_normal_directory.Goals as goal

pub returns-then-is_directory : goal.returns-then-is_directory
returns-then-is_directory c =
    normal-directory c.args.below c.requires c.put_between-head.ensures c.names_in-leading.ensures
    (ap is_directory (sym c.decided.ensures) ∙ sym (c.eq-is_directory.ensures ∙ directory-eq c.decided.result) ∙ c.if-is_directory.true)
    _ _ c.lists_of.ensures c.put_kept_lists.ensures

pub returns : goal.returns
returns c =
    normal-none c.args.below c.requires c.put_between-head.ensures
    (ap is_directory (sym c.decided.ensures) ∙ sym (c.eq-is_directory.ensures ∙ directory-eq c.decided.result) ∙ c.if-is_directory.false)
    c.put_between-next.ensures
    c.put_number.ensures
