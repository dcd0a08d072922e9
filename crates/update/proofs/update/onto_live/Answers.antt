use mathlib.Core.Path.{◌∙◌}
use native.Mathlib.Numerals.{add-one}
use Rattle.std.proofs.Common.{rules}
use Rattle.update.proofs.Onto.{onto-unread, onto-dead, onto-nowhere, onto-delta}
use Rattle.update.proofs.update.onto_live.Goals as goal

pub returns-in_default : goal.returns-in_default
returns-in_default c = onto-dead _ c.read_code.ensures c.in_default.is (search rules)

pub returns-in_default-2 : goal.returns-in_default-2
returns-in_default-2 c = onto-unread _ c.read_code.ensures c.in_default.is

pub returns-in_default-read_attr_delta : goal.returns-in_default-read_attr_delta
returns-in_default-read_attr_delta c =
    let i = c.in-Ok-Some-default in
    onto-nowhere _ c.read_code.ensures i.is c.read_attr_delta.ensures c.in_default-read_attr_delta.is

pub returns : goal.returns
returns c =
    let i = c.in-Ok-Some-default in
    onto-delta _ c.read_code.ensures i.is c.read_attr_delta.ensures i.field-0-0-is c.in-Ok.is (c.code.ensures.0 ∙ add-one _) c.attr_over.ensures
