-- A list by name has one form.
-- Assumes nothing.
use mathlib.Core.Path.{refl}
use Rattle.wire.specs.Codec.{OneForm}
use Rattle.wire.specs.Orders.{by_bytes}
use Rattle.wire.specs.Lists.{last_count}
use Rattle.wire.proofs.ListForms.{rising-one}
use Rattle.image.specs.declared.name.Under.{Under}
use Rattle.image.specs.FieldLayout.{name}
use Rattle.image.specs.Under.{under}
use Rattle.image.proofs.OneForm.{name-one, under-one}
use Rattle.nodes.specs.Listed.{by_name}

pub by_name-one : (u : Under) → OneForm (by_name u)
by_name-one u = rising-one by_bytes name (under u) name-one (under-one u) last_count refl
