use mathlib.Core.Path.{refl}
use Rattle.wire.specs.Orders.{by_bytes}
use Rattle.wire.specs.Lists.{last_count}
use Rattle.wire.proofs.Readers.{handed}
use Rattle.image.specs.FieldLayout.{name}
use Rattle.image.specs.Under.{under}
use Rattle.image.proofs.OneForm.{name-one, under-one}
use Rattle.image.proofs.Passing.{ends-list, ends-unlisted}
use Rattle.image.proofs.name.pass_names.Goals as goal

pub returns-in_err-rows : goal.returns-in_err-rows
returns-in_err-rows c =
    ends-unlisted by_bytes name (under c.args.what) last_count refl name-one (under-one c.args.what) c.read_rows.ensures c.in_err-rows.was
    (handed c.from_residual.ensures)

pub returns : goal.returns
returns c =
    ends-list by_bytes name (under c.args.what) last_count refl name-one (under-one c.args.what) c.read_rows.ensures c.in_ok-rows.was c.pass_rows.ensures
