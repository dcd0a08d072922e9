use Rattle.meld.proofs.Merging.{stopped, gave}
use Rattle.update.proofs.Updating.{fields-broken, fields-if}
use Rattle.update.proofs.update.whole_fields.Goals as goal

pub returns-in_err-fields : goal.returns-in_err-fields
returns-in_err-fields c = rw c.from_residual.ensures (fields-broken c.read_attr_delta.ensures (stopped _ c.ok.ensures.value c.in_err-fields.was).1)

pub returns : goal.returns
returns c = rw c.then_some.ensures (fields-if c.read_attr_delta.ensures (gave _ c.ok.ensures.value c.in_ok-fields.was))
