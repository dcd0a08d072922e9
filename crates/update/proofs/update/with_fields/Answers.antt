use Rattle.update.proofs.Updating.{updates-live, updates-new, updates-none}
use Rattle.update.proofs.update.with_fields.Goals as goal

pub returns-in-Some : goal.returns-in-Some
returns-in-Some c = updates-live c.cut_at-cut.ensures c.in-Some.is c.onto_live.ensures c.replaced.ensures

pub returns-in-Some-decided : goal.returns-in-Some-decided
returns-in-Some-decided c = updates-new c.cut_at-cut.ensures c.in-None.is c.decided.ensures c.in-Some-decided.is
    c.new_delta.ensures c.replaced-in-Some-decided.ensures

pub returns-in-None-decided : goal.returns-in-None-decided
returns-in-None-decided c = updates-none c.cut_at-cut.ensures c.in-None.is c.decided.ensures c.in-None-decided.is c.unchanged.ensures
