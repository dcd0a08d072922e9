use mathlib.Core.Path.{sym, ◌∙◌}
use Rattle.change.proofs.Finishing.{finish-written}
use Rattle.change.proofs.room.write_if_room.Goals as goal

pub returns : goal.returns
returns g c = λ bytes h. finish-written (h _ _ _ c.put-size.ensures) (sym c.lacks_room.ensures ∙ c.if-lacks_room.false) (h _ _ _ c.put.ensures)
