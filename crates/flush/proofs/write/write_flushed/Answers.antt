use Rattle.flush.proofs.Flushing.{image-measured, image-written}
use Rattle.change.proofs.Finishing.{finish-roomless, finish-written}
use mathlib.Core.Path.{sym, ◌∙◌}
use Rattle.flush.proofs.write.write_flushed.Goals as goal

pub returns-then-lacks_room : goal.returns-then-lacks_room
returns-then-lacks_room c =
    finish-roomless
    (image-measured c.args.walk.now c.args.flush c.drops_of-drops.ensures c.put_nodes-nodes.ensures c.put_number-count.ensures
    c.advance.ensures c.put_rest-size.ensures)
    (sym c.lacks_room.ensures ∙ c.if-lacks_room.true)

pub returns : goal.returns
returns c =
    finish-written
    (image-measured c.args.walk.now c.args.flush c.drops_of-drops.ensures c.put_nodes-nodes.ensures c.put_number-count.ensures
    c.advance.ensures c.put_rest-size.ensures)
    (sym c.lacks_room.ensures ∙ c.if-lacks_room.false)
    (image-written c.args.walk.now c.args.flush c.drops_of-drops.ensures c.put_nodes-nodes.ensures c.put_number-start.ensures
    c.put_nodes-base.ensures c.put_rest-end.ensures)
