use Rattle.wire.proofs.Puts.{put-append}
use Rattle.image.specs.FieldLayout.{moment}
use Rattle.writers.proofs.Writing.{put-given}
use Rattle.writers.proofs.write_attr.put_times.Goals as goal

pub returns : goal.returns
returns c =
    put-append
    (put-append
    (put-append (put-given moment _ c.put_if-modified.ensures) (put-given moment _ c.put_if-changed.ensures))
    (put-given moment _ c.put_if-created.ensures))
    (put-given moment _ c.put_if.ensures)
