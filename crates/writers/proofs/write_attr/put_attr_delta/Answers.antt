use Rattle.wire.proofs.Puts.{put-append}
use Rattle.image.specs.FieldLayout.{word}
use Rattle.writers.proofs.Writing.{put-given}
use Rattle.writers.proofs.write_attr.put_attr_delta.Goals as goal

pub returns : goal.returns
returns c =
    let mask = rw c.mask_of.ensures at c.put_number-start.ensures in
    put-append
    (put-append
    (put-append
    (put-append (put-append mask (put-given word _ c.put_if-owner.ensures)) (put-given word _ c.put_if-group.ensures))
    (put-given word _ c.put_if-links.ensures))
    (put-given word _ c.put_if-times.ensures))
    c.put_times.ensures
