use Rattle.wire.proofs.Puts.{put-append}
use Rattle.overlay.proofs.record.put_updated.Goals as goal

pub returns : goal.returns
returns c = put-append c.put_number-fields.ensures
    (put-append c.put_attr_delta-list.ensures (put-append c.put_changes-rest.ensures c.put_new_change.ensures))
