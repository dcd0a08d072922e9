use Rattle.wire.proofs.Puts.{put-append}
use Rattle.overlay.proofs.record.put_edit.Goals as goal

pub returns : goal.returns
returns c = put-append c.put_lead-row.ensures c.put_record.ensures
