use Rattle.wire.proofs.Puts.{put-append}
use Rattle.wire.proofs.text.put_text.Goals as goal

pub returns : goal.returns
returns c = search put-append
