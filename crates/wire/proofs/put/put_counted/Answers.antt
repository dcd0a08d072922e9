use Rattle.wire.proofs.Puts.{put-append}
use Rattle.wire.proofs.put.put_counted.Goals as goal

pub returns : goal.returns
returns g c = λ n bytes h.
    let count = (h _ _ _ _ c.rows-counted.ensures).1 in
    put-append (rw count at c.put_number-first.ensures) (h _ _ _ _ c.rows-written.ensures).0
