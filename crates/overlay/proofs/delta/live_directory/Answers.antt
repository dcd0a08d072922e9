use Rattle.overlay.proofs.LiveDirectories.{lives_at}
use Rattle.overlay.proofs.delta.live_directory.Goals as goal

pub returns : goal.returns
returns c =
    let i = c.in-Ok-Node-Directory-default in
    rw (c.in-Some.is, c.into.ensures) (rw (i.field-0-0-is, i.field-0-0-0-is) at (lives_at c.read_entry_delta.ensures i.is))
