use Rattle.overlay.proofs.Living.{given-broken, given-delta, given-tombstone}
use Rattle.overlay.proofs.live.no_delta.Goals as goal

pub returns-in_default : goal.returns-in_default
returns-in_default c = given-broken c.read_entry_delta.ensures c.in_default.is

pub returns-in-Node : goal.returns-in-Node
returns-in-Node c = given-delta c.read_entry_delta.ensures c.in-Ok.is c.in-Node.is

pub returns-in-Tombstone : goal.returns-in-Tombstone
returns-in-Tombstone c = given-tombstone c.read_entry_delta.ensures c.in-Ok.is c.in-Tombstone.is
