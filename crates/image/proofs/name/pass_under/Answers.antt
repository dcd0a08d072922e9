use Rattle.image.proofs.name.pass_under.Goals as goal

pub returns-in-Inode : goal.returns-in-Inode
returns-in-Inode c = rw c.in-Inode.is c.pass.ensures

pub returns-in-Value : goal.returns-in-Value
returns-in-Value c = rw c.in-Value.is c.pass-in-Value.ensures

pub returns-in-Change : goal.returns-in-Change
returns-in-Change c = rw c.in-Change.is c.pass_maybe.ensures
