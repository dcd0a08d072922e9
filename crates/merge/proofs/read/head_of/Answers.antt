use Rattle.merge.proofs.Sourced.{head-none}
use Rattle.merge.proofs.read.head_of.Goals as goal

pub returns-then-source-eq0 : goal.returns-then-source-eq0
returns-then-source-eq0 c = search head-none
