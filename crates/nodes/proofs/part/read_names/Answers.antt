use Rattle.nodes.proofs.Values.{reads-names}
use Rattle.nodes.proofs.part.read_names.Goals as goal

pub returns : goal.returns
returns c = reads-names _ c.pass_names.ensures c.between.result c.in_ok-end.was c.between.ensures
