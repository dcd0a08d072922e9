use Rattle.nodes.proofs.Nodes.{reads-node}
use Rattle.nodes.proofs.node.read_node.Goals as goal

pub returns : goal.returns
returns c = reads-node c.read_file_type.ensures c.in_ok-file_type.was c.read_meta.ensures c.in_ok-meta.was c.read_kind.ensures c.in_ok-kind.was
