use Rattle.cl_node.proofs.Admitting.{every_node_has_state}
use Rattle.cl_node.proofs.laws.every_node_has_state.Goals as goal

pub returns : goal.returns
returns c = every_node_has_state
