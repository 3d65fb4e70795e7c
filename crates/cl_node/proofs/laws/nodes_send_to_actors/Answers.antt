use Rattle.cl_node.proofs.Sends.{node_sends}
use Rattle.cl_node.proofs.laws.nodes_send_to_actors.Goals as goal

pub returns : goal.returns
returns c = node_sends
