-- There are as many places as virtual nodes.
use Rattle.cl_node.proofs.Slots.{first_counted}
use Rattle.cl_node.proofs.node_core.NodeCore.new.Goals as goal

pub invariant_of-result : goal.invariant_of-result
invariant_of-result c = record { counted = first_counted _ c.args.nodes c.args.me c.first_replicas.ensures }
