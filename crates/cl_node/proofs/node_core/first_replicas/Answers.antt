-- The two first replicas have come into slots that were empty.
use Rattle.cl_node.proofs.Slots.{first_of_node, none_alike}
use Rattle.cl_node.proofs.node_core.first_replicas.Goals as goal
use Rattle.cl_node.specs.Node.{no_replicas}
use Rattle.cl_roster.specs.declared.limits.TheConstants.{VIRTUAL_NODES_MAX}

pub returns-then-me-nodes : goal.returns-then-me-nodes
returns-then-me-nodes c =
    first_of_node c.begin-then-me-nodes.new.replicas c.args.nodes c.args.me c.backed_up.result c.if-me-nodes.true c.backed_up.ensures.same
    (c.begin-then-me-nodes.ensures _ (c.begin.ensures no_replicas (none_alike VIRTUAL_NODES_MAX)))
