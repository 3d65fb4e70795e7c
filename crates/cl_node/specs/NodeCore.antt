-- Which state a node's core has.
use Rattle.std.specs.List.{AllZip}
use Rattle.cl_node.specs.declared.node_core.NodeCore.{NodeCore}
use Rattle.cl_node.specs.Node.{NodeState}
use Rattle.cl_node.specs.Slot.{IsReplicaAt}

-- the core has this state: so has each of its replicas
abbrev pub IsNodeState : NodeCore → NodeState → Type 0
IsNodeState core state = AllZip IsReplicaAt core.replicas state.replicas
