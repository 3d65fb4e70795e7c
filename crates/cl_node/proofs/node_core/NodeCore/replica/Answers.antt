-- A replica of the node, or none beyond them.
use Rattle.std.proofs.Common.{None, arith, sym, subst, ◌≤◌, ◌<◌, length}
use Rattle.cl_node.specs.Node.{replica_at}
use Rattle.cl_node.specs.Slot.{IsReplicaAt}
use Rattle.cl_node.proofs.Slots.{at_index, replica_beyond}
use Rattle.cl_node.proofs.node_core.NodeCore.replica.Goals as goal

pub returns-then-index-ge-VIRTUAL_NODES_MAX : goal.returns-then-index-ge-VIRTUAL_NODES_MAX
returns-then-index-ge-VIRTUAL_NODES_MAX c state is =
    let beyond : length c.args.self.now.replicas ≤ c.args.v = omega (arith, c.args.self.now.counted) in
    subst (λ slot. IsReplicaAt None slot) (sym (replica_beyond c.args.self.now.replicas state c.args.v is beyond)) tt

pub returns : goal.returns
returns c state is =
    let within : c.args.v < length c.args.self.now.replicas = omega (arith, c.args.self.now.counted) in
    subst (λ slot. IsReplicaAt slot (replica_at state c.args.v)) (sym c.as_ref.ensures.value) (at_index c.args.self.now.replicas state c.args.v c.index-self-index.result is within)
