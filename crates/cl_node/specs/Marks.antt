-- With the mark of its step a node sends to no more actors than without.
use Rattle.std.specs.Prelude.{ℕ, zero, suc, true, false, List, [], ◌∷◌, Option, Some, None, slice_index_or}
use Rattle.std.specs.List.{AllZip}
use Rattle.std.proofs.Common.{le_refl}
use Rattle.cl_steps.specs.Steps.{AreFewer, receivers}
use Rattle.cl_actor.specs.Core.{Noted}
use Rattle.cl_node.specs.Addressing.{addressed}
use Rattle.cl_node.specs.declared.node_core.NodeCore.{NodeCore}
use Rattle.cl_node.specs.Node.{NodeState, replica_at, replica_step, slot_step, delivered_to, delivered_for, delivered_node}
use Rattle.cl_node.specs.NodeCore.{IsNodeState}
use Rattle.cl_node.specs.Slot.{IsReplicaAt}
use Rattle.cl_vnode.specs.declared.vnode.Vnode.{Vnode}
use Rattle.cl_vnode.specs.Replica.{ReplicaState, IsReplicaStateOf}
use Rattle.cl_vnode.specs.Step.{primary_in}
use Rattle.cl_vnode.proofs.Marks.{marks_are_alike as replica_marks}
use Rattle.cl_wire.specs.Message.{Content, Log}

-- so does a replica: as the standby it sends the same with every mark
replica_sends_fewer : (vnode : Vnode) (replica : ReplicaState) → IsReplicaStateOf vnode replica → (primary : ℕ → ℕ) (from : ℕ) (content : Content) →
    AreFewer (receivers (replica_step primary replica from content true).step)
    (receivers (replica_step primary replica from content false).step)
replica_sends_fewer vnode replica is primary from (Log v number entry) = λ to. le_refl _
replica_sends_fewer vnode replica is primary from content = replica_marks vnode replica is primary from content true

-- by the replica that the message is for
by_replica : (noted : Noted) (state : NodeState) (from : ℕ) (content : Content) (v : ℕ) (vnode : Option Vnode) (replica : Option ReplicaState) →
    IsReplicaAt vnode replica →
    AreFewer (receivers (delivered_to state v (slot_step noted replica from content true)).step)
    (receivers (delivered_to state v (slot_step noted replica from content false)).step)
by_replica noted state from content v None None is = λ to. le_refl _
by_replica noted state from content v None (Some replica) is = absurd is
by_replica noted state from content v (Some vnode) None is = λ to. le_refl _
by_replica noted state from content v (Some vnode) (Some replica) is =
    replica_sends_fewer vnode replica is (primary_in noted.nodes noted.entries) from content

-- the replicas of two lists that go together
pub slots_at : (vnodes : List (Option Vnode)) (replicas : List (Option ReplicaState)) → AllZip IsReplicaAt vnodes replicas → (v : ℕ) →
    IsReplicaAt (slice_index_or vnodes v None) (slice_index_or replicas v None)
slots_at [] [] are v = tt
slots_at [] (replica ∷ replicas) are v = absurd are
slots_at (vnode ∷ vnodes) [] are v = absurd are
slots_at (vnode ∷ vnodes) (replica ∷ replicas) are zero = are.0
slots_at (vnode ∷ vnodes) (replica ∷ replicas) are (suc v) = slots_at vnodes replicas are.1 v

-- by the virtual node that it is for
by_virtual_node : (core : NodeCore) (noted : Noted) (state : NodeState) (from : ℕ) (content : Content) (v : Option ℕ) → IsNodeState core state →
    AreFewer (receivers (delivered_for noted state from content true v).step) (receivers (delivered_for noted state from content false v).step)
by_virtual_node core noted state from content None is = λ to. le_refl _
by_virtual_node core noted state from content (Some v) is =
    by_replica noted state from content v (slice_index_or core.replicas v None) (replica_at state v) (slots_at core.replicas state.replicas is v)

-- so is it for each message
pub sends_fewer_by_mark : (core : NodeCore) (noted : Noted) (state : NodeState) (from : ℕ) (content : Content) → IsNodeState core state →
    AreFewer (receivers (delivered_node noted state from content true).step) (receivers (delivered_node noted state from content false).step)
sends_fewer_by_mark core noted state from content is = by_virtual_node core noted state from content (addressed noted.nodes content) is
