-- A node as a machine: its core and its endpoint.
use Rattle.std.specs.Prelude.{◌≡◌, ℕ, Bool, ◌||◌, not, Option, Some, None}
use Rattle.cl_actor.specs.Acting.{ActingState, ActingFits, acted, is_acting_spent, core_of, endpoint_of}
use Rattle.cl_endpoint.specs.Endpoint.{EndpointState, new_endpoint, is_waiting}
use Rattle.cl_node.specs.declared.machine.Node.{Node}
use Rattle.cl_node.specs.Node.{NodeState, DeliveryFits, AnyLineFits, delivered_node, fed_node, first_node, is_any_busy, is_delivery_spent, is_line_spent}
use Rattle.cl_node.specs.NodeCore.{IsNodeState}
use Rattle.cl_post.specs.Steps.{Input, OutsData}
use Rattle.cl_store.specs.declared.store.Store.{Store}
use Rattle.cl_store.specs.Store.{stored}
use Rattle.cl_types.specs.Places.{Place}
use Rattle.cl_vnode.specs.Replica.{ReplicaState}

-- what a node has: a state of its core, and its endpoint
abbrev pub NodeMachineState : Type 0
NodeMachineState = ActingState NodeState

-- the endpoint of the node
abbrev pub endpoint_in : Node → EndpointState
endpoint_in node = endpoint_of node.acting

-- the node has this state
abbrev pub IsNodeMachine : Node → NodeMachineState → Type 0
IsNodeMachine node state = IsNodeState (core_of node.acting) state.core × (endpoint_of node.acting ≡ state.endpoint)

-- a node of a cluster in which nothing has happened yet, of so many nodes and spares, and its number
abbrev pub first_machine : ℕ → ℕ → ℕ → NodeMachineState
first_machine nodes spares me = record { core = first_node nodes me; endpoint = new_endpoint me nodes spares }

-- the node after a step
abbrev pub node_after : NodeMachineState → Input → Bool → NodeMachineState
node_after before input mark = (acted delivered_node fed_node before input mark).0

-- what its step gives
abbrev pub node_outs : NodeMachineState → Input → Bool → OutsData
node_outs before input mark = (acted delivered_node fed_node before input mark).1

-- its step with this mark would need a number above its limit
abbrev pub is_node_spent : NodeMachineState → Input → Bool → Bool
is_node_spent = is_acting_spent delivered_node fed_node is_delivery_spent is_line_spent

-- it meets the conditions of each call that its step makes
abbrev pub NodeFits : NodeMachineState → Input → Type 0
NodeFits = ActingFits delivered_node fed_node DeliveryFits AnyLineFits

-- no replica is busy
abbrev pub is_rested : NodeMachineState → Bool
is_rested state = not (is_any_busy state.core)

-- a message of the node is unsent or unacknowledged, or one of its replicas is busy
abbrev pub is_node_busy : NodeMachineState → Bool
is_node_busy state = is_waiting state.endpoint || is_any_busy state.core

-- the store has the records of the replica, or there is none on both sides
abbrev pub AreStored : Option Store → Option ReplicaState → Type 0
AreStored None None = Unit {0}
AreStored None (Some replica) = ⊥
AreStored (Some store) None = ⊥
AreStored (Some store) (Some replica) = (place : Place) → stored store place ≡ replica.part.stored place
