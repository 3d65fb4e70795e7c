-- The laws of a node.
use Rattle.std.specs.Prelude.{ℕ, ◌<◌, Bool}
use Rattle.cl_actor.specs.Acting.{SendsToActors}
use Rattle.cl_actor.specs.Core.{Noted}
use Rattle.cl_actor.specs.Laws.{IsLawfullyNoted}
use Rattle.cl_endpoint.specs.declared.limits.TheConstants.{ACTORS}
use Rattle.cl_node.specs.declared.machine.Node.{Node}
use Rattle.cl_node.specs.Machine.{NodeMachineState, IsNodeMachine}
use Rattle.cl_node.specs.Node.{NodeState, DeliveryFits, delivered_node}
use Rattle.cl_wire.specs.Message.{Content}

-- each node has a state
abbrev pub EveryNodeHasState : Type 0
EveryNodeHasState = (node : Node) → (state : NodeMachineState) × IsNodeMachine node state

-- on a message that fits, of an actor, a node sends to actors alone
abbrev pub NodesSendToActors : Type 0
NodesSendToActors = (noted : Noted) (state : NodeState) (from : ℕ) (content : Content) (mark : Bool) →
    IsLawfullyNoted noted → from < ACTORS → DeliveryFits noted state from content → SendsToActors (delivered_node noted state from content mark)
