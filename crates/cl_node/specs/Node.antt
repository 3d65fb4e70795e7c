-- The core of a node as plain data, and what each of its steps leaves and gives.
use Rattle.std.specs.Prelude.{◌≡◌, ℕ, nat_lt, Bool, false, if◌then◌else◌, List, replicate, Option, Some, None, slice_index_or, slice_set}
use Rattle.std.specs.List.{list_any}
use Rattle.std.specs.Option.{option_map_or}
use Rattle.cl_actor.specs.Core.{Noted, CoreStep}
use Rattle.cl_lines.specs.declared.out.Out.{Out}
use Rattle.cl_node.specs.Addressing.{addressed}
use Rattle.cl_node.specs.Members.{standby_node, backed_up}
use Rattle.cl_roster.specs.declared.limits.TheConstants.{VIRTUAL_NODES_MAX}
use Rattle.cl_steps.specs.Steps.{Step, nothing_done}
use Rattle.cl_vnode.specs.Inputs.{Fits, StandbyFits, is_spent, is_standby_spent}
use Rattle.cl_vnode.specs.Replica.{ReplicaState, new_replica, is_busy}
use Rattle.cl_vnode.specs.Standby.{standby_stepped}
use Rattle.cl_vnode.specs.Step.{Stepped, primary_in, stepped}
use Rattle.cl_wire.specs.Message.{Content, Log}

-- the replicas that the node has, by virtual node
pub record NodeState : Type 0 where
  pub replicas : List (Option ReplicaState)

-- the node has no replica
abbrev pub no_replicas : List (Option ReplicaState)
no_replicas = replicate VIRTUAL_NODES_MAX None

-- a replica of a virtual node, where the node has one
abbrev pub replica_at : NodeState → ℕ → Option ReplicaState
replica_at state v = slice_index_or state.replicas v None

-- what there is of the replica of a virtual node is something else
abbrev pub with_replica : NodeState → ℕ → Option ReplicaState → NodeState
with_replica state v replica = record state { replicas = slice_set state.replicas v replica }

-- the first replica of a virtual node, the same at its primary and at its standby
abbrev pub first_member : ℕ → ℕ → ReplicaState
first_member nodes v = new_replica v nodes (Some (standby_node nodes v))

-- the replicas of a node: the primary of the virtual node of its own number, and the standby of the one before
abbrev pub two_replicas : ℕ → ℕ → ReplicaState → ReplicaState → List (Option ReplicaState)
two_replicas nodes me primary standby = slice_set (slice_set no_replicas me (Some primary)) (backed_up nodes me) (Some standby)

-- the node `me` at the start, of so many nodes: its two first replicas; a spare has none
abbrev pub first_node : ℕ → ℕ → NodeState
first_node nodes me = record {
  replicas = if nat_lt me nodes then two_replicas nodes me (first_member nodes me) (first_member nodes (backed_up nodes me)) else no_replicas;
}

-- a step that does nothing
abbrev pub unmoved : NodeState → CoreStep NodeState
unmoved state = record { state = state; step = nothing_done }

-- a step of a replica: a record of its primary's log comes to it as the standby, and everything else as the primary
abbrev pub replica_step : (ℕ → ℕ) → ReplicaState → ℕ → Content → Bool → Stepped
replica_step primary replica from (Log v number entry) mark = standby_stepped replica from (Log v number entry)
replica_step primary replica from content mark = stepped primary replica from content mark

-- a replica after a message, and what its step gives, by what the node has noted of the roster; where there is none, nothing
abbrev pub slot_step : Noted → Option ReplicaState → ℕ → Content → Bool → Option ReplicaState × Step
slot_step noted None from content mark = (None, nothing_done)
slot_step noted (Some replica) from content mark =
    let after = replica_step (primary_in noted.nodes noted.entries) replica from content mark in (Some after.state, after.step)

-- a message for a virtual node, of which the replica takes a step
abbrev pub delivered_to : NodeState → ℕ → Option ReplicaState × Step → CoreStep NodeState
delivered_to state v after = record { state = with_replica state v after.0; step = after.1 }

-- a message for a virtual node, or for none
abbrev pub delivered_for : Noted → NodeState → ℕ → Content → Bool → Option ℕ → CoreStep NodeState
delivered_for noted state from content mark None = unmoved state
delivered_for noted state from content mark (Some v) = delivered_to state v (slot_step noted (replica_at state v) from content mark)

-- the step of a message
abbrev pub delivered_node : Noted → NodeState → ℕ → Content → Bool → CoreStep NodeState
delivered_node noted state from content mark = delivered_for noted state from content mark (addressed noted.nodes content)

-- a line does nothing
abbrev pub fed_node : Noted → NodeState → ℕ → List ℕ → List Out → CoreStep NodeState
fed_node noted state line text said = unmoved state

-- the replica that a message is for
abbrev pub replica_for : NodeState → Option ℕ → Option ReplicaState
replica_for state None = None
replica_for state (Some v) = replica_at state v

-- a step of a replica is spent, as the standby or as the primary
abbrev pub is_replica_spent : ReplicaState → Content → Bool
is_replica_spent replica (Log v number entry) = is_standby_spent (Log v number entry)
is_replica_spent replica content = is_spent replica content

-- the step of a replica is spent, where there is one
abbrev pub is_slot_spent : Option ReplicaState → Content → Bool
is_slot_spent None content = false
is_slot_spent (Some replica) content = is_replica_spent replica content

-- the step of a message is spent where that of its replica is
abbrev pub is_delivery_spent : Noted → NodeState → ℕ → Content → Bool
is_delivery_spent noted state from content = is_slot_spent (replica_for state (addressed noted.nodes content)) content

-- no line needs a number
abbrev pub is_line_spent : Noted → NodeState → ℕ → List ℕ → List Out → Bool
is_line_spent noted state line text said = false

-- a message fits a replica, as the standby or as the primary
abbrev pub ReplicaFits : ℕ → ReplicaState → Content → Type 0
ReplicaFits nodes replica (Log v number entry) = StandbyFits nodes replica (Log v number entry)
ReplicaFits nodes replica content = Fits nodes replica content

-- a message fits where the node has the replica that it is for, and it may come there
pub record DeliveryFits (noted : Noted) (state : NodeState) (from : ℕ) (content : Content) : Type 0 where
  pub replica : ReplicaState
  pub here : replica_for state (addressed noted.nodes content) ≡ Some replica
  pub fits : ReplicaFits noted.nodes replica content

-- a line asks for nothing
abbrev pub AnyLineFits : Noted → NodeState → ℕ → List ℕ → List Out → Type 0
AnyLineFits noted state line text said = Unit {0}

-- something is under way at a replica
abbrev pub is_any_busy : NodeState → Bool
is_any_busy state = list_any (λ replica. option_map_or is_busy replica false) state.replicas
