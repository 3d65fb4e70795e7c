-- Which actors of the system the program has, and in which states.
use Rattle.std.specs.Prelude.{◌≡◌, ℕ, ◌+◌, ◌<◌, ◌==◌, ◌⊎◌, ◌≢◌, if◌then◌else◌, Bool, true, false, List, [], Option, Some, None, Result, Ok, Err, length, slice_index_or, IsSome}
use Rattle.std.specs.Borrow.{Bor}
use Rattle.cl_actor.specs.Acting.{ActingState}
use Rattle.cl_endpoint.specs.Endpoint.{is_waiting, new_endpoint, set_number}
use Rattle.cl_front.specs.declared.machine.Front.{Front}
use Rattle.cl_front.specs.Machine as at_front
use Rattle.cl_front.specs.Machine.{FrontMachineState, IsFrontMachine}
use Rattle.cl_node.specs.declared.machine.Node.{Node}
use Rattle.cl_node.specs.Machine as at_node
use Rattle.cl_node.specs.Machine.{NodeMachineState, IsNodeMachine}
use Rattle.cl_post.specs.declared.outs.Outs.{Outs}
use Rattle.cl_post.specs.Steps.{Input, outs_of}
use Rattle.cl_roster.specs.Roster.{IsClusterSize}
use Rattle.cl_runs.specs.World.{Shape, IsLiving, with_at}
use Rattle.cl_serial.specs.Transcript.{transcript_of}
use Rattle.cl_steps.specs.declared.actors.TheConstants.{FRONT}
use Rattle.cl_system.specs.System.{Core, front, node, first_core, is_core_at_rest, transcript_in}
use Rattle.cl_types.specs.declared.answers.Refused.{Refused}
use Rattle.cl_world.specs.Inputs.{acted_core, InputFits}
use Rattle.cl_world.specs.declared.actors.Actors.{Actors}
use Rattle.cl_world.specs.declared.front_seat.FrontSeat.{FrontSeat}
use Rattle.cl_world.specs.declared.front_seat.FrontSeat.TheVariants.{Here, Gone}

-- the states of all actors, by number
abbrev pub States : Type 0
States = ℕ → ActingState Core

-- a state of the front, as one of an actor
abbrev pub front_state : FrontMachineState → ActingState Core
front_state state = record { core = front state.core; endpoint = state.endpoint }

-- a state of a node, as one of an actor
abbrev pub node_state : NodeMachineState → ActingState Core
node_state state = record { core = node state.core; endpoint = state.endpoint }

-- the front has the state of this actor
pub record HasFrontState (machine : Front) (actor : ActingState Core) : Type 0 where
  pub state : FrontMachineState
  pub here : IsFrontMachine machine state
  pub same : actor ≡ front_state state

-- the node has the state of this actor
pub record HasNodeState (machine : Node) (actor : ActingState Core) : Type 0 where
  pub state : NodeMachineState
  pub here : IsNodeMachine machine state
  pub same : actor ≡ node_state state

-- the front is this actor; where it is gone, its transcript is left
abbrev pub IsFrontIn : FrontSeat → ActingState Core → Type 0
IsFrontIn (Here machine) actor = HasFrontState machine actor
IsFrontIn (Gone transcript) actor = transcript_of transcript ≡ transcript_in actor.core

-- the node is this actor, or is gone
abbrev pub IsNodeIn : Option Node → ActingState Core → Type 0
IsNodeIn None actor = Unit {0}
IsNodeIn (Some machine) actor = HasNodeState machine actor

-- the state with another core
abbrev pub with_core : ActingState Core → Core → ActingState Core
with_core state core = record state { core = core }

-- the core of an actor without its transcript
abbrev pub without_transcript : Core → Core
without_transcript (front state) = front (record state { transcript = [] })
without_transcript (node state) = node state

-- the front has the state of this actor but for its transcript, or is gone
abbrev pub IsBareFront : Option Front → ActingState Core → Type 0
IsBareFront None actor = Unit {0}
IsBareFront (Some machine) actor = HasFrontState machine (with_core actor (without_transcript actor.core))

-- the front of a seat, where it is there
abbrev pub IsFrontOf : FrontSeat → Option (Bor Front) → Type 0
IsFrontOf (Here machine) None = ⊥
IsFrontOf (Here machine) (Some lent) = lent.now ≡ machine
IsFrontOf (Gone transcript) None = Unit {0}
IsFrontOf (Gone transcript) (Some lent) = ⊥

-- the front is there
abbrev pub is_here : FrontSeat → Bool
is_here (Here machine) = true
is_here (Gone transcript) = false

-- the node of a number, where there is one
abbrev pub member_at : Actors → ℕ → Option Node
member_at actors actor = slice_index_or actors.members.items actor None

-- what a step leaves of the front: it is there with the state after it, or its transcript is left
abbrev pub IsFrontStep : FrontSeat → ActingState Core → Input → Result Outs Refused → Type 0
IsFrontStep seat before input (Ok outs) =
    let acted = acted_core FRONT before input outs.short in IsFrontIn seat acted.0 × (is_here seat ≡ true) × (outs_of outs ≡ acted.1)
IsFrontStep seat before input (Err refused) = IsFrontIn seat before

-- what a step leaves of a node: it is there with the state after it, or is gone
abbrev pub IsNodeStep : Option Node → ℕ → ActingState Core → Input → Result Outs Refused → Type 0
IsNodeStep slot actor before input (Ok outs) =
    let acted = acted_core actor before input outs.short in IsNodeIn slot acted.0 × IsSome slot × (outs_of outs ≡ acted.1)
IsNodeStep slot actor before input (Err refused) = slot ≡ None

-- the actors have these states, in a cluster of this size
pub record AreActors (shape : Shape) (actors : Actors) (states : States) : Type 0 where
  pub front : IsFrontIn actors.front (states FRONT)
  pub counted : length actors.members.items ≡ shape.nodes + shape.spares
  pub members : (actor : ℕ) → actor < shape.nodes + shape.spares → IsNodeIn (member_at actors actor) (states actor)

-- the actor is there
abbrev pub IsThere : Shape → Actors → ℕ → Type 0
IsThere shape actors actor =
    ((actor ≡ FRONT) × (is_here actors.front ≡ true)) ⊎ ((actor < shape.nodes + shape.spares) × IsSome (member_at actors actor))

-- each actor of the cluster is there
pub record AreAllThere (shape : Shape) (actors : Actors) : Type 0 where
  pub front : is_here actors.front ≡ true
  pub members : (actor : ℕ) → actor < shape.nodes + shape.spares → IsSome (member_at actors actor)

-- each actor of the cluster but one is there
pub record AreOthersThere (shape : Shape) (actors : Actors) (gone : ℕ) : Type 0 where
  pub front : gone ≢ FRONT → is_here actors.front ≡ true
  pub members : (actor : ℕ) → actor < shape.nodes + shape.spares → gone ≢ actor → IsSome (member_at actors actor)

-- the actor may take a step on an input that fits it
pub record MayAct (shape : Shape) (actors : Actors) (states : States) (actor : ℕ) (input : Input) : Type 0 where
  pub size : IsClusterSize shape.nodes shape.spares
  pub before : AreActors shape actors states
  pub there : AreAllThere shape actors
  -- nobody has stopped
  pub lives : IsLiving shape [] actor
  pub fits : InputFits actor (states actor) input

-- the actors before any event
abbrev pub first_states : ℕ → ℕ → States
first_states nodes spares actor = record { core = first_core nodes actor; endpoint = new_endpoint actor nodes spares }

-- so many nodes, each as it was at the start
pub record AreFirstMembers (nodes spares count : ℕ) (members : List (Option Node)) : Type 0 where
  pub counted : length members ≡ count
  pub each : (actor : ℕ) → actor < count → IsNodeIn (slice_index_or members actor None) (first_states nodes spares actor)
  pub there : (actor : ℕ) → actor < count → IsSome (slice_index_or members actor None)

-- whether a message of a node is not acknowledged, where there is one
abbrev pub is_node_waiting : Option Node → Bool
is_node_waiting None = false
is_node_waiting (Some machine) = is_waiting (at_node.endpoint_in machine)

-- whether a message of the front is not acknowledged, where it is there
abbrev pub is_front_waiting : FrontSeat → Bool
is_front_waiting (Here machine) = is_waiting (at_front.endpoint_in machine)
is_front_waiting (Gone transcript) = false

-- whether a message of an actor is not acknowledged, where it is there
abbrev pub is_waiting_at : Actors → ℕ → Bool
is_waiting_at actors actor = if actor == FRONT then is_front_waiting actors.front else is_node_waiting (member_at actors actor)

-- how many entries of the roster a node has noted, where there is one
abbrev pub noted_by_node : Option Node → Option ℕ
noted_by_node None = None
noted_by_node (Some machine) = Some (set_number (at_node.endpoint_in machine))

-- how many entries the front has noted, where it is there
abbrev pub noted_by_front : FrontSeat → Option ℕ
noted_by_front (Here machine) = Some (set_number (at_front.endpoint_in machine))
noted_by_front (Gone transcript) = None

-- how many entries an actor has noted, where it is there
abbrev pub noted_at : Actors → ℕ → Option ℕ
noted_at actors actor = if actor == FRONT then noted_by_front actors.front else noted_by_node (member_at actors actor)

-- the actor is at rest, and has no message that is not acknowledged
abbrev pub IsResting : ActingState Core → Type 0
IsResting state = (is_core_at_rest FRONT state.core ≡ true) × (is_waiting state.endpoint ≡ false)

-- the step was made: the actors have the states after it, all are there, and it gave what it gives, each with the mark that was given
pub record HasActed (shape : Shape) (actors : Actors) (states : States) (actor : ℕ) (input : Input) (outs : Outs) : Type 0 where
  pub after : AreActors shape actors (with_at states actor (acted_core actor (states actor) input outs.short).0)
  pub there : AreAllThere shape actors
  pub given : outs_of outs ≡ (acted_core actor (states actor) input outs.short).1

-- the step was refused: the states are as before, and the actor may be gone
pub record HasFailed (shape : Shape) (actors : Actors) (states : States) (actor : ℕ) : Type 0 where
  pub same : AreActors shape actors states
  pub there : AreOthersThere shape actors actor

-- what a step of an actor leaves
abbrev pub IsActorStep : Shape → Actors → States → ℕ → Input → Result Outs Refused → Type 0
IsActorStep shape actors states actor input (Ok outs) = HasActed shape actors states actor input outs
IsActorStep shape actors states actor input (Err refused) = HasFailed shape actors states actor
