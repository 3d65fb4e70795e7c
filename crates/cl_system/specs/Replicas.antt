-- The system as its front, one replica of each virtual node, and what is on its way between them: no stops, no standbys, no packets.
use Rattle.std.specs.Prelude.{◌≡◌, ℕ, ◌+◌, ◌==◌, if◌then◌else◌, Bool, true, false, ◌&&◌, List, [], ◌∷◌, ◌++◌, fold}
use Rattle.cl_actor.specs.Core.{Noted, CoreStep}
use Rattle.cl_front.specs.Front.{FrontState, new_front, delivered_front, fed_front, quiet_front, DeliveryFits, LineFits}
use Rattle.cl_lone.specs.Lone.{lone_step}
use Rattle.cl_runs.specs.Queues.{sent_to, QueueEvent, deliver, note_next, take_line, quieten}
use Rattle.cl_runs.specs.World.{Shape, with_at, with_firm}
use Rattle.cl_steps.specs.declared.actors.TheConstants.{FRONT}
use Rattle.cl_steps.specs.declared.steps.Outgoing.{Outgoing}
use Rattle.cl_types.specs.declared.operations.TxnId.{TxnId}
use Rattle.cl_vnode.specs.Inputs.{Fits}
use Rattle.cl_vnode.specs.Replica.{ReplicaState, first_replica}
use Rattle.cl_vnode.specs.Step.{Stepped}
use Rattle.cl_wire.specs.Message.{Content}

-- for each giver and each receiver the messages on their way, first to last
abbrev pub Mail : Type 0
Mail = ℕ → ℕ → List Content

-- the front, the replicas, and what is on its way
pub record ReplicaWorld : Type 0 where
  pub front : FrontState
  -- the replica of each virtual node: node v has that of virtual node v
  pub replicas : ℕ → ReplicaState
  pub mail : Mail
  pub history : List TxnId
  pub lines : ℕ

-- nothing of the roster was noted
abbrev pub nothing_noted : Shape → Noted
nothing_noted shape = record { nodes = shape.nodes; spares = shape.spares; entries = [] }

-- the primary of each virtual node is the node of its number
abbrev pub own_primary : ℕ → ℕ
own_primary v = v

-- what a giver sends goes to the ends of its queues
abbrev pub with_mail : Mail → ℕ → List Outgoing → Mail
with_mail mail giver sends from to = if from == giver then mail from to ++ sent_to to sends else mail from to

-- what is on its way from one actor to another is this
abbrev pub with_way : Mail → ℕ → ℕ → List Content → Mail
with_way mail from to contents giver receiver = if (receiver == to) && (giver == from) then contents else mail giver receiver

-- the front has taken a step
abbrev pub front_acts : ReplicaWorld → CoreStep FrontState → ReplicaWorld
front_acts world stepped = record world { front = stepped.state; mail = with_mail world.mail FRONT stepped.step.sends }

-- the replica of a virtual node has taken a step
abbrev pub replica_acts : ReplicaWorld → ℕ → Stepped → ReplicaWorld
replica_acts world v stepped = record world {
  replicas = with_at world.replicas v stepped.state;
  mail = with_mail world.mail v stepped.step.sends;
  history = with_firm world.history stepped.step.firm;
}

-- a message comes to an actor
abbrev pub after_message : Shape → ReplicaWorld → ℕ → ℕ → Content → Bool → ReplicaWorld
after_message shape world from to content mark =
    if to == FRONT then front_acts world (delivered_front (nothing_noted shape) world.front from content mark)
    else replica_acts world to (lone_step own_primary (world.replicas to) from content mark)

-- the first message on its way comes to its receiver
abbrev pub after_first : Shape → ReplicaWorld → ℕ → ℕ → Bool → List Content → ReplicaWorld
after_first shape world from to mark [] = world
after_first shape world from to mark (content ∷ rest) = after_message shape (record world { mail = with_way world.mail from to rest }) from to content mark

-- the system after an event
unfoldable pub after_replica_event : Shape → ReplicaWorld → QueueEvent → ReplicaWorld
after_replica_event shape world (deliver from to mark) = after_first shape world from to mark (world.mail from to)
after_replica_event shape world (take_line number text said) =
    front_acts (record world { lines = world.lines + 1 }) (fed_front (nothing_noted shape) world.front number text said)
after_replica_event shape world quieten = record world { front = quiet_front world.front }
after_replica_event shape world other = world

-- the system before any event
abbrev pub first_replica_world : Shape → ReplicaWorld
first_replica_world shape = record {
  front = new_front;
  replicas = λ v. first_replica v shape.nodes;
  mail = λ from to. [];
  history = [];
  lines = 0;
}

-- the system after events, first to last
unfoldable pub replica_world_after : Shape → List QueueEvent → ReplicaWorld
replica_world_after shape events = fold (after_replica_event shape) (first_replica_world shape) events

-- ---- what comes where

-- a message fits its receiver: the front takes outcomes, and a replica what its state allows
abbrev pub MessageFits : Shape → ReplicaWorld → ℕ → ℕ → Content → Type 0
MessageFits shape world from to content = FitsActor (to == FRONT) where
  FitsActor : Bool → Type 0
  FitsActor true = DeliveryFits (nothing_noted shape) world.front from content
  FitsActor false = Fits shape.nodes (world.replicas to) content

-- an event may happen: there is a message, or the line is the next one; nobody stops, so there is no entry to note
abbrev pub MayReplicas : ReplicaWorld → QueueEvent → Type 0
MayReplicas world (deliver from to mark) = (content : Content) × (rest : List Content) × (world.mail from to ≡ content ∷ rest)
MayReplicas world (take_line number text said) = (number ≡ world.lines + 1) × (said ≡ [])
MayReplicas world (note_next actor) = ⊥
MayReplicas world other = Unit {0}

-- what comes in an event fits whom it comes to
abbrev pub EventFits : Shape → ReplicaWorld → QueueEvent → Type 0
EventFits shape world (deliver from to mark) = (content : Content) (rest : List Content) → world.mail from to ≡ content ∷ rest → MessageFits shape world from to content
EventFits shape world (take_line number text said) = LineFits (nothing_noted shape) world.front number text said
EventFits shape world other = Unit {0}
