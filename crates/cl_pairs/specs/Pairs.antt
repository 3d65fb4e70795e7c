-- The cluster as its front, a primary and a standby of each virtual node, and what is on its way between them: no stops, no packets.
use Rattle.std.specs.Prelude.{◌≡◌, ℕ, ◌+◌, ◌==◌, if◌then◌else◌, Bool, true, false, List, [], ◌∷◌, fold, Option, Some, None}
use Rattle.cl_actor.specs.Core.{CoreStep}
use Rattle.cl_front.specs.Front.{FrontState, new_front, delivered_front, fed_front, quiet_front, DeliveryFits, LineFits}
use Rattle.cl_node.specs.Members.{standby_node}
use Rattle.cl_node.specs.Node.{first_member}
use Rattle.cl_runs.specs.Queues.{QueueEvent, deliver, note_next, take_line, quieten}
use Rattle.cl_runs.specs.World.{Shape, EachMayHappen, with_at, with_firm}
use Rattle.cl_steps.specs.declared.actors.TheConstants.{FRONT}
use Rattle.cl_system.specs.Replicas.{Mail, nothing_noted, own_primary, with_mail, with_way}
use Rattle.cl_types.specs.declared.operations.TxnId.{TxnId}
use Rattle.cl_vnode.specs.Inputs.{Fits, StandbyFits}
use Rattle.cl_vnode.specs.Replica.{ReplicaState}
use Rattle.cl_vnode.specs.Standby.{standby_stepped}
use Rattle.cl_vnode.specs.Step.{Stepped, stepped}
use Rattle.cl_wire.specs.Message.{Content, Log}

-- the front, the replicas, and what is on its way
pub record PairWorld : Type 0 where
  pub front : FrontState
  -- of each virtual node the primary, at the node of its number
  pub primaries : ℕ → ReplicaState
  -- and the standby, at the node behind it
  pub standbys : ℕ → ReplicaState
  pub mail : Mail
  pub history : List TxnId
  pub lines : ℕ

-- the front has taken a step
abbrev pub front_acts : PairWorld → CoreStep FrontState → PairWorld
front_acts pairs stepped = record pairs { front = stepped.state; mail = with_mail pairs.mail FRONT stepped.step.sends }

-- the primary of a virtual node has taken a step
abbrev pub primary_acts : PairWorld → ℕ → Stepped → PairWorld
primary_acts pairs v stepped = record pairs {
  primaries = with_at pairs.primaries v stepped.state;
  mail = with_mail pairs.mail v stepped.step.sends;
  history = with_firm pairs.history stepped.step.firm;
}

-- the standby of a virtual node has taken a step
abbrev pub standby_acts : ℕ → PairWorld → ℕ → Stepped → PairWorld
standby_acts nodes pairs v stepped = record pairs {
  standbys = with_at pairs.standbys v stepped.state;
  mail = with_mail pairs.mail (standby_node nodes v) stepped.step.sends;
  history = with_firm pairs.history stepped.step.firm;
}

-- the virtual node of a log record on its way to its standby
abbrev pub logged_at : Content → Option ℕ
logged_at (Log v number entry) = Some v
logged_at content = None

-- a message comes to a node: a log record to its standby, and everything else to the primary
abbrev pub replica_acts : Shape → PairWorld → ℕ → ℕ → Content → Bool → Option ℕ → PairWorld
replica_acts shape pairs from to content mark (Some v) = standby_acts shape.nodes pairs v (standby_stepped (pairs.standbys v) from content)
replica_acts shape pairs from to content mark None = primary_acts pairs to (stepped own_primary (pairs.primaries to) from content mark)

-- a message comes to an actor
abbrev pub after_message : Shape → PairWorld → ℕ → ℕ → Content → Bool → PairWorld
after_message shape pairs from to content mark =
    if to == FRONT then front_acts pairs (delivered_front (nothing_noted shape) pairs.front from content mark)
    else replica_acts shape pairs from to content mark (logged_at content)

-- the first message on its way comes to its receiver
abbrev pub after_first : Shape → PairWorld → ℕ → ℕ → Bool → List Content → PairWorld
after_first shape pairs from to mark [] = pairs
after_first shape pairs from to mark (content ∷ rest) = after_message shape (record pairs { mail = with_way pairs.mail from to rest }) from to content mark

-- the system after an event
unfoldable pub after_pair_event : Shape → PairWorld → QueueEvent → PairWorld
after_pair_event shape pairs (deliver from to mark) = after_first shape pairs from to mark (pairs.mail from to)
after_pair_event shape pairs (take_line number text said) =
    front_acts (record pairs { lines = pairs.lines + 1 }) (fed_front (nothing_noted shape) pairs.front number text said)
after_pair_event shape pairs quieten = record pairs { front = quiet_front pairs.front }
after_pair_event shape pairs other = pairs

-- the system before any event
abbrev pub first_pair_world : Shape → PairWorld
first_pair_world shape = record {
  front = new_front;
  primaries = first_member shape.nodes;
  standbys = first_member shape.nodes;
  mail = λ from to. [];
  history = [];
  lines = 0;
}

-- the system after events, first to last
unfoldable pub pair_world_after : Shape → List QueueEvent → PairWorld
pair_world_after shape events = fold (after_pair_event shape) (first_pair_world shape) events

-- an event may happen: there is a message, or the line is the next one; nobody stops, so there is no entry to note
abbrev pub MayPairs : PairWorld → QueueEvent → Type 0
MayPairs pairs (deliver from to mark) = (content : Content) × (rest : List Content) × (pairs.mail from to ≡ content ∷ rest)
MayPairs pairs (take_line number text said) = (number ≡ pairs.lines + 1) × (said ≡ [])
MayPairs pairs (note_next actor) = ⊥
MayPairs pairs other = Unit {0}

-- each event may happen in its turn
unfoldable pub IsPairRun : Shape → List QueueEvent → Type 0
IsPairRun shape events = EachMayHappen MayPairs (after_pair_event shape) events (first_pair_world shape)

-- a message fits a node: a log record the standby of its virtual node, and everything else the primary
abbrev pub FitsReplica : Shape → PairWorld → ℕ → Content → Option ℕ → Type 0
FitsReplica shape pairs to content (Some v) = (to ≡ standby_node shape.nodes v) × StandbyFits shape.nodes (pairs.standbys v) content
FitsReplica shape pairs to content None = Fits shape.nodes (pairs.primaries to) content

-- a message fits its receiver
abbrev pub PairMessageFits : Shape → PairWorld → ℕ → ℕ → Content → Type 0
PairMessageFits shape pairs from to content = FitsActor (to == FRONT) where
  FitsActor : Bool → Type 0
  FitsActor true = DeliveryFits (nothing_noted shape) pairs.front from content
  FitsActor false = FitsReplica shape pairs to content (logged_at content)

-- what comes in an event fits whom it comes to
abbrev pub PairEventFits : Shape → PairWorld → QueueEvent → Type 0
PairEventFits shape pairs (deliver from to mark) = (content : Content) (rest : List Content) → pairs.mail from to ≡ content ∷ rest → PairMessageFits shape pairs from to content
PairEventFits shape pairs (take_line number text said) = LineFits (nothing_noted shape) pairs.front number text said
PairEventFits shape pairs other = Unit {0}
