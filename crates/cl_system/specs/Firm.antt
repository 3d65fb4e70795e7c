-- The system with what is firm of it: messages may be on their way in any order, and what is decided becomes firm later.
use Rattle.std.specs.Prelude.{◌≡◌, ℕ, true, false, List, [], ◌∷◌, ◌++◌, fold, IsPermutation}
use Rattle.cl_log.specs.Open.{is_among}
use Rattle.cl_roster.specs.Roster.{IsClusterSize}
use Rattle.cl_runs.specs.Queues.{QueueEvent, deliver, quieten}
use Rattle.cl_runs.specs.World.{Shape, EachMayHappen}
use Rattle.cl_types.specs.declared.answers.Outcome.TheVariants.{Committed}
use Rattle.cl_types.specs.declared.operations.TxnId.{TxnId}
use Rattle.cl_wire.specs.Message.{Content, Outcome, Finish}
use Rattle.cl_system.specs.Replicas.{Mail, ReplicaWorld, after_replica_event, first_replica_world, MayReplicas}

-- the system, whose own history is what was decided, and the history of what is firm
pub record FirmWorld : Type 0 where
  pub world : ReplicaWorld
  -- the firm transactions, in the order in which they became firm
  pub firm : List TxnId

-- what may happen to it
pub data FirmEvent : Type 0 where
  -- an event of the system
  happens : QueueEvent → FirmEvent
  -- what is on its way comes into another order
  reorder : Mail → FirmEvent
  -- a transaction that was decided becomes firm
  join : TxnId → FirmEvent

-- what tells of a commit tells of a firm transaction
abbrev pub TellsFirm : List TxnId → Content → Type 0
TellsFirm firm (Outcome txn number Committed) = is_among txn firm ≡ true
TellsFirm firm (Finish v txn true) = is_among txn firm ≡ true
TellsFirm firm content = Unit {0}

-- so does a message that comes to its receiver
abbrev pub TellsOnceFirm : FirmWorld → QueueEvent → Type 0
TellsOnceFirm state (deliver from to mark) = (content : Content) (rest : List Content) → state.world.mail from to ≡ content ∷ rest → TellsFirm state.firm content
TellsOnceFirm state other = Unit {0}

-- the messages on their way are the same ones, in whatever order
abbrev pub AreReordered : Mail → Mail → Type 0
AreReordered before after = (from to : ℕ) → IsPermutation (before from to) (after from to)

-- an event may happen: one of the system, another order of the same messages, or a transaction that was decided and is not firm yet
abbrev pub MayFirm : FirmWorld → FirmEvent → Type 0
MayFirm state (happens event) = MayReplicas state.world event × TellsOnceFirm state event
MayFirm state (reorder mail) = AreReordered state.world.mail mail
MayFirm state (join txn) = (is_among txn state.world.history ≡ true) × (is_among txn state.firm ≡ false)

-- the system with its messages in another order
abbrev pub with_order : ReplicaWorld → Mail → ReplicaWorld
with_order world mail = record world { mail = mail }

-- the system after an event
unfoldable pub after_firm_event : Shape → FirmWorld → FirmEvent → FirmWorld
after_firm_event shape state (happens event) = record state { world = after_replica_event shape state.world event }
after_firm_event shape state (reorder mail) = record state { world = with_order state.world mail }
after_firm_event shape state (join txn) = record state { firm = state.firm ++ txn ∷ [] }

-- the system before any event
abbrev pub first_firm_world : Shape → FirmWorld
first_firm_world shape = record { world = first_replica_world shape; firm = [] }

-- the system after events, first to last
unfoldable pub firm_world_after : Shape → List FirmEvent → FirmWorld
firm_world_after shape events = fold (after_firm_event shape) (first_firm_world shape) events

-- each event may happen in its turn
unfoldable pub IsFirmRun : Shape → List FirmEvent → Type 0
IsFirmRun shape events = EachMayHappen MayFirm (after_firm_event shape) events (first_firm_world shape)

-- the statement holds of every firm run of a cluster of a lawful size
abbrev pub OfFirmRuns : (Shape → List FirmEvent → Type 0) → Type 0
OfFirmRuns Holds = (shape : Shape) (events : List FirmEvent) → IsClusterSize shape.nodes shape.spares → IsFirmRun shape events → Holds shape events

-- a quiet moment is noted only while nothing is on its way
abbrev pub IsQuietly : FirmWorld → FirmEvent → Type 0
IsQuietly state (happens quieten) = (from to : ℕ) → state.world.mail from to ≡ []
IsQuietly state event = Unit {0}

-- so is each quiet moment of these events
abbrev pub AreQuiet : Shape → List FirmEvent → Type 0
AreQuiet shape events = EachMayHappen IsQuietly (after_firm_event shape) events (first_firm_world shape)
