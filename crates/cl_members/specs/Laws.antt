-- Every run of the cluster is a run of the firm system.
use Rattle.std.specs.Prelude.{◌≡◌, ℕ, ◌<◌, Bool, true, List, [], ◌∷◌, ◌++◌, Some, length}
use Rattle.std.specs.List.{flat_map}
use Rattle.cl_cluster.specs.Alike.{pair_events_of, pairs_after}
use Rattle.cl_front.specs.Front.{is_answered}
use Rattle.cl_pairs.specs.Pairs.{IsPairRun}
use Rattle.cl_roster.specs.Roster.{IsClusterSize}
use Rattle.cl_runs.specs.Queues.{deliver}
use Rattle.cl_runs.specs.World.{Shape, Run, handle, packet_at, world_after, IsQuiet, IsRun, IsWideRun}
use Rattle.cl_shown.specs.Laws.{transcript_of_firm, lines_of_firm}
use Rattle.cl_steps.specs.declared.actors.TheConstants.{FRONT}
use Rattle.cl_system.specs.Firm.{FirmEvent, happens, firm_world_after, IsFirmRun, AreQuiet}
use Rattle.cl_system.specs.System.{is_core_at_rest, system}
use Rattle.cl_vnode.specs.Replica.{ReplicaState}
use Rattle.cl_wire.specs.Message.{Content, Message}
use Rattle.cl_members.specs.Events.{firm_events_of}
use Rattle.cl_members.specs.Members.{transcript_after, history_after, IsReplicaAfter, IsStandbyAfter, feeds_in}

-- the statement holds of every wide run of a cluster of a lawful size
abbrev pub OfWideRuns : (Shape → Run → Type 0) → Type 0
OfWideRuns Holds = (shape : Shape) (run : Run) → IsClusterSize shape.nodes shape.spares → IsWideRun (system shape.nodes) shape run → Holds shape run

-- the replica has the log, the store and the locks that its virtual node has in the firm system
pub record HasPart (shape : Shape) (run : Run) (v : ℕ) : Type 0 where
  pub replica : ReplicaState
  pub after : IsReplicaAfter shape run v replica
  pub same : replica.part ≡ ((firm_world_after shape (firm_events_of shape run)).world.replicas v).part

-- a run of the cluster is one of the firm system, with the same transcript, the same history, the same logs and the same lines
pub record IsFirmRunOf (shape : Shape) (run : Run) : Type 0 where
  pub firm : IsFirmRun shape (firm_events_of shape run)
  pub transcript : transcript_after shape run ≡ transcript_of_firm shape (firm_events_of shape run)
  pub history : history_after shape run ≡ (firm_world_after shape (firm_events_of shape run)).firm
  pub parts : (v : ℕ) → v < shape.nodes → HasPart shape run v
  pub fed : flat_map lines_of_firm (firm_events_of shape run) ≡ feeds_in run
  -- a front at rest there is at rest here
  pub rests : is_core_at_rest FRONT ((world_after (system shape.nodes) shape run).actors FRONT).core ≡ true → is_answered (firm_world_after shape (firm_events_of shape run)).world.front ≡ true

-- so is every wide run
abbrev pub RunsAreFirmRuns : Type 0
RunsAreFirmRuns = OfWideRuns IsFirmRunOf

-- members of the cluster are those of pairs, with the same history
pub record IsOfPairs (shape : Shape) (run : Run) : Type 0 where
  pub is : IsPairRun shape (pair_events_of shape run)
  pub primaries : (v : ℕ) → v < shape.nodes → IsReplicaAfter shape run v ((pairs_after shape run).primaries v)
  pub standbys : (v : ℕ) → v < shape.nodes → IsStandbyAfter shape run v ((pairs_after shape run).standbys v)
  pub history : history_after shape run ≡ (pairs_after shape run).history

-- so it is after every wide run
abbrev pub MembersAreOfPairs : Type 0
MembersAreOfPairs = OfWideRuns IsOfPairs

-- at a quiet moment of a run nothing is on its way
abbrev pub QuietEmptiesMail : Type 0
QuietEmptiesMail = (shape : Shape) (run : Run) → IsClusterSize shape.nodes shape.spares → IsRun (system shape.nodes) shape run →
    IsQuiet (system shape.nodes) shape (world_after (system shape.nodes) shape run) → (from to : ℕ) → (pairs_after shape run).mail from to ≡ []

-- the events of a longer run begin with those of the run
abbrev pub EventsGoOn : Type 0
EventsGoOn = (shape : Shape) (run more : Run) → (rest : List FirmEvent) × (firm_events_of shape (run ++ more) ≡ firm_events_of shape run ++ rest)

-- the quiet moments of a run are quiet
abbrev pub RunsAreQuiet : Type 0
RunsAreQuiet = (shape : Shape) (run : Run) → IsClusterSize shape.nodes shape.spares → IsRun (system shape.nodes) shape run → AreQuiet shape (firm_events_of shape run)

-- where a message comes, an event of the run with the same mark handles its packet
pub record IsMarkedIn (shape : Shape) (run : Run) (front : List FirmEvent) (from to : ℕ) (mark : Bool) : Type 0 where
  pub before : Run
  pub after : Run
  pub id : ℕ
  pub packet : Message
  pub rest : List Content
  pub split : run ≡ before ++ (handle to id, mark) ∷ after
  -- what was before it was before that message
  pub events : firm_events_of shape before ≡ front
  pub handles : packet_at (world_after (system shape.nodes) shape before) id ≡ Some packet
  pub head : (firm_world_after shape front).world.mail from to ≡ packet.content ∷ rest
  -- after it the transcript is as after that message
  pub written : length (transcript_after shape (before ++ (handle to id, mark) ∷ [])) ≡ length (transcript_of_firm shape (front ++ happens (deliver from to mark) ∷ []))

-- so it is of every wide run
abbrev pub MarksAreOfRuns : Type 0
MarksAreOfRuns = (shape : Shape) (run : Run) (front back : List FirmEvent) (from to : ℕ) (mark : Bool) → IsClusterSize shape.nodes shape.spares →
    IsWideRun (system shape.nodes) shape run → firm_events_of shape run ≡ front ++ happens (deliver from to mark) ∷ back → IsMarkedIn shape run front from to mark
