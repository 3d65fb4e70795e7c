-- The guarantee over every run of the cluster.
use Rattle.std.specs.Prelude.{◌≡◌, ℕ, true, List, ◌++◌}
use Rattle.cl_guarantee.specs.Causes.{TrueCauses}
use Rattle.cl_guarantee.specs.Held.{AreHeldAfter, HaveMembers, LogsAreShared, MembersAreEqual}
use Rattle.cl_guarantee.specs.Whole.{BrokenStaysOut, UnbrokenReplays}
use Rattle.cl_log.specs.LogEntry.{LogEntry}
use Rattle.cl_members.specs.Laws.{OfWideRuns}
use Rattle.cl_members.specs.Members.{transcript_after, history_after, IsReplicaAfter, feeds_in}
use Rattle.cl_roster.specs.Roster.{IsClusterSize}
use Rattle.cl_runs.specs.World.{Shape, Run, world_after, IsQuiet, IsRun, IsWideRun}
use Rattle.cl_serial.specs.Serial.{Serializable, EveryLineAnswered}
use Rattle.cl_serial.specs.Transcript.{fed_lines}
use Rattle.cl_settled.specs.Settled.{AgreesWithHistory}
use Rattle.cl_steps.specs.declared.actors.TheConstants.{FRONT}
use Rattle.cl_system.specs.System.{is_core_at_rest, system}
use Rattle.cl_types.specs.declared.operations.TxnId.{TxnId}
use Rattle.cl_vnode.specs.Replica.{ReplicaState}

-- the history of every run explains its transcript
abbrev pub RunsAreSerializable : Type 0
RunsAreSerializable = OfWideRuns (λ shape run. Serializable (transcript_after shape run) (history_after shape run))

-- each virtual node has a primary and a standby
abbrev pub EachHasMembers : Type 0
EachHasMembers = OfWideRuns HaveMembers

-- each firm transaction is held by every member
abbrev pub MembersHold : Type 0
MembersHold = OfWideRuns AreHeldAfter

-- the log of each standby is a first part of its primary's
abbrev pub StandbysFollow : Type 0
StandbysFollow = OfWideRuns LogsAreShared

-- at each quiet moment, whether it is noted or not, both members of each virtual node are equal
abbrev pub QuietMembersAreEqual : Type 0
QuietMembersAreEqual = (shape : Shape) (run : Run) → IsClusterSize shape.nodes shape.spares → IsRun (system shape.nodes) shape run →
    IsQuiet (system shape.nodes) shape (world_after (system shape.nodes) shape run) → MembersAreEqual shape run

-- what each primary has is what the history says
abbrev pub ReplicasAgree : Type 0
ReplicasAgree = OfWideRuns (λ shape run. (v : ℕ) (replica : ReplicaState) → IsReplicaAfter shape run v replica →
    AgreesWithHistory (transcript_after shape run) (history_after shape run) shape.nodes v replica.part)

-- every run names true causes; a quiet moment of it is quiet
abbrev pub RunsNameTrueCauses : Type 0
RunsNameTrueCauses = (shape : Shape) (run : Run) → IsClusterSize shape.nodes shape.spares → IsRun (system shape.nodes) shape run → TrueCauses shape run

-- the lines of a transcript are those that its run was fed
abbrev pub LinesAreFed : Type 0
LinesAreFed = OfWideRuns (λ shape run. fed_lines (transcript_after shape run) ≡ feeds_in run)

-- a front at rest has answered every line
abbrev pub RestAnswersAll : Type 0
RestAnswersAll = OfWideRuns (λ shape run.
    is_core_at_rest FRONT ((world_after (system shape.nodes) shape run).actors FRONT).core ≡ true → EveryLineAnswered (transcript_after shape run))

-- the history of a longer run begins with that of the run
abbrev pub HistoriesGoOn : Type 0
HistoriesGoOn = (shape : Shape) (run more : Run) → IsClusterSize shape.nodes shape.spares → IsWideRun (system shape.nodes) shape (run ++ more) →
    (rest : List TxnId) × (history_after shape (run ++ more) ≡ history_after shape run ++ rest)

-- the log of a virtual node after a longer run begins with its log after the run
abbrev pub LogsGoOn : Type 0
LogsGoOn = (shape : Shape) (run more : Run) (v : ℕ) (before after : ReplicaState) → IsClusterSize shape.nodes shape.spares → IsWideRun (system shape.nodes) shape (run ++ more) →
    IsReplicaAfter shape run v before → IsReplicaAfter shape (run ++ more) v after → (rest : List LogEntry) × (after.part.log ≡ before.part.log ++ rest)

-- a transaction outside the history that nothing breaks is whole
abbrev pub RunsReplayUnbroken : Type 0
RunsReplayUnbroken = OfWideRuns UnbrokenReplays

-- and one that something breaks never becomes a member
abbrev pub RunsKeepBrokenOut : Type 0
RunsKeepBrokenOut = (shape : Shape) (run more : Run) → IsClusterSize shape.nodes shape.spares → IsWideRun (system shape.nodes) shape (run ++ more) → BrokenStaysOut shape run more
