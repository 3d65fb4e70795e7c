-- How a run ends: what it did with its source and its sink, and what is kept of it.
use Rattle.std.specs.Prelude.{◌≡◌, ◌≢◌, ℕ, ◌<◌, ◌≤◌, ◌⊎◌, Bool, List, [], ◌∷◌, ◌++◌, Option, None, IsSome, length, slice_index_or}
use Rattle.std.specs.Io.KnownBytes.{IsAtEnd}
use Rattle.cl_guarantee.specs.Causes.{TrueCauses}
use Rattle.cl_guarantee.specs.Held.{AreHeldAfter, HaveMembers, LogsAreShared, MembersAreEqual}
use Rattle.cl_guarantee.specs.Whole.{BrokenStaysOut, UnbrokenReplays}
use Rattle.cl_io.specs.Faults.{one_more}
use Rattle.cl_log.specs.LogEntry.{LogEntry}
use Rattle.cl_members.specs.Members.{transcript_after, history_after, IsReplicaAfter}
use Rattle.cl_runs.specs.World.{Shape, Run, Happening, world_after, IsQuiet, IsRun}
use Rattle.cl_schedule.specs.Schedule.{actor_in}
use Rattle.cl_schedule.specs.declared.setting.Setting.{Setting}
use Rattle.cl_serial.specs.Serial.{Serializable, EveryLineAnswered}
use Rattle.cl_serial.specs.Transcript.{transcript_of}
use Rattle.cl_settled.specs.Settled.{AgreesWithHistory}
use Rattle.cl_steps.specs.declared.actors.TheConstants.{FRONT}
use Rattle.cl_system.specs.System.{system}
use Rattle.cl_types.specs.AppendOnlyList.{entries}
use Rattle.cl_types.specs.declared.operations.TxnId.{TxnId}
use Rattle.cl_vnode.specs.Replica.{ReplicaState}
use Rattle.cl_world.specs.Left.{IsKeptOf}
use Rattle.cl_world.specs.declared.kept.Kept.{Kept}
use Rattle.clustra.specs.Run.{ReadsInput, WritesText, WritesAll, cluster, texts_in, full_text_with}
use Rattle.clustra.specs.declared.ended.TheConstants.{DONE, READ_FAULT, WRITE_FAULT, TOO_MUCH_INPUT, NO_MEMORY, UNFINISHED, SPENT}

-- what a run that ended with this status did with its source, by what the source tells
pub record EndsSource {S : Type 0} (left_of : S → Option (List ℕ)) (faults_of : S → ℕ) (before after : S) (status : ℕ) : Type 0 where
  -- at every status but these three the source is at its end
  pub end : (status ≡ READ_FAULT → ⊥) → (status ≡ TOO_MUCH_INPUT → ⊥) → (status ≡ NO_MEMORY → ⊥) → IsAtEnd (left_of after)
  -- a read that failed was counted once, and nothing else was
  pub read_fault : status ≡ READ_FAULT → faults_of after ≡ one_more (faults_of before)
  pub unfaulted : (status ≡ READ_FAULT → ⊥) → faults_of after ≡ faults_of before
  pub counted : faults_of before ≤ faults_of after

-- what a run that ended with this status wrote of this text, by what the sink tells
pub record EndsSink {K : Type 0} (written_of flushed_of : K → Option (List ℕ)) (faults_of : K → ℕ) (before after : K) (status : ℕ) (text : List ℕ) : Type 0 where
  -- a first part of the text was written
  pub written : WritesText (written_of before) (written_of after) text
  -- all of it at these statuses
  pub all : (status ≡ DONE) ⊎ ((status ≡ READ_FAULT) ⊎ ((status ≡ TOO_MUCH_INPUT) ⊎ (status ≡ UNFINISHED))) → WritesAll (written_of before) (written_of after) text
  -- the sink is as it was at these
  pub unwritten : (status ≡ READ_FAULT) ⊎ ((status ≡ TOO_MUCH_INPUT) ⊎ ((status ≡ NO_MEMORY) ⊎ (status ≡ SPENT))) → after ≡ before
  -- what was written is flushed at these
  pub flushed : (status ≡ DONE) ⊎ (status ≡ UNFINISHED) → flushed_of after ≡ written_of after
  -- a write or a flush that failed was counted once, and nothing else was
  pub write_fault : status ≡ WRITE_FAULT → faults_of after ≡ one_more (faults_of before)
  pub unfaulted : (status ≡ WRITE_FAULT → ⊥) → faults_of after ≡ faults_of before
  pub counted : faults_of before ≤ faults_of after

-- the guarantee, after a run: the history explains the transcript, each virtual node has two members, of which the primary has what the history says, and both hold what is firm
pub record IsGuaranteed (shape : Shape) (run : Run) : Type 0 where
  pub serializable : Serializable (transcript_after shape run) (history_after shape run)
  pub replicas : (v : ℕ) (replica : ReplicaState) → IsReplicaAfter shape run v replica →
      AgreesWithHistory (transcript_after shape run) (history_after shape run) shape.nodes v replica.part
  pub members : HaveMembers shape run
  pub follow : LogsAreShared shape run
  pub held : AreHeldAfter shape run
  -- what a transaction outside the history was answered fits the map after the history, unless something breaks the transaction
  pub unbroken : UnbrokenReplays shape run

-- a longer run keeps what the run has decided
pub record GoesOn (shape : Shape) (run more : Run) : Type 0 where
  -- its history begins with that of the run
  pub history : (rest : List TxnId) × (history_after shape (run ++ more) ≡ history_after shape run ++ rest)
  -- and so does the log of each virtual node
  pub logs : (v : ℕ) (before after : ReplicaState) → IsReplicaAfter shape run v before → IsReplicaAfter shape (run ++ more) v after →
      (rest : List LogEntry) × (after.part.log ≡ before.part.log ++ rest)
  -- what something has broken stays out of the history
  pub broken : BrokenStaysOut shape run more

-- all actors are there
pub record HasAllActors (kept : Kept) : Type 0 where
  pub front : IsSome kept.front
  pub nodes : (actor : ℕ) → actor < length kept.nodes.items → IsSome (slice_index_or kept.nodes.items actor None)

-- all actors are there but perhaps this one
pub record HasOtherActors (kept : Kept) (gone : ℕ) : Type 0 where
  pub front : gone ≢ FRONT → IsSome kept.front
  pub nodes : (actor : ℕ) → actor < length kept.nodes.items → gone ≢ actor → IsSome (slice_index_or kept.nodes.items actor None)

-- all actors are there but perhaps that of the next of these
abbrev pub HasActorsBeside : Kept → List Happening → Type 0
HasActorsBeside kept [] = HasAllActors kept
HasActorsBeside kept (happening ∷ rest) = HasOtherActors kept (actor_in happening)

-- a run that ended with this status, and what is kept of it
pub record Ran {S K : Type 0} (left_of : S → Option (List ℕ)) (source_faults : S → ℕ) (written_of flushed_of : K → Option (List ℕ)) (sink_faults : K → ℕ)
    (source_before source_after : S) (sink_before sink_after : K) (setting : Setting) (status : ℕ) (kept : Kept) : Type 0 where
  -- the trace is a run of the cluster, and the rest is what that run has left
  pub run : Run
  pub is_run : IsRun (system cluster.nodes) cluster run
  pub left : IsKeptOf cluster kept run
  pub there : (status ≡ NO_MEMORY → ⊥) → (status ≡ SPENT → ⊥) → HasAllActors kept
  -- the kept history explains the kept transcript
  pub serializable : Serializable (transcript_of kept.transcript) (entries kept.history)
  -- so it was after each first part of the run
  pub at_each : (front back : Run) → run ≡ front ++ back → IsGuaranteed cluster front
  -- at each quiet moment, whether it was noted or not, primary and standby of each virtual node were equal
  pub equal : (front back : Run) → run ≡ front ++ back →
      IsQuiet (system cluster.nodes) cluster (world_after (system cluster.nodes) cluster front) → MembersAreEqual cluster front
  -- what was decided after a first part of the run stayed so
  pub goes_on : (front more back : Run) → run ≡ (front ++ more) ++ back → GoesOn cluster front more
  -- each cause of an abort is true
  pub causes : TrueCauses cluster run
  -- a run that is done has answered every line
  pub answered : status ≡ DONE → EveryLineAnswered (transcript_of kept.transcript)
  -- after a read that failed and after too much input nothing was fed
  pub nothing_fed : (status ≡ READ_FAULT) ⊎ (status ≡ TOO_MUCH_INPUT) → run ≡ []
  -- the run is made of the lines that were read, turn by turn
  pub read : List ℕ
  pub unfinished : Bool
  pub reads : ReadsInput setting status (left_of source_before) (left_of source_after) read run (transcript_of kept.transcript) unfinished
  -- at every status each actor is there but perhaps that of the event that was to happen next
  pub others : HasActorsBeside kept reads.made.rest
  pub source_ends : EndsSource left_of source_faults source_before source_after status
  -- and a first part of its text was written
  pub sink_ends : EndsSink written_of flushed_of sink_faults sink_before sink_after status (full_text_with (texts_in read) (transcript_of kept.transcript) unfinished)
