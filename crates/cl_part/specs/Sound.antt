-- A replica of a log, a sound participant, and what each call keeps.
use Rattle.std.specs.Prelude.{◌≡◌, ℕ, ◌+◌, ◌≤◌, false, true, List, ◌∷◌, ◌++◌, length, ◌<◌}
use Rattle.cl_types.specs.declared.operations.TxnId.{TxnId}
use Rattle.cl_types.specs.Places.{Place}
use Rattle.cl_log.specs.declared.records.LogRec.{LogRec}
use Rattle.cl_log.specs.LogEntry.{LogEntry, IsNumberedFrom}
use Rattle.cl_log.specs.Kind.{txn_of, undoes}
use Rattle.cl_log.specs.Lawful.{UndoesInOrder}
use Rattle.cl_log.specs.Locks.{takes_lock, HasNoConflict}
use Rattle.cl_log.specs.Open.{has_ended, is_open, is_among, low_of}
use Rattle.cl_log.specs.Rest.{is_undone, rest_to_undo}
use Rattle.cl_log.specs.Settled.{settled}
use Rattle.cl_locks.specs.Grants.{mode_held}
use Rattle.cl_order.specs.Steps.{log_with, log_with_optional}
use Rattle.cl_redo.specs.Redo.{IsStoreOf, AreLocksOf}
use Rattle.cl_part.specs.declared.part.Part.{Part}
use Rattle.cl_part.specs.Calls.{Call, ask_op, undo_one, record_of_call, after_undo, after_call}
use Rattle.cl_part.specs.State.{State, IsStateOf, IsBelowNext, new_state, after_record}

-- the log that is kept is an end of the full log, in which the same is left to undo of each transaction without End
pub record IsEndOf (full kept : List LogEntry) : Type 0 where
  pub before : List LogEntry
  pub whole : full ≡ before ++ kept
  pub rests : (txn : TxnId) → has_ended full txn ≡ false → rest_to_undo kept txn ≡ rest_to_undo full txn

-- a replica of a full log: its store and its locks are those of the full log, of which it keeps an end
pub record IsReplicaOf (full : List LogEntry) (state : State) : Type 0 where
  pub numbered : IsNumberedFrom 1 full
  pub next : state.next ≡ length full + 1
  pub store : IsStoreOf state.stored full
  pub locks : AreLocksOf (mode_held state.grants) full
  pub kept : IsEndOf full state.log
  -- no compensation names a number that is still to come
  pub fresh : (number : ℕ) → state.next ≤ number → is_undone full number ≡ false

-- a sound participant is a replica of the log that it keeps
abbrev pub IsSound : State → Type 0
IsSound state = IsReplicaOf state.log state

-- a new participant, whose log begins with 1, is sound
abbrev pub NewIsSound : Type 0
NewIsSound = IsSound (new_state 1)

-- a replica has no stored number above its last log number
abbrev pub ReplicaIsBelowNext : Type 0
ReplicaIsBelowNext = (full : List LogEntry) (part : Part) (state : State) → IsStateOf part state → IsReplicaOf full state → IsBelowNext part

-- a record names no number as undone that is still to come
abbrev pub NamesBelow : ℕ → LogRec → Type 0
NamesBelow next content = (number : ℕ) → undoes number content ≡ true → number < next

-- one more record, under the next number, keeps a replica; what takes a lock is of a transaction without End
abbrev pub RecordsKeepReplica : Type 0
RecordsKeepReplica = (full : List LogEntry) (state : State) (content : LogRec) → IsReplicaOf full state → (takes_lock content ≡ true → has_ended full (txn_of content) ≡ false) →
    NamesBelow state.next content → IsReplicaOf (log_with full content) (after_record state content)

-- what a call needs to keep a replica: an operation is of a transaction without End
abbrev pub IsUnended : List LogEntry → Call → Type 0
IsUnended full (ask_op txn place op) = has_ended full txn ≡ false
IsUnended full call = Unit {0}

-- each call keeps a replica: of the full log with the record that the call appends
abbrev pub CallsKeepReplica : Type 0
CallsKeepReplica = (full : List LogEntry) (state : State) (call : Call) → IsReplicaOf full state → IsUnended full call →
    IsReplicaOf (log_with_optional full (record_of_call state call)) (after_call state call)

-- so it keeps a participant sound
abbrev pub CallsKeepSound : Type 0
CallsKeepSound = (state : State) (call : Call) → IsSound state → IsUnended state.log call → IsSound (after_call state call)

-- a replica may keep the end alone that begins at most with the low number of its full log
abbrev pub CutKeepsReplica : Type 0
CutKeepsReplica = (full : List LogEntry) (state : State) (before kept : List LogEntry) → IsReplicaOf full state → UndoesInOrder full → full ≡ before ++ kept →
    1 + length before ≤ low_of full (1 + length full) → IsReplicaOf full (record state { log = kept })

-- an undo step takes the first of what is left to undo
abbrev pub UndoTakesFirst : Type 0
UndoTakesFirst = (full : List LogEntry) (state : State) (txn : TxnId) (first : LogEntry) (others : List LogEntry) → IsReplicaOf full state →
    rest_to_undo state.log txn ≡ first ∷ others → rest_to_undo (after_undo state txn).log txn ≡ others

-- it leaves the settled map under each history without its transaction, so a rollback that was cut off continues to the same map
abbrev pub UndoKeepsMap : Type 0
UndoKeepsMap = (full : List LogEntry) (state : State) (txn : TxnId) (history : List TxnId) (place : Place) → IsReplicaOf full state → is_open full txn ≡ true → HasNoConflict full →
    is_among txn history ≡ false → settled (log_with_optional full (record_of_call state (undo_one txn))) history place ≡ settled full history place
