-- What the replica of a virtual node has to do with the history.
use Rattle.std.specs.Prelude.{◌≡◌, ℕ, Bool, true, false, List, All}
use Rattle.cl_locks.specs.Grants.{mode_held}
use Rattle.cl_log.specs.declared.records.LogRec.{LogRec}
use Rattle.cl_log.specs.declared.records.LogRec.TheVariants.{Comp, End}
use Rattle.cl_log.specs.LogEntry.{LogEntry}
use Rattle.cl_log.specs.Locks.{locks_of_log, HasNoConflict}
use Rattle.cl_log.specs.Open.{has_ended, is_among}
use Rattle.cl_log.specs.Settled.{settled}
use Rattle.cl_order.specs.Operations.{mode_of, is_held}
use Rattle.cl_part.specs.State.{State}
use Rattle.cl_redo.specs.Redo.{IsStoreOf, AreLocksOf}
use Rattle.cl_serial.specs.PlainMap.{operations}
use Rattle.cl_serial.specs.Serial.{IsIn, values_after}
use Rattle.cl_serial.specs.Transactions.{commands_of}
use Rattle.cl_serial.specs.Transcript.{TranscriptEntry}
use Rattle.cl_types.specs.declared.operations.TxnId.{TxnId}
use Rattle.cl_types.specs.Placement.{virtual_node_of}
use Rattle.cl_types.specs.Places.{Place}
use Rattle.cl_types.specs.Transactions.{same_txn}

-- the record undoes a write of the transaction, or ends it
abbrev pub breaks : TxnId → LogRec → Bool
breaks txn (Comp other table key before undone form) = same_txn txn other
breaks txn (End other commit) = same_txn txn other
breaks txn content = false

-- the record undoes a write of the transaction, or ends it without commit
abbrev pub aborts : TxnId → LogRec → Bool
aborts txn (Comp other table key before undone form) = same_txn txn other
aborts txn (End other false) = same_txn txn other
aborts txn content = false

-- some record of the log breaks the transaction
abbrev pub HasBroken : List LogEntry → TxnId → Type 0
HasBroken log txn = (entry : LogEntry) × IsIn log entry × (breaks txn entry.content ≡ true)

-- the participant of a virtual node has what the history says
pub record AgreesWithHistory (transcript : List TranscriptEntry) (history : List TxnId) (nodes v : ℕ) (part : State) : Type 0 where
  -- each place of it settles to the map after the history
  pub settles : (place : Place) → virtual_node_of place.1 nodes ≡ v → settled part.log history place ≡ values_after transcript history place
  -- its store and its locks are those of its log
  pub store : IsStoreOf part.stored part.log
  pub locks : AreLocksOf (mode_held part.grants) part.log
  -- no two transactions hold conflicting locks
  pub apart : HasNoConflict part.log
  -- a member holds the lock of each of its operations until its End
  pub holds : (txn : TxnId) → is_among txn history ≡ true →
      All (λ operation. virtual_node_of operation.place.1 nodes ≡ v → has_ended part.log txn ≡ false →
      is_held (locks_of_log part.log txn operation.place) (mode_of operation.op) ≡ true)
      (operations (commands_of transcript txn))
  -- nothing of a member is undone, and none of it ends without commit
  pub one_outcome : (txn : TxnId) (entry : LogEntry) → is_among txn history ≡ true → IsIn part.log entry → aborts txn entry.content ≡ false
