-- What holds of ordered ledgers: what each step keeps, and what can be read off.
use Rattle.std.specs.Prelude.{◌≡◌, ◌↔◌, ℕ, Bool, true, false, List, ◌++◌, Some, All}
use Rattle.cl_types.specs.declared.operations.Mode.{Mode}
use Rattle.cl_types.specs.declared.operations.Mode.TheVariants.{Exclusive}
use Rattle.cl_types.specs.declared.operations.Op.{Op}
use Rattle.cl_types.specs.declared.operations.TxnId.{TxnId}
use Rattle.cl_types.specs.Places.{Place}
use Rattle.cl_log.specs.declared.records.LogRec.{LogRec}
use Rattle.cl_log.specs.LogEntry.{LogEntry}
use Rattle.cl_log.specs.Open.{has_ended, is_among}
use Rattle.cl_log.specs.Settled.{settled}
use Rattle.cl_serial.specs.PlainMap.{operations, no_values, RepliesAgree}
use Rattle.cl_serial.specs.Serial.{StandsAt, operations_of, values_after}
use Rattle.cl_serial.specs.Transactions.{commands_of}
use Rattle.cl_serial.specs.Transcript.{TranscriptEntry}
use Rattle.cl_order.specs.Operations.{mode_of, is_held}
use Rattle.cl_order.specs.Ledger.{Ledger, log_at, stored_at, lock_at, values_of, has_operation_at, asks_at, IsOrdered, IsWholeOn, IsWhole}
use Rattle.cl_order.specs.Steps.{Step, carry_out, prepare, decide, join, undo, finish, cut, after_step, IsEnabled, MayCut, IsSpared, after_steps, AreEnabled, new_ledger}

-- after the step the ledger is ordered, and each transaction that it spares is as whole as it was
pub record StaysOrdered (ledger : Ledger) (step : Step) : Type 0 where
  -- the ledger is ordered
  pub ordered : IsOrdered (after_step ledger step)
  -- whoever was whole on a virtual node and is spared there is whole there
  pub whole : (txn : TxnId) (v : ℕ) → IsSpared ledger step txn v → IsWholeOn ledger txn v → IsWholeOn (after_step ledger step) txn v

-- the step, where it is enabled, keeps an ordered ledger ordered, and whoever it spares whole
abbrev pub KeepsOrder : Ledger → Step → Type 0
KeepsOrder ledger step = IsOrdered ledger → IsEnabled ledger step → StaysOrdered ledger step

-- an operation that is carried out keeps order, and leaves all transactions whole
abbrev pub OperationsKeepOrder : Type 0
OperationsKeepOrder = (ledger : Ledger) (txn : TxnId) (place : Place) (op : Op) → KeepsOrder ledger (carry_out txn place op)

-- a Prepared keeps order, and leaves all transactions whole
abbrev pub PreparedKeepsOrder : Type 0
PreparedKeepsOrder = (ledger : Ledger) (v : ℕ) (txn : TxnId) → KeepsOrder ledger (prepare v txn)

-- a Decide keeps order, and leaves all transactions whole
abbrev pub DecideKeepsOrder : Type 0
DecideKeepsOrder = (ledger : Ledger) (v : ℕ) (txn : TxnId) → KeepsOrder ledger (decide v txn)

-- a whole transaction that joins the history keeps order, and leaves the others whole
abbrev pub JoiningKeepsOrder : Type 0
JoiningKeepsOrder = (ledger : Ledger) (txn : TxnId) → KeepsOrder ledger (join txn)

-- an undo step keeps order, and leaves the other transactions whole
abbrev pub UndoKeepsOrder : Type 0
UndoKeepsOrder = (ledger : Ledger) (v : ℕ) (content : LogRec) → KeepsOrder ledger (undo v content)

-- an End keeps order, and leaves the other transactions whole
abbrev pub EndKeepsOrder : Type 0
EndKeepsOrder = (ledger : Ledger) (v : ℕ) (txn : TxnId) (commit : Bool) → KeepsOrder ledger (finish v txn commit)

-- a log that loses an end keeps order, and leaves those whole that lose nothing
abbrev pub CutKeepsOrder : Type 0
CutKeepsOrder = (ledger : Ledger) (v : ℕ) (front : List LogEntry) → KeepsOrder ledger (cut v front)

-- each step keeps order, and leaves whole whoever it spares
abbrev pub StepsKeepOrder : Type 0
StepsKeepOrder = (ledger : Ledger) (step : Step) → KeepsOrder ledger step

-- a whole transaction that is spared everywhere stays whole
abbrev pub SparedStayWhole : Type 0
SparedStayWhole = (ledger : Ledger) (step : Step) (txn : TxnId) → IsOrdered ledger → IsEnabled ledger step → ((v : ℕ) → IsSpared ledger step txn v) →
    IsWhole ledger txn → IsWhole (after_step ledger step) txn

-- a ledger is ordered after any steps from the start, each enabled in its turn
abbrev pub StepsMakeOrder : Type 0
StepsMakeOrder = (on : Place → ℕ) (steps : List Step) → AreEnabled (new_ledger on) steps → IsOrdered (after_steps (new_ledger on) steps)

-- more steps may follow steps, and are done after them
abbrev pub StepsGoOn : Type 0
StepsGoOn = (ledger : Ledger) (steps more : List Step) → AreEnabled ledger steps → AreEnabled (after_steps ledger steps) more →
    AreEnabled ledger (steps ++ more) × (after_steps ledger (steps ++ more) ≡ after_steps (after_steps ledger steps) more)

-- no member stands at two positions of the history
abbrev pub MembersStandOnce : Type 0
MembersStandOnce = (ledger : Ledger) → IsOrdered ledger → (i j : ℕ) (name : TxnId) → StandsAt ledger.history i name → StandsAt ledger.history j name → i ≡ j

-- the members have done what a transcript says of them
abbrev pub IsToldBy : Ledger → List TranscriptEntry → Type 0
IsToldBy ledger transcript = (name : TxnId) → is_among name ledger.history ≡ true → ledger.done name ≡ operations (commands_of transcript name)

-- where a transcript tells what the members have done, the history replays with its replies, and each place settles to the map that this makes
abbrev pub HistoryReplays : Type 0
HistoryReplays = (ledger : Ledger) (transcript : List TranscriptEntry) → IsOrdered ledger → IsToldBy ledger transcript →
    RepliesAgree no_values (operations_of transcript ledger.history)
    × ((place : Place) → settled (log_at ledger place) ledger.history place ≡ values_after transcript ledger.history place)

-- the operations of a whole transaction, done on the map of the history, give the replies that were given
abbrev pub WholeReplays : Type 0
WholeReplays = (ledger : Ledger) (txn : TxnId) → IsOrdered ledger → IsWhole ledger txn → RepliesAgree (values_of ledger) (ledger.done txn)

-- a transaction is whole exactly where it is whole on each virtual node
abbrev pub WholeOnEach : Type 0
WholeOnEach = (ledger : Ledger) (txn : TxnId) → IsOrdered ledger → (IsWhole ledger txn ↔ ((v : ℕ) → IsWholeOn ledger txn v))

-- a transaction is whole on a virtual node where it has no operation
abbrev pub WholeWithoutOperations : Type 0
WholeWithoutOperations = (ledger : Ledger) (txn : TxnId) (v : ℕ) → IsOrdered ledger →
    ((place : Place) → ledger.on place ≡ v → has_operation_at (ledger.done txn) place ≡ false) → IsWholeOn ledger txn v

-- a member holds the lock of each of its operations until its End
abbrev pub MembersHoldLocks : Type 0
MembersHoldLocks = (ledger : Ledger) (txn : TxnId) → IsOrdered ledger → is_among txn ledger.history ≡ true →
    All (λ operation. has_ended (log_at ledger operation.place) txn ≡ false → is_held (lock_at ledger txn operation.place) (mode_of operation.op) ≡ true) (ledger.done txn)

-- whoever holds a lock has an operation there that asked for it
abbrev pub HoldersAsked : Type 0
HoldersAsked = (ledger : Ledger) (txn : TxnId) (place : Place) (mode : Mode) → IsOrdered ledger → lock_at ledger txn place ≡ Some mode → asks_at (ledger.done txn) place mode ≡ true

-- at a place that no transaction outside the history has locked exclusively, the store has what the map has
abbrev pub StoreIsMap : Type 0
StoreIsMap = (ledger : Ledger) (place : Place) → IsOrdered ledger → ((txn : TxnId) → lock_at ledger txn place ≡ Some Exclusive → is_among txn ledger.history ≡ true) →
    (stored_at ledger place).1 ≡ values_of ledger place

-- each beginning that a cut may leave settles to the map of the history
abbrev pub BeginningsSettleAlike : Type 0
BeginningsSettleAlike = (ledger : Ledger) (v : ℕ) (front : List LogEntry) → IsOrdered ledger → MayCut ledger v front →
    (place : Place) → ledger.on place ≡ v → settled front ledger.history place ≡ values_of ledger place
