-- A ledger, and when it is in one serial order.
use Rattle.std.specs.Prelude.{◌≡◌, ℕ, Bool, true, ◌&&◌, ◌==◌, List, [], Option, Some, All, filter}
use Rattle.std.specs.List.{IsDistinct, list_any, flat_map}
use Rattle.cl_types.specs.declared.operations.Mode.{Mode}
use Rattle.cl_types.specs.declared.operations.Mode.TheVariants.{Exclusive}
use Rattle.cl_types.specs.declared.operations.TxnId.{TxnId}
use Rattle.cl_types.specs.Places.{Place, Stored, same_place}
use Rattle.cl_types.specs.Transactions.{same_txn}
use Rattle.cl_log.specs.LogEntry.{LogEntry, IsNumberedFrom, EachAfter}
use Rattle.cl_log.specs.Kind.{txn_of}
use Rattle.cl_log.specs.Lawful.{IsLawfulLog}
use Rattle.cl_log.specs.Locks.{mode_at, strongest_mode, locks_of_log}
use Rattle.cl_log.specs.Open.{is_among}
use Rattle.cl_log.specs.Settled.{settled}
use Rattle.cl_log.specs.Store.{store_of_log}
use Rattle.cl_serial.specs.PlainMap.{Values, Operation, no_values, after_operations, RepliesAgree}
use Rattle.cl_order.specs.Operations.{mode_of, is_held}

-- the logs of all virtual nodes, the history, and what each transaction has done
pub record Ledger : Type 0 where
  -- the virtual node of a place
  pub on : Place → ℕ
  -- the log of each virtual node
  pub logs : ℕ → List LogEntry
  -- the transactions that have joined it, in the order of their joining
  pub history : List TxnId
  -- the operations that each transaction has carried out, with their replies, in order
  pub done : TxnId → List Operation

-- the log in which a place is
abbrev pub log_at : Ledger → Place → List LogEntry
log_at ledger place = ledger.logs (ledger.on place)

-- what stands at a place
abbrev pub stored_at : Ledger → Place → Stored
stored_at ledger place = store_of_log (log_at ledger place) place

-- the lock of a transaction at a place
abbrev pub lock_at : Ledger → TxnId → Place → Option Mode
lock_at ledger txn place = locks_of_log (log_at ledger place) txn place

-- the operations of the history's members, one member after another
abbrev pub member_operations : Ledger → List Operation
member_operations ledger = flat_map ledger.done ledger.history

-- the map of the history: what these operations make of the empty map
abbrev pub values_of : Ledger → Values
values_of ledger = after_operations no_values (member_operations ledger)

-- whether some operation is at the place
abbrev pub has_operation_at : List Operation → Place → Bool
has_operation_at list place = list_any (λ operation. same_place operation.place place) list

-- whether some operation at the place asks for a lock as strong as the mode
abbrev pub asks_at : List Operation → Place → Mode → Bool
asks_at list place mode = list_any (λ operation. same_place operation.place place && is_held (Some (mode_of operation.op)) mode) list

-- what a record locks, an operation of its transaction has asked for
abbrev pub LocksForOperation : (TxnId → List Operation) → LogEntry → Type 0
LocksForOperation done entry = (place : Place) (mode : Mode) → mode_at place entry.content ≡ Some mode → asks_at (done (txn_of entry.content)) place mode ≡ true

-- a ledger is in one serial order: that of its history
pub record IsOrdered (ledger : Ledger) : Type 0 where
  -- each log is numbered from 1
  pub numbered : (v : ℕ) → IsNumberedFrom 1 (ledger.logs v)
  -- each of its records is lawful after those before it
  pub lawful : (v : ℕ) → IsLawfulLog ledger.history (ledger.logs v)
  -- what its records lock, operations have asked for
  pub for_operations : (v : ℕ) → EachAfter (λ _ entry. LocksForOperation ledger.done entry) [] (ledger.logs v)
  -- each place settles to the map of the history
  pub settles : (place : Place) → settled (log_at ledger place) ledger.history place ≡ values_of ledger place
  -- the members' operations, done one after another on the empty map, give the replies that were given
  pub replies : RepliesAgree no_values (member_operations ledger)
  -- no member stands twice in the history
  pub distinct : IsDistinct same_txn ledger.history
  -- the records of a member lock what each of its operations asks for
  pub locked : (txn : TxnId) → is_among txn ledger.history ≡ true →
      All (λ operation. is_held (strongest_mode (log_at ledger operation.place) txn operation.place) (mode_of operation.op) ≡ true) (ledger.done txn)

-- the operations on a virtual node
abbrev pub operations_on : Ledger → ℕ → List Operation → List Operation
operations_on ledger v list = filter (λ operation. ledger.on operation.place == v) list

-- a transaction is whole on a virtual node: as far as this log goes, it may join the history
pub record IsWholeOn (ledger : Ledger) (txn : TxnId) (v : ℕ) : Type 0 where
  -- it holds the lock of each of its operations there
  pub locked : All (λ operation. ledger.on operation.place ≡ v → is_held (locks_of_log (ledger.logs v) txn operation.place) (mode_of operation.op) ≡ true) (ledger.done txn)
  -- these operations, done on the map of the history, give the replies that were given
  pub replayed : RepliesAgree (values_of ledger) (operations_on ledger v (ledger.done txn))
  -- where it has an exclusive lock, the store has what they leave
  pub written : (place : Place) → ledger.on place ≡ v → locks_of_log (ledger.logs v) txn place ≡ Some Exclusive →
      (store_of_log (ledger.logs v) place).1 ≡ after_operations (values_of ledger) (ledger.done txn) place

-- a transaction is whole: it is so on the virtual node of each of its operations
abbrev pub IsWhole : Ledger → TxnId → Type 0
IsWhole ledger txn = All (λ operation. IsWholeOn ledger txn (ledger.on operation.place)) (ledger.done txn)
