-- What taking a record does to a store and to locks.
use Rattle.std.specs.Prelude.{◌≡◌, ℕ, Bool, true, false, ◌==◌, if◌then◌else◌, List, Option}
use Rattle.cl_types.specs.declared.operations.Mode.{Mode}
use Rattle.cl_types.specs.declared.operations.Mode.TheVariants.{Exclusive}
use Rattle.cl_types.specs.declared.operations.TxnId.{TxnId}
use Rattle.cl_types.specs.Places.{Place, Stored, same_place}
use Rattle.cl_log.specs.declared.records.LogRec.{LogRec}
use Rattle.cl_log.specs.declared.records.LogRec.TheVariants.{Touch, Set, Add, Comp, Prepared, End, Decide}
use Rattle.cl_log.specs.LogEntry.{LogEntry}
use Rattle.cl_log.specs.Store.{store_of_log}
use Rattle.cl_log.specs.Locks.{locks_of_log}
use Rattle.cl_locks.specs.Grants.{Grant, after_grant, without_txn}
use Rattle.cl_redo.specs.declared.redone.Redone.{Redone}
use Rattle.cl_redo.specs.declared.redone.Redone.TheVariants.{Applied, Skipped, Marked}

-- how a write is redone on a state number: by guard, where it is the one that its record had before it
abbrev pub redone_on : ℕ → ℕ → Redone
redone_on number before = if number == before then Applied else Skipped

-- how a record is redone, by what stands at each place; what writes nothing is marked
abbrev pub redone_as : (Place → Stored) → LogRec → Redone
redone_as stored (Set txn table key before old new) = redone_on (stored (table, key)).0 before
redone_as stored (Add txn table key before amount) = redone_on (stored (table, key)).0 before
redone_as stored (Comp txn table key before undone form) = redone_on (stored (table, key)).0 before
redone_as stored content = Marked

-- the grants at a place after a lock was granted: changed at the lock's own place alone
abbrev pub with_lock : TxnId → Place → Mode → Place → List Grant → List Grant
with_lock txn own mode place grants = if same_place own place then after_grant grants (record { txn = txn; place = own; mode = mode }) else grants

-- the grants at a place after a record: a Touch, Set and Add enter their lock, an End frees those of its transaction
abbrev pub grants_after : LogRec → Place → List Grant → List Grant
grants_after (Touch txn table key mode) place grants = with_lock txn (table, key) mode place grants
grants_after (Set txn table key before old new) place grants = with_lock txn (table, key) Exclusive place grants
grants_after (Add txn table key before amount) place grants = with_lock txn (table, key) Exclusive place grants
grants_after (End txn commit) place grants = without_txn txn grants
grants_after content place grants = grants

-- what writes nothing and locks nothing: it is taken without memory where the log has room
abbrev pub needs_no_memory : LogRec → Bool
needs_no_memory (Prepared txn) = true
needs_no_memory (End txn commit) = true
needs_no_memory (Decide txn) = true
needs_no_memory content = false

-- what stands at each place is the store of the log
abbrev pub IsStoreOf : (Place → Stored) → List LogEntry → Type 0
IsStoreOf stored entries = (place : Place) → stored place ≡ store_of_log entries place

-- what each transaction holds at each place are the locks of the log
abbrev pub AreLocksOf : (TxnId → Place → Option Mode) → List LogEntry → Type 0
AreLocksOf held entries = (txn : TxnId) (place : Place) → held txn place ≡ locks_of_log entries txn place
