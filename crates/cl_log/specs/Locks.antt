-- The locks of a log.
use Rattle.std.specs.Prelude.{Bool, true, false, if◌then◌else◌, List, Option, Some, None, fold, ◌≡◌}
use Rattle.cl_types.specs.declared.operations.Mode.{Mode}
use Rattle.cl_types.specs.declared.operations.Mode.TheVariants.{Exclusive}
use Rattle.cl_types.specs.declared.operations.TxnId.{TxnId}
use Rattle.cl_types.specs.Modes.{stronger, is_conflict}
use Rattle.cl_types.specs.Places.{Place, same_place}
use Rattle.cl_log.specs.declared.records.LogRec.{LogRec}
use Rattle.cl_log.specs.declared.records.LogRec.TheVariants.{Touch, Set, Add}
use Rattle.cl_log.specs.LogEntry.{LogEntry}
use Rattle.cl_log.specs.Kind.{is_of, is_end}
use Rattle.cl_log.specs.Open.{is_open}

-- the mode in which a record locks a place: a Touch its own, a Set and an Add exclusive
abbrev pub mode_at : Place → LogRec → Option Mode
mode_at place (Touch txn table key mode) = if same_place (table, key) place then Some mode else None
mode_at place (Set txn table key before old new) = if same_place (table, key) place then Some Exclusive else None
mode_at place (Add txn table key before amount) = if same_place (table, key) place then Some Exclusive else None
mode_at place content = None

-- the mode of a transaction at a place after one more record
abbrev pub mode_after : TxnId → Place → Option Mode → LogEntry → Option Mode
mode_after txn place mode entry = if is_of txn entry.content then stronger mode (mode_at place entry.content) else mode

-- the strongest mode of a transaction's records at a place
unfoldable pub strongest_mode : List LogEntry → TxnId → Place → Option Mode
strongest_mode entries txn place = fold (mode_after txn place) None entries

-- the locks of a log: for each open transaction, the places of its Touch, Set and Add records with the strongest mode there
unfoldable pub locks_of_log : List LogEntry → TxnId → Place → Option Mode
locks_of_log entries txn place = if is_open entries txn then strongest_mode entries txn place else None

-- what takes a lock: a Touch, Set or Add
abbrev pub takes_lock : LogRec → Bool
takes_lock (Touch txn table key mode) = true
takes_lock (Set txn table key before old new) = true
takes_lock (Add txn table key before amount) = true
takes_lock content = false

-- the locks after one more record: an End frees the locks of its transaction, what takes a lock makes it at least as strong as it asks
abbrev pub locks_after : (TxnId → Place → Option Mode) → LogEntry → TxnId → Place → Option Mode
locks_after locks entry txn place =
    if is_of txn entry.content then (if is_end entry.content then None else stronger (locks txn place) (mode_at place entry.content)) else locks txn place

-- no two transactions have conflicting locks
abbrev pub HasNoConflict : List LogEntry → Type 0
HasNoConflict entries =
    (a b : TxnId) (place : Place) → is_conflict (locks_of_log entries a place) (locks_of_log entries b place) ≡ true → a ≡ b
