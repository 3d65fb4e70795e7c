-- What taking records one after another leaves.
use Rattle.std.specs.Prelude.{◌≡◌, List, [], ◌∷◌, ◌++◌, Option, None}
use Rattle.cl_types.specs.declared.operations.Mode.{Mode}
use Rattle.cl_types.specs.declared.operations.TxnId.{TxnId}
use Rattle.cl_types.specs.Places.{Place, Stored}
use Rattle.cl_log.specs.LogEntry.{LogEntry, IsNumberedFrom, EachAfter, BeginsWith}
use Rattle.cl_log.specs.Locks.{locks_after, HasNoConflict}
use Rattle.cl_log.specs.Store.{redo_by_guard, later, store_of_log, IsConsistentLog, IsCopyAfter}
use Rattle.cl_locks.specs.declared.locks.Locks.{Locks}
use Rattle.cl_locks.specs.Table.{held}
use Rattle.cl_redo.specs.Condition.{MeetsWrite, IsUnended}
use Rattle.cl_redo.specs.Redo.{IsStoreOf, AreLocksOf}

-- the records are taken one after another: what stands at each place, and what each transaction holds, before and after
abbrev pub TakesInTurn : List LogEntry → (Place → Stored) → (TxnId → Place → Option Mode) → (Place → Stored) → (TxnId → Place → Option Mode) → Type 0
TakesInTurn [] stored held stored_last held_last =
    ((place : Place) → stored_last place ≡ stored place) × ((txn : TxnId) (place : Place) → held_last txn place ≡ held txn place)
TakesInTurn (entry ∷ entries) stored held stored_last held_last =
    (stored_next : Place → Stored) × (held_next : TxnId → Place → Option Mode)
    × ((place : Place) → stored_next place ≡ redo_by_guard place (stored place) entry)
    × ((txn : TxnId) (place : Place) → held_next txn place ≡ locks_after held entry txn place)
    × TakesInTurn entries stored_next held_next stored_last held_last

-- in a consistent log, where each Touch, Set or Add is of a transaction without End before it, taking its records from the first leaves its store and its locks
abbrev pub TakingGivesStoreAndLocks : Type 0
TakingGivesStoreAndLocks = (log : List LogEntry) (stored : Place → Stored) (held : TxnId → Place → Option Mode) →
    IsConsistentLog log → EachAfter (λ seen entry. IsUnended seen entry.content) [] log →
    TakesInTurn log (λ _. (0, None)) (λ _ _. None) stored held → IsStoreOf stored log × AreLocksOf held log

-- from no locks, on whatever store, taking records of which each Touch, Set or Add is of a transaction without End before it leaves
-- the locks of these records, as where a spare's records begin at a later number
abbrev pub TakingGivesLocks : Type 0
TakingGivesLocks = (records : List LogEntry) (stored_first stored : Place → Stored) (held : TxnId → Place → Option Mode) →
    EachAfter (λ seen entry. IsUnended seen entry.content) [] records →
    TakesInTurn records stored_first (λ _ _. None) stored held → AreLocksOf held records

-- on a copy that has each place as some moment after the first records left it, taking the records that follow them leaves at each
-- place the later of what the copy had and what the log gives
abbrev pub TakingOnCopyLeavesLater : Type 0
TakingOnCopyLeavesLater = (log first records : List LogEntry) (copy stored : Place → Stored) (held_first held : TxnId → Place → Option Mode) →
    IsNumberedFrom 1 log → IsConsistentLog log → BeginsWith log (first ++ records) → IsCopyAfter log first copy →
    TakesInTurn records copy held_first stored held → (place : Place) → stored place ≡ later (copy place) (store_of_log (first ++ records) place)

-- and on the way each write meets what stands at its place
abbrev pub TakingOnCopyMeetsWrites : Type 0
TakingOnCopyMeetsWrites = (log first records : List LogEntry) (entry : LogEntry) (rest : List LogEntry) (copy stored : Place → Stored) (held_first held : TxnId → Place → Option Mode) →
    IsNumberedFrom 1 log → IsConsistentLog log → log ≡ first ++ records ++ entry ∷ rest → IsCopyAfter log first copy →
    TakesInTurn records copy held_first stored held → MeetsWrite stored entry

-- a log whose locks a table holds has no conflict
abbrev pub TablesHaveNoConflict : Type 0
TablesHaveNoConflict = (locks : Locks) (log : List LogEntry) → AreLocksOf (held locks) log → HasNoConflict log
