-- What holds of every log: how what follows from it changes with one more record, and what undoing and redoing keep.
use Rattle.std.specs.Prelude.{◌≡◌, ◌≢◌, ℕ, ◌+◌, ◌<◌, ◌≤◌, ◌⊎◌, true, false, List, [], ◌∷◌, ◌++◌, length, Some, ℤ, ◌+ℤ◌}
use Rattle.std.specs.List.{IsDistinct}
use Rattle.cl_types.specs.declared.operations.Mode.TheVariants.{Exclusive}
use Rattle.cl_types.specs.declared.operations.TxnId.{TxnId}
use Rattle.cl_types.specs.Decimal.{number, is_signed_64}
use Rattle.cl_types.specs.Modes.{is_conflict}
use Rattle.cl_types.specs.Places.{Place, Stored}
use Rattle.cl_types.specs.Transactions.{same_txn}
use Rattle.cl_log.specs.declared.records.LogRec.TheVariants.{Add}
use Rattle.cl_log.specs.LogEntry.{LogEntry, IsNumberedFrom, EachAfter, BeginsWith}
use Rattle.cl_log.specs.Kind.{txn_of, is_end, is_mark, can_be_undone, writes, number_before}
use Rattle.cl_log.specs.Lawful.{UndoesInOrder, IsLawfulLog, LosesEndsOfMembers}
use Rattle.cl_log.specs.Locks.{mode_at, takes_lock, locks_after, locks_of_log, HasNoConflict}
use Rattle.cl_log.specs.Open.{has_ended, is_open, is_among, is_under_way, stage_of, chain_of, low_of, unended_of}
use Rattle.cl_log.specs.Rest.{is_undone, times_undone, rest_to_undo, undo_of}
use Rattle.cl_log.specs.Settled.{settled, IsReversible}
use Rattle.cl_log.specs.Store.{stored_after, store_of_log, redone, later, IsConsistentLog, IsCopyAfter}

-- one more record changes the store at the place of its write alone
abbrev pub StoreFollowsRecords : Type 0
StoreFollowsRecords = (entries : List LogEntry) (entry : LogEntry) (place : Place) →
    store_of_log (entries ++ entry ∷ []) place ≡ stored_after place (store_of_log entries place) entry

-- redo by guard of the records after the first ones, on a copy that has each place as some moment after the first ones left it,
-- leaves at each place the later of what the copy had and what the log left
abbrev pub RedoLeavesLater : Type 0
RedoLeavesLater = (log first records : List LogEntry) (copy : Place → Stored) → IsNumberedFrom 1 log → IsConsistentLog log →
    BeginsWith log (first ++ records) → IsCopyAfter log first copy → (place : Place) →
    redone records place (copy place) ≡ later (copy place) (store_of_log (first ++ records) place)

-- on the way each write, whose number before is below its own, finds that number before, or at least its own
abbrev pub RedoMeetsGuard : Type 0
RedoMeetsGuard = (log first records : List LogEntry) (entry : LogEntry) (rest : List LogEntry) (copy : Place → Stored) → IsNumberedFrom 1 log → IsConsistentLog log →
    log ≡ first ++ records ++ entry ∷ rest → IsCopyAfter log first copy → (place : Place) → writes place entry.content ≡ true →
    (number_before entry.content < entry.number)
    × (((redone records place (copy place)).0 ≡ number_before entry.content) ⊎ (entry.number ≤ (redone records place (copy place)).0))

-- one more record changes the locks of its own transaction alone
abbrev pub LocksFollowRecords : Type 0
LocksFollowRecords = (entries : List LogEntry) (entry : LogEntry) (txn : TxnId) (place : Place) →
    (takes_lock entry.content ≡ true → has_ended entries (txn_of entry.content) ≡ false) →
    locks_of_log (entries ++ entry ∷ []) txn place ≡ locks_after (locks_of_log entries) entry txn place

-- an undo step: the entry undoes the first of the rest of a transaction
pub record UndoStep (entries : List LogEntry) (txn : TxnId) (first : LogEntry) (others : List LogEntry) (entry : LogEntry) : Type 0 where
  pub rest : rest_to_undo entries txn ≡ first ∷ others
  pub now : ℕ
  pub undoes : entry.content ≡ undo_of first.content first.number now

-- it takes the first of that rest, and nothing of the rest of another transaction
abbrev pub UndoTakesFirst : Type 0
UndoTakesFirst = (entries : List LogEntry) (n : ℕ) (txn : TxnId) (first : LogEntry) (others : List LogEntry) (entry : LogEntry) → IsNumberedFrom n entries →
    UndoStep entries txn first others entry → (other : TxnId) →
    (rest_to_undo (entries ++ entry ∷ []) txn ≡ others) × (other ≢ txn → rest_to_undo (entries ++ entry ∷ []) other ≡ rest_to_undo entries other)

-- it leaves the settled map under each history without the transaction
abbrev pub UndoKeepsSettled : Type 0
UndoKeepsSettled = (entries : List LogEntry) (n : ℕ) (txn : TxnId) (first : LogEntry) (others : List LogEntry) (entry : LogEntry) → IsNumberedFrom n entries →
    UndoStep entries txn first others entry → is_open entries txn ≡ true → HasNoConflict entries →
    (history : List TxnId) → is_among txn history ≡ false → (place : Place) → settled (entries ++ entry ∷ []) history place ≡ settled entries history place

-- where each compensation undoes the first of the rest of its transaction, each write is undone once at most
abbrev pub WritesUndoneOnce : Type 0
WritesUndoneOnce = (entries : List LogEntry) → UndoesInOrder entries → (number : ℕ) → times_undone entries number ≤ 1

-- what else leaves the settled map
pub data IsSettling (entries : List LogEntry) (history : List TxnId) (entry : LogEntry) : Type 0 where
  -- a Touch, Prepared or Decide
  mark : is_mark entry.content ≡ true → IsSettling entries history entry
  -- a reversible Set or Add, not yet undone, of a transaction without End that is not in the history
  write : can_be_undone entry.content ≡ true → has_ended entries (txn_of entry.content) ≡ false → is_among (txn_of entry.content) history ≡ false →
      is_undone entries entry.number ≡ false → IsReversible entries entry.content → IsSettling entries history entry
  -- the End of a transaction of the history, or of one with nothing left to undo
  end : is_end entry.content ≡ true → (is_among (txn_of entry.content) history ≡ true) ⊎ (rest_to_undo entries (txn_of entry.content) ≡ []) → IsSettling entries history entry

-- one more such record leaves each place's settled value
abbrev pub RecordsKeepSettled : Type 0
RecordsKeepSettled = (entries : List LogEntry) (history : List TxnId) (entry : LogEntry) → IsSettling entries history entry →
    (place : Place) → settled (entries ++ entry ∷ []) history place ≡ settled entries history place

-- the low number is the least number of a record of an open transaction, or the next number where none is open
pub record IsLeastOpen (entries : List LogEntry) (next low : ℕ) : Type 0 where
  pub at_most_next : low ≤ next
  pub least : (before : List LogEntry) (entry : LogEntry) (after : List LogEntry) → entries ≡ before ++ entry ∷ after → is_open entries (txn_of entry.content) ≡ true → low ≤ entry.number
  pub found : (low ≡ next) ⊎ ((before : List LogEntry) × (entry : LogEntry) × (after : List LogEntry) × (entries ≡ before ++ entry ∷ after) × (is_open entries (txn_of entry.content) ≡ true) × (low ≡ entry.number))

-- the low number is the least number of a record of an open transaction, or the next number where none is open
abbrev pub LowIsLeastOpen : Type 0
LowIsLeastOpen = (entries : List LogEntry) (n : ℕ) → IsNumberedFrom n entries → IsLeastOpen entries (n + length entries) (low_of entries (n + length entries))

-- the unended transactions are the open ones, each once
abbrev pub UnendedAreOpen : Type 0
UnendedAreOpen = (entries : List LogEntry) → IsDistinct same_txn (unended_of entries) × ((txn : TxnId) → is_among txn (unended_of entries) ≡ is_open entries txn)

-- they stand by their first log numbers: of two, the one that is listed first has the lesser number
abbrev pub UnendedByFirstNumber : Type 0
UnendedByFirstNumber = (entries : List LogEntry) (n : ℕ) (front middle back : List TxnId) (a b : TxnId) (i j : ℕ) (is js : List ℕ) → IsNumberedFrom n entries →
    unended_of entries ≡ front ++ a ∷ (middle ++ b ∷ back) → chain_of entries a ≡ i ∷ is → chain_of entries b ≡ j ∷ js → i < j

-- a transaction is open exactly where its stage is running or prepared
abbrev pub OpenByStage : Type 0
OpenByStage = (entries : List LogEntry) (txn : TxnId) → is_open entries txn ≡ is_under_way (stage_of entries txn)

-- one more member of the history leaves the settled map where it has no exclusive lock, and where a member has one the settled map is the store
abbrev pub HistorySettlesLocks : Type 0
HistorySettlesLocks = (entries : List LogEntry) (history : List TxnId) (txn : TxnId) (place : Place) →
    (locks_of_log entries txn place ≢ Some Exclusive → settled entries (history ++ txn ∷ []) place ≡ settled entries history place)
    × (HasNoConflict entries → is_among txn history ≡ true → locks_of_log entries txn place ≡ Some Exclusive → settled entries history place ≡ (store_of_log entries place).1)

-- a log of which no more is cut off than what is below its low number keeps its locks, where each Touch, Set or Add is of a transaction
-- without End before it
abbrev pub CutKeepsLocks : Type 0
CutKeepsLocks = (entries below kept : List LogEntry) (n : ℕ) (txn : TxnId) (place : Place) → IsNumberedFrom n entries →
    EachAfter (λ seen entry. takes_lock entry.content ≡ true → has_ended seen (txn_of entry.content) ≡ false) [] entries →
    entries ≡ below ++ kept → n + length below ≤ low_of entries (n + length entries) → locks_of_log kept txn place ≡ locks_of_log entries txn place

-- at a place that no transaction outside the history has locked exclusively, the settled map is the store
abbrev pub FreePlacesAreSettled : Type 0
FreePlacesAreSettled = (entries : List LogEntry) (history : List TxnId) (place : Place) →
    ((txn : TxnId) → locks_of_log entries txn place ≡ Some Exclusive → is_among txn history ≡ true) → settled entries history place ≡ (store_of_log entries place).1

-- an Add to a number, with its sum within 64 bits, can be reversed
abbrev pub AdditionsAreReversible : Type 0
AdditionsAreReversible = (seen : List LogEntry) (txn : TxnId) (table key : List ℕ) (before : ℕ) (amount : ℤ) (value : List ℕ) (augend : ℤ) →
    (store_of_log seen (table, key)).1 ≡ Some value → number value ≡ Some augend → is_signed_64 (augend +ℤ amount) ≡ true → IsReversible seen (Add txn table key before amount)

-- no compensation names a number that is still to come
abbrev pub NextIsNotUndone : Type 0
NextIsNotUndone = (entries : List LogEntry) (n number : ℕ) → IsNumberedFrom n entries → UndoesInOrder entries → n + length entries ≤ number → is_undone entries number ≡ false

-- no beginning of a lawful log has a conflict
abbrev pub LawfulLogsHaveNoConflict : Type 0
LawfulLogsHaveNoConflict = (history : List TxnId) (front rest : List LogEntry) → IsLawfulLog history (front ++ rest) → HasNoConflict front

-- a beginning of a lawful log that has all records of members but their Ends settles as the log does
abbrev pub BeginningsKeepSettled : Type 0
BeginningsKeepSettled = (entries front lost : List LogEntry) (n : ℕ) (history : List TxnId) → IsNumberedFrom n entries → IsLawfulLog history entries →
    entries ≡ front ++ lost → LosesEndsOfMembers history lost → (place : Place) → settled front history place ≡ settled entries history place

-- a record after which no locks conflict found its lock free
abbrev pub FoundFree : Type 0
FoundFree = (entries : List LogEntry) (entry : LogEntry) → HasNoConflict (entries ++ entry ∷ []) → (takes_lock entry.content ≡ true → has_ended entries (txn_of entry.content) ≡ false) →
    (other : TxnId) (place : Place) → is_conflict (mode_at place entry.content) (locks_of_log entries other place) ≡ true → other ≡ txn_of entry.content
