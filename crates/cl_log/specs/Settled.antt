-- The settled map of a log under a history.
use Rattle.std.specs.Prelude.{◌≡◌, true, ℕ, Bool, ◌&&◌, not, if◌then◌else◌, List, Option, reverse, filter, fold}
use Rattle.cl_types.specs.declared.operations.TxnId.{TxnId}
use Rattle.cl_types.specs.Places.{Place}
use Rattle.cl_log.specs.declared.records.LogRec.{LogRec}
use Rattle.cl_log.specs.declared.records.LogRec.TheVariants.{Set, Add}
use Rattle.cl_log.specs.LogEntry.{LogEntry}
use Rattle.cl_log.specs.Kind.{txn_of, writes}
use Rattle.cl_log.specs.Open.{is_open, is_among}
use Rattle.cl_log.specs.Rest.{is_left}
use Rattle.cl_log.specs.Store.{less, value_after, store_of_log}

-- what undoing a write makes of the value: of a Set the old image, of an Add the value less the amount
abbrev pub value_undone : LogRec → Option (List ℕ) → Option (List ℕ)
value_undone (Set txn table key before old new) value = old
value_undone (Add txn table key before amount) value = less amount value
value_undone content value = value

-- the value at a place after undoing one more record
abbrev pub undone_at : Place → Option (List ℕ) → LogEntry → Option (List ℕ)
undone_at place value entry = if writes place entry.content then value_undone entry.content value else value

-- a write left to undo, of an open transaction that is not in the history
abbrev pub is_unsettled : List LogEntry → List TxnId → LogEntry → Bool
is_unsettled entries history entry =
    is_left entries entry && (is_open entries (txn_of entry.content) && not (is_among (txn_of entry.content) history))

-- the rests of all open transactions that are not in the history, last first
unfoldable pub unsettled : List LogEntry → List TxnId → List LogEntry
unsettled entries history = reverse (filter (is_unsettled entries history) entries)

-- the settled map: the values of the store after undoing these
unfoldable pub settled : List LogEntry → List TxnId → Place → Option (List ℕ)
settled entries history place = fold (undone_at place) (store_of_log entries place).1 (unsettled entries history)

-- undoing a write gives back what stood before it: a Set has that as its old image, an Add adds to a number within 64 bits
abbrev pub IsReversible : List LogEntry → LogRec → Type 0
IsReversible seen content =
    (place : Place) → writes place content ≡ true → value_undone content (value_after content (store_of_log seen place).1) ≡ (store_of_log seen place).1
