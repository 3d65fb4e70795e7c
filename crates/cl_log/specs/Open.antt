-- Which transactions are open in a log, how far each is, and where the first open one begins.
use Rattle.std.specs.Prelude.{ℕ, Bool, true, false, ◌&&◌, not, if◌then◌else◌, List, [], ◌∷◌, ◌++◌, map, filter, fold}
use Rattle.std.specs.Option.{option_map_or}
use Rattle.std.specs.List.{list_any, find}
use Rattle.cl_types.specs.declared.operations.TxnId.{TxnId}
use Rattle.cl_types.specs.Transactions.{same_txn}
use Rattle.cl_log.specs.declared.records.LogRec.{LogRec}
use Rattle.cl_log.specs.declared.stage.Stage.{Stage}
use Rattle.cl_log.specs.declared.stage.Stage.TheVariants.{Unknown, Running, Prepared, Ended}
use Rattle.cl_log.specs.LogEntry.{LogEntry}
use Rattle.cl_log.specs.Kind.{txn_of, is_of, opens, is_prepared, is_end}

-- a transaction is among these
abbrev pub is_among : TxnId → List TxnId → Bool
is_among txn txns = list_any (same_txn txn) txns

-- some record of the transaction passes the test
abbrev pub has_record : (LogRec → Bool) → TxnId → List LogEntry → Bool
has_record test txn entries = list_any (λ entry. is_of txn entry.content && test entry.content) entries

-- the transaction has a Touch, Set, Add or Prepared
unfoldable pub has_begun : List LogEntry → TxnId → Bool
has_begun entries txn = has_record opens txn entries

-- the log has a Prepared of the transaction
unfoldable pub has_prepared : List LogEntry → TxnId → Bool
has_prepared entries txn = has_record is_prepared txn entries

-- the log has an End of the transaction
unfoldable pub has_ended : List LogEntry → TxnId → Bool
has_ended entries txn = has_record is_end txn entries

-- a transaction is open where it has a Touch, Set, Add or Prepared and no End
abbrev pub is_open : List LogEntry → TxnId → Bool
is_open entries txn = has_begun entries txn && not (has_ended entries txn)

-- how far a transaction is
abbrev pub stage_of : List LogEntry → TxnId → Stage
stage_of entries txn =
    if not (has_begun entries txn) then Unknown else
    (if has_ended entries txn then Ended else
    (if has_prepared entries txn then Prepared else Running))

-- the stages in which a transaction is open
abbrev pub is_under_way : Stage → Bool
is_under_way Unknown = false
is_under_way Running = true
is_under_way Prepared = true
is_under_way Ended = false

-- the numbers of all records of a transaction, in order
unfoldable pub chain_of : List LogEntry → TxnId → List ℕ
chain_of entries txn = map (λ entry. entry.number) (filter (λ entry. is_of txn entry.content) entries)

-- the number of the first record of an open transaction, or the next number where none is open
unfoldable pub low_of : List LogEntry → ℕ → ℕ
low_of entries next = option_map_or (λ entry. entry.number) (find (λ entry. is_open entries (txn_of entry.content)) entries) next

-- the transactions that have records, with one more at the end where it is new
abbrev pub with_txn : List TxnId → LogEntry → List TxnId
with_txn txns entry = if is_among (txn_of entry.content) txns then txns else txns ++ txn_of entry.content ∷ []

-- the transactions that have records, by their first log numbers
unfoldable pub txns_of : List LogEntry → List TxnId
txns_of entries = fold with_txn [] entries

-- those of them that are open
unfoldable pub unended_of : List LogEntry → List TxnId
unended_of entries = filter (is_open entries) (txns_of entries)
