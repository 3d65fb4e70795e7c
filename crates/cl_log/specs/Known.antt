-- What a log knows of each transaction. No public clause cites this module.
use Rattle.std.specs.Prelude.{ℕ, Bool, false, ◌||◌, ◌&&◌, not, if◌then◌else◌, is_some, Option, Some, None, List, filter}
use Rattle.std.specs.HashMap.{HashMap, get}
use Rattle.std.specs.Option.{unwrap_or}
use Rattle.cl_types.specs.declared.operations.TxnId.{TxnId}
use Rattle.cl_types.specs.Transactions.{same_txn}
use Rattle.cl_log.specs.declared.known.Known.{Known}
use Rattle.cl_log.specs.declared.records.LogRec.{LogRec}
use Rattle.cl_log.specs.LogEntry.{LogEntry}
use Rattle.cl_log.specs.Kind.{opens, is_prepared, is_end, can_be_undone, undoes}
use Rattle.cl_log.specs.Open.{has_begun, has_prepared, has_ended}
use Rattle.cl_log.specs.Rest.{rest_to_undo, first_number}
use Rattle.cl_log.specs.Slots.{last_of}

-- what is known of a transaction without records
abbrev pub nothing : Known
nothing = record { last = None; begun = false; prepared = false; ended = false; left = None }

-- what is known with one more record of the transaction, which may be undone already
abbrev pub known_with : Known → LogRec → ℕ → Bool → Known
known_with known content number undone = record {
  last = Some number;
  begun = known.begun || opens content;
  prepared = known.prepared || is_prepared content;
  ended = known.ended || is_end content;
  left = if can_be_undone content && not undone then Some number else known.left;
}

-- what follows for a transaction from the records
abbrev pub known_from : List LogEntry → TxnId → Known
known_from entries txn = record {
  last = last_of entries txn;
  begun = has_begun entries txn;
  prepared = has_prepared entries txn;
  ended = has_ended entries txn;
  left = first_number (rest_to_undo entries txn);
}

-- the first number left to undo for a transaction that a record does not name
abbrev pub left_past : List LogEntry → LogRec → TxnId → Option ℕ
left_past entries content txn = first_number (filter (λ entry. not (undoes entry.number content)) (rest_to_undo entries txn))

-- the same, where a record names the first number left to undo of one transaction at most, which then has another
abbrev pub left_after : Option (TxnId × Option ℕ) → Option ℕ → TxnId → Option ℕ
left_after None left txn = left
left_after (Some (undone, next)) left txn = if same_txn undone txn then next else left

module _ {S : Type 0} where
  -- whether an index has the transaction
  abbrev pub is_known : HashMap TxnId Known S → TxnId → Bool
  is_known index txn = is_some (get same_txn index txn)

  -- what an index has for a transaction
  abbrev pub known_at : HashMap TxnId Known S → TxnId → Known
  known_at index txn = unwrap_or (get same_txn index txn) nothing
