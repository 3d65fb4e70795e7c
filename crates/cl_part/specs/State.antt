-- What a participant has: its store, its log and its locks as plain data.
use Rattle.std.specs.Prelude.{◌≡◌, ℕ, ◌+◌, ◌<◌, List, [], ◌∷◌, ◌++◌, Option, Some, None}
use Rattle.cl_types.specs.declared.operations.Mode.TheVariants.{Exclusive}
use Rattle.cl_types.specs.Places.{Place, Stored}
use Rattle.cl_log.specs.declared.records.LogRec.{LogRec}
use Rattle.cl_log.specs.declared.records.LogRec.TheVariants.{Touch, Set, Add, End}
use Rattle.cl_log.specs.LogEntry.{LogEntry}
use Rattle.cl_log.specs.Log.{entries, next_number}
use Rattle.cl_log.specs.Store.{stored_after}
use Rattle.cl_locks.specs.Grants.{Grant, after_grant, without_txn}
use Rattle.cl_locks.specs.Table.{IsTableOf}
use Rattle.cl_store.specs.Store.{stored as stored_in}
use Rattle.cl_part.specs.declared.part.Part.{Part}

-- a participant as plain data
pub record State : Type 0 where
  -- what stands at each place
  pub stored : Place → Stored
  -- the log records that are kept
  pub log : List LogEntry
  -- the number that the next record will have
  pub next : ℕ
  -- the locks, in order of grant
  pub grants : List Grant

-- the participant has this store, this log and these locks
pub record IsStateOf (part : Part) (state : State) : Type 0 where
  pub store : (place : Place) → stored_in part.store place ≡ state.stored place
  pub log : entries part.log ≡ state.log
  pub next : next_number part.log ≡ state.next
  pub locks : IsTableOf part.locks state.grants

-- no stored number is above the last log number
abbrev pub IsBelowNext : Part → Type 0
IsBelowNext part = (place : Place) → (stored_in part.store place).0 < next_number part.log

-- nothing is stored and nothing is locked, and the log is empty
abbrev pub new_state : ℕ → State
new_state first = record { stored = λ place. (0, None); log = []; next = first; grants = [] }

-- the locks after a record: a Touch, Set and Add enter their lock, an End frees those of its transaction
abbrev pub grants_with : LogRec → List Grant → List Grant
grants_with (Touch txn table key mode) grants = after_grant grants (record { txn = txn; place = (table, key); mode = mode })
grants_with (Set txn table key before old new) grants = after_grant grants (record { txn = txn; place = (table, key); mode = Exclusive })
grants_with (Add txn table key before amount) grants = after_grant grants (record { txn = txn; place = (table, key); mode = Exclusive })
grants_with (End txn commit) grants = without_txn txn grants
grants_with content grants = grants

-- a record under the next number
abbrev pub next_entry : State → LogRec → LogEntry
next_entry state content = record { number = state.next; content = content }

-- the state after one more record: its write is made, its lock entered, and the record appended to the log
unfoldable pub after_record : State → LogRec → State
after_record state content = record {
  stored = λ place. stored_after place (state.stored place) (next_entry state content);
  log = state.log ++ next_entry state content ∷ [];
  next = state.next + 1;
  grants = grants_with content state.grants;
}

-- the same, where there is a record
abbrev pub after_optional : State → Option LogRec → State
after_optional state None = state
after_optional state (Some content) = after_record state content

-- each participant has a state
abbrev pub EveryPartHasState : Type 0
EveryPartHasState = (part : Part) → (state : State) × IsStateOf part state
