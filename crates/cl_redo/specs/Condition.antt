-- When a record may be taken.
use Rattle.std.specs.Prelude.{◌≡◌, ◌≢◌, ◌<◌, ◌≤◌, ◌⊎◌, true, false, List, Option}
use Rattle.cl_types.specs.declared.operations.Mode.{Mode}
use Rattle.cl_types.specs.declared.operations.TxnId.{TxnId}
use Rattle.cl_types.specs.Modes.{is_conflict}
use Rattle.cl_types.specs.Places.{Place, Stored}
use Rattle.cl_log.specs.declared.records.LogRec.{LogRec}
use Rattle.cl_log.specs.LogEntry.{LogEntry}
use Rattle.cl_log.specs.Kind.{txn_of, writes, number_before}
use Rattle.cl_log.specs.Locks.{mode_at, takes_lock}
use Rattle.cl_log.specs.Open.{has_ended}

-- what stands at the place of a write meets it
pub record MeetsWrite (stored : Place → Stored) (entry : LogEntry) : Type 0 where
  -- the state number before the write is below its own
  pub before : (place : Place) → writes place entry.content ≡ true → number_before entry.content < entry.number
  -- there stands the number before, or at least its own
  pub guard : (place : Place) → writes place entry.content ≡ true → ((stored place).0 ≡ number_before entry.content) ⊎ (entry.number ≤ (stored place).0)

-- no other transaction holds a lock that conflicts with what the record takes
abbrev pub IsFree : (TxnId → Place → Option Mode) → LogRec → Type 0
IsFree held content = (other : TxnId) (place : Place) → other ≢ txn_of content → is_conflict (held other place) (mode_at place content) ≡ false

-- what takes a lock is of a transaction without End
abbrev pub IsUnended : List LogEntry → LogRec → Type 0
IsUnended entries content = takes_lock content ≡ true → has_ended entries (txn_of content) ≡ false
