-- When a participant may take a record. No public clause cites this module.
use Rattle.std.specs.Prelude.{◌≡◌, ◌≢◌, ℕ, true, false, if◌then◌else◌, Option, Some, None}
use Rattle.cl_types.specs.declared.operations.Mode.{Mode}
use Rattle.cl_types.specs.declared.operations.TxnId.{TxnId}
use Rattle.cl_types.specs.Modes.{is_conflict}
use Rattle.cl_types.specs.Places.{Place, same_place}
use Rattle.cl_locks.specs.Table.{held}
use Rattle.cl_log.specs.declared.records.LogRec.{LogRec}
use Rattle.cl_log.specs.Kind.{writes, number_before}
use Rattle.cl_log.specs.Log.{entries, next_number}
use Rattle.cl_part.specs.declared.part.Part.{Part}
use Rattle.cl_redo.specs.Condition.{IsFree, IsUnended}
use Rattle.cl_store.specs.Store.{stored}

-- no other transaction holds a lock that conflicts with this one at a place
abbrev pub IsLockFree : (TxnId → Place → Option Mode) → TxnId → Place → Mode → Type 0
IsLockFree held txn own mode =
    (other : TxnId) (place : Place) → other ≢ txn → is_conflict (held other place) (if same_place own place then Some mode else None) ≡ false

-- the record of this number may be taken, told from the participant
pub record TakesHere (part : Part) (number : ℕ) (content : LogRec) : Type 0 where
  pub next : number ≡ next_number part.log
  pub carries : (place : Place) → writes place content ≡ true → (stored part.store place).0 ≡ number_before content
  pub free : IsFree (held part.locks) content
  pub unended : IsUnended (entries part.log) content
