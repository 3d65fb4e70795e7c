-- The store and the locks follow the log.
use Rattle.std.proofs.Common.{◌≡◌, ◌<◌, ◌≤◌, ◌⊎◌, true, cond, eqb, ◌&&◌, [], ◌∷◌, ◌++◌, Option, None, sym, ap, ◌∙◌, inl, inr, arith}
use Rattle.std.proofs.lemmas.Bool.{cond-true, cases_Bool, eq-eqb, and_from}
use Rattle.cl_types.specs.declared.operations.Mode.{Mode}
use Rattle.cl_types.specs.declared.operations.TxnId.{TxnId}
use Rattle.cl_types.specs.Modes.{stronger}
use Rattle.cl_types.specs.Places.{Place, Stored}
use Rattle.cl_log.specs.declared.log.Log.{Log}
use Rattle.cl_log.specs.LogEntry.{LogEntry}
use Rattle.cl_log.specs.Kind.{writes, number_before, is_of, is_end}
use Rattle.cl_log.specs.Locks.{mode_at, locks_after, locks_of_log}
use Rattle.cl_log.specs.Log.{entries, first_kept, next_number}
use Rattle.cl_log.specs.Store.{written, redo_by_guard, store_of_log}
use Rattle.cl_log.proofs.Locks.{locks_of_log_push}
use Rattle.cl_log.proofs.LogWords.{IsNumberedFrom-entries, first_kept-length, one-le-first_kept}
use Rattle.cl_log.proofs.Store.{store_of_log_other, store_of_log_written, number-store_of_log-lt}
use Rattle.cl_redo.specs.Condition.{MeetsWrite, IsUnended}
use Rattle.cl_redo.specs.Redo.{IsStoreOf, AreLocksOf}

-- what stands at a place of the log's store is of a number below the next
store_below : (log : Log) (place : Place) → (store_of_log (entries log) place).0 < next_number log
store_below log place =
    let below = number-store_of_log-lt (first_kept log) (entries log) place (one-le-first_kept log) (IsNumberedFrom-entries log) in
    let next = first_kept-length log in
    omega (arith, below, next)

-- a record that is redone on the store of the log gives the store of the log with the record
pub store_follows : (log : Log) (entry : LogEntry) (stored : Place → Stored) → entry.number ≡ next_number log →
    MeetsWrite stored entry → IsStoreOf stored (entries log) → (place : Place) →
    redo_by_guard place (stored place) entry ≡ store_of_log (entries log ++ entry ∷ []) place
store_follows log entry stored next meets is_store place =
    elim (cases_Bool (writes place entry.content)) [
      | inl t ↦ at_write t (meets.guard place t)
      | inr f ↦ ap (λ b. cond (b && eqb (stored place).0 (number_before entry.content)) (written entry (stored place)) (stored place)) f
          ∙ is_store place ∙ sym (store_of_log_other (entries log) entry place f)
    ]
  where
    at_write : writes place entry.content ≡ true → ((stored place).0 ≡ number_before entry.content) ⊎ (entry.number ≤ (stored place).0) →
        redo_by_guard place (stored place) entry ≡ store_of_log (entries log ++ entry ∷ []) place
    at_write t (inl before) =
        cond-true _ _ _ (and_from _ _ t (eq-eqb _ _ before)) ∙ ap (written entry) (is_store place) ∙ sym (store_of_log_written (entries log) entry place t)
    at_write t (inr ahead) =
        let same : (stored place).0 ≡ (store_of_log (entries log) place).0 = ap (λ (s : Stored). s.0) (is_store place) in
        let below = store_below log place in
        absurd (omega (arith, ahead, same, below, next))

-- the locks that a record leaves on the locks of the log are the locks of the log with the record
pub locks_follow : (log : Log) (entry : LogEntry) (held : TxnId → Place → Option Mode) → IsUnended (entries log) entry.content →
    AreLocksOf held (entries log) → (txn : TxnId) (place : Place) →
    locks_after held entry txn place ≡ locks_of_log (entries log ++ entry ∷ []) txn place
locks_follow log entry held unended are_locks txn place =
    ap (λ mode. cond (is_of txn entry.content) (cond (is_end entry.content) None (stronger mode (mode_at place entry.content))) mode) (are_locks txn place)
    ∙ sym (locks_of_log_push (entries log) entry txn place unended)
