-- Records that are taken one after another.
use Rattle.std.proofs.Common.{◌≡◌, ◌≤◌, ◌⊎◌, cond, eqb, ◌&&◌, List, [], ◌∷◌, ◌++◌, Option, None, sym, ap, ◌∙◌, subst, inl, inr}
use Rattle.std.proofs.lemmas.Bool.{cond-true, cases_Bool, eq-eqb, and_from}
use Rattle.std.proofs.lemmas.List.{append_assoc, append-nil}
use Rattle.cl_types.specs.declared.operations.Mode.{Mode}
use Rattle.cl_types.specs.declared.operations.TxnId.{TxnId}
use Rattle.cl_types.specs.Modes.{stronger}
use Rattle.cl_types.specs.Places.{Place, Stored}
use Rattle.cl_log.specs.LogEntry.{LogEntry, IsNumberedFrom, EachAfter, BeginsWith}
use Rattle.cl_log.specs.Kind.{writes, number_before, is_of, is_end}
use Rattle.cl_log.specs.Locks.{mode_at}
use Rattle.cl_log.specs.Store.{written, redo_by_guard, redone, later, store_of_log, CarriesNumberBefore, IsConsistentLog, IsCopyAfter}
use Rattle.cl_log.proofs.Locks.{locks_of_log-nil, locks_of_log_push}
use Rattle.cl_log.proofs.Store.{store_of_log-nil, store_of_log_other, store_of_log_written, redone_leaves_later, redone_meets_guard}
use Rattle.cl_redo.specs.Condition.{MeetsWrite, IsUnended}
use Rattle.cl_redo.specs.Laws.{TakesInTurn}
use Rattle.cl_redo.specs.Redo.{IsStoreOf, AreLocksOf}

-- ---- from the first record on

-- by guard on the store of the records before it, a record of a consistent log is applied
redone_next : (front : List LogEntry) (entry : LogEntry) (place : Place) → CarriesNumberBefore front entry →
    redo_by_guard place (store_of_log front place) entry ≡ store_of_log (front ++ entry ∷ []) place
redone_next front entry place carries =
    elim (cases_Bool (writes place entry.content)) [
      | inl t ↦ cond-true _ _ _ (and_from _ _ t (eq-eqb _ _ (carries place t))) ∙ sym (store_of_log_written front entry place t)
      | inr f ↦ ap (λ b. cond (b && eqb (store_of_log front place).0 (number_before entry.content)) (written entry (store_of_log front place)) (store_of_log front place)) f
          ∙ sym (store_of_log_other front entry place f)
    ]

-- the locks of the records, from those of the records before them
taken_locks : (front records : List LogEntry) (stored stored_last : Place → Stored) (held held_last : TxnId → Place → Option Mode) →
    EachAfter (λ seen entry. IsUnended seen entry.content) front records →
    AreLocksOf held front → TakesInTurn records stored held stored_last held_last → AreLocksOf held_last (front ++ records)
taken_locks front [] stored stored_last held held_last unended are_locks takes =
    subst (λ es. AreLocksOf held_last es) (sym (append-nil front)) (λ txn place. takes.1 txn place ∙ are_locks txn place)
taken_locks front (entry ∷ records) stored stored_last held held_last unended are_locks (stored_next, held_next, by_guard, by_lock, takes) =
    subst (λ es. AreLocksOf held_last es) (append_assoc front (entry ∷ []) records)
    (taken_locks (front ++ entry ∷ []) records stored_next stored_last held_next held_last unended.1
    (λ txn place.
    by_lock txn place
    ∙ ap (λ mode. cond (is_of txn entry.content) (cond (is_end entry.content) None (stronger mode (mode_at place entry.content))) mode) (are_locks txn place)
    ∙ sym (locks_of_log_push front entry txn place unended.0))
    takes)

pub taken_locks_from_none : (records : List LogEntry) (stored_first stored : Place → Stored) (held : TxnId → Place → Option Mode) →
    EachAfter (λ seen entry. IsUnended seen entry.content) [] records →
    TakesInTurn records stored_first (λ _ _. None) stored held → AreLocksOf held records
taken_locks_from_none records stored_first stored held unended takes =
    taken_locks [] records stored_first stored (λ _ _. None) held unended (λ txn place. sym (locks_of_log-nil txn place)) takes

-- the store of the records, from that of the records before them
taken_store : (front records : List LogEntry) (stored stored_last : Place → Stored) (held held_last : TxnId → Place → Option Mode) →
    EachAfter CarriesNumberBefore front records → IsStoreOf stored front → TakesInTurn records stored held stored_last held_last →
    IsStoreOf stored_last (front ++ records)
taken_store front [] stored stored_last held held_last carries is_store takes =
    subst (λ es. IsStoreOf stored_last es) (sym (append-nil front)) (λ place. takes.0 place ∙ is_store place)
taken_store front (entry ∷ records) stored stored_last held held_last carries is_store (stored_next, held_next, by_guard, by_lock, takes) =
    subst (λ es. IsStoreOf stored_last es) (append_assoc front (entry ∷ []) records)
    (taken_store (front ++ entry ∷ []) records stored_next stored_last held_next held_last carries.1
    (λ place. by_guard place ∙ ap (λ s. redo_by_guard place s entry) (is_store place) ∙ redone_next front entry place carries.0)
    takes)

pub taken_from_first : (log : List LogEntry) (stored : Place → Stored) (held : TxnId → Place → Option Mode) →
    IsConsistentLog log → EachAfter (λ seen entry. IsUnended seen entry.content) [] log →
    TakesInTurn log (λ _. (0, None)) (λ _ _. None) stored held → IsStoreOf stored log × AreLocksOf held log
taken_from_first log stored held consistent unended takes = (
  taken_store [] log (λ _. (0, None)) stored (λ _ _. None) held consistent (λ place. sym (store_of_log-nil place)) takes,
  taken_locks_from_none log (λ _. (0, None)) stored held unended takes,
)

-- ---- on a copy

-- records that are taken in turn are redone
pub taken_is_redone : (records : List LogEntry) (stored stored_last : Place → Stored) (held held_last : TxnId → Place → Option Mode) →
    TakesInTurn records stored held stored_last held_last → (place : Place) → stored_last place ≡ redone records place (stored place)
unfolding redone
taken_is_redone [] stored stored_last held held_last takes place = takes.0 place
taken_is_redone (entry ∷ records) stored stored_last held held_last (stored_next, held_next, by_guard, by_lock, takes) place =
    taken_is_redone records stored_next stored_last held_next held_last takes place ∙ ap (redone records place) (by_guard place)

pub taken_on_copy : (log first records : List LogEntry) (copy stored : Place → Stored) (held_first held : TxnId → Place → Option Mode) →
    IsNumberedFrom 1 log → IsConsistentLog log → BeginsWith log (first ++ records) → IsCopyAfter log first copy →
    TakesInTurn records copy held_first stored held → (place : Place) → stored place ≡ later (copy place) (store_of_log (first ++ records) place)
taken_on_copy log first records copy stored held_first held numbers consistent begins is_copy takes place =
    taken_is_redone records copy stored held_first held takes place ∙ redone_leaves_later log first records copy numbers consistent begins is_copy place

pub taken_meets_writes : (log first records : List LogEntry) (entry : LogEntry) (rest : List LogEntry) (copy stored : Place → Stored) (held_first held : TxnId → Place → Option Mode) →
    IsNumberedFrom 1 log → IsConsistentLog log → log ≡ first ++ records ++ entry ∷ rest → IsCopyAfter log first copy →
    TakesInTurn records copy held_first stored held → MeetsWrite stored entry
taken_meets_writes log first records entry rest copy stored held_first held numbers consistent is_log is_copy takes = record {
  before = λ place write. (redone_meets_guard log first records entry rest copy numbers consistent is_log is_copy place write).0;
  guard = λ place write.
      subst (λ (s : Stored). (s.0 ≡ number_before entry.content) ⊎ (entry.number ≤ s.0)) (sym (taken_is_redone records copy stored held_first held takes place))
      (redone_meets_guard log first records entry rest copy numbers consistent is_log is_copy place write).1;
}
