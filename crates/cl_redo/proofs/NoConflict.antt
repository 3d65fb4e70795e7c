-- A log whose locks a table holds.
use Rattle.std.proofs.Common.{List, ap, ◌∙◌, inl, inr}
use Rattle.std.proofs.lemmas.Bool.{cases_Bool, both_ways}
use Rattle.cl_types.specs.Modes.{is_conflict}
use Rattle.cl_types.specs.Transactions.{same_txn}
use Rattle.cl_types.proofs.Transactions.{same_txn-true}
use Rattle.cl_log.specs.LogEntry.{LogEntry}
use Rattle.cl_log.specs.Locks.{locks_of_log, HasNoConflict}
use Rattle.cl_locks.specs.declared.locks.Locks.{Locks}
use Rattle.cl_locks.specs.Table.{held}
use Rattle.cl_locks.proofs.TableLaws.{held-compatible}
use Rattle.cl_redo.specs.Redo.{AreLocksOf}

-- it has no conflict
pub no_conflict_of_table : (locks : Locks) (log : List LogEntry) → AreLocksOf (held locks) log → HasNoConflict log
no_conflict_of_table locks log same a b place conflict =
    elim (cases_Bool (same_txn a b)) [
      | inl t ↦ same_txn-true a b t
      | inr f ↦ absurd (both_ways _ (held-compatible locks place a b f)
          (ap (λ m. is_conflict m (held locks b place)) (same a place) ∙ ap (is_conflict (locks_of_log log a place)) (same b place) ∙ conflict))
    ]
