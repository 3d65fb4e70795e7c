-- What a standby may take, told from its participant and from its state.
use Rattle.std.proofs.Common.{◌≡◌, ℕ, List, sym, ◌∙◌, ap, subst}
use Rattle.cl_types.specs.declared.operations.TxnId.{TxnId}
use Rattle.cl_types.specs.Modes.{is_conflict}
use Rattle.cl_types.specs.Places.{Place, Stored}
use Rattle.cl_locks.specs.Grants.{mode_held}
use Rattle.cl_locks.specs.Table.{held}
use Rattle.cl_locks.proofs.TableLaws.{held-table}
use Rattle.cl_log.specs.declared.records.LogRec.{LogRec}
use Rattle.cl_log.specs.LogEntry.{LogEntry}
use Rattle.cl_log.specs.Locks.{mode_at}
use Rattle.cl_part.specs.declared.part.Part.{Part}
use Rattle.cl_part.specs.State.{State, IsStateOf}
use Rattle.cl_redo.specs.Condition.{IsUnended}
use Rattle.cl_vnode.specs.Inputs.{TakesRecord}
use Rattle.cl_vnode.specs.Taking.{TakesHere}

module _ (part : Part) (state : State) (is : IsStateOf part state) (number : ℕ) (content : LogRec) where
  held_alike : (txn : TxnId) (place : Place) → held part.locks txn place ≡ mode_held state.grants txn place
  held_alike txn place = held-table part.locks state.grants txn place is.locks

  -- from the participant to the state
  pub takes_record : TakesHere part number content → TakesRecord state number content
  takes_record takes = record {
    next = takes.next ∙ is.next;
    carries = λ place write. ap (λ (s : Stored). s.0) (sym (is.store place)) ∙ takes.carries place write;
    free = λ other place apart. ap (λ m. is_conflict m (mode_at place content)) (sym (held_alike other place)) ∙ takes.free other place apart;
    unended = subst (λ (log : List LogEntry). IsUnended log content) is.log takes.unended;
  }

  -- and back
  pub takes_here : TakesRecord state number content → TakesHere part number content
  takes_here takes = record {
    next = takes.next ∙ sym is.next;
    carries = λ place write. ap (λ (s : Stored). s.0) (is.store place) ∙ takes.carries place write;
    free = λ other place apart. ap (λ m. is_conflict m (mode_at place content)) (held_alike other place) ∙ takes.free other place apart;
    unended = subst (λ (log : List LogEntry). IsUnended log content) (sym is.log) takes.unended;
  }
