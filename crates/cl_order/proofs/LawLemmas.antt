-- The laws of ledgers.
use Rattle.std.proofs.Common.{◌≡◌, ℕ, Bool, true, false, List, [], ◌∷◌}
use Rattle.std.specs.List.{IsDistinct}
use Rattle.cl_types.specs.Places.{Place}
use Rattle.cl_types.specs.Transactions.{same_txn}
use Rattle.cl_log.proofs.Settled.{settled-nil}
use Rattle.cl_serial.specs.PlainMap.{no_values, RepliesAgree}
use Rattle.cl_order.specs.Ledger.{Ledger, IsOrdered}
use Rattle.cl_order.specs.Laws.{OperationsKeepOrder, PreparedKeepsOrder, DecideKeepsOrder, JoiningKeepsOrder, UndoKeepsOrder, EndKeepsOrder, CutKeepsOrder, StepsKeepOrder, StepsMakeOrder}
use Rattle.cl_order.specs.Steps.{Step, carry_out, prepare, decide, join, undo, finish, cut, after_step, after_steps, AreEnabled, new_ledger}
use Rattle.cl_order.proofs.StepLemmas.{prepare_ordered, prepare_whole, decide_ordered, decide_whole, finish_ordered, finish_whole, undo_ordered, undo_whole, cut_ordered, cut_whole, join_ordered, join_whole, operation_ordered, operation_whole}

pub operations_keep_order : OperationsKeepOrder
operations_keep_order ledger txn place op ordered may = record {
  ordered = operation_ordered ledger ordered txn place op may;
  whole = λ other v spared. operation_whole ledger ordered txn place op may other v;
}

pub prepared_keeps_order : PreparedKeepsOrder
prepared_keeps_order ledger v txn ordered running = record {
  ordered = prepare_ordered ledger ordered v txn running;
  whole = λ other u spared. prepare_whole ledger ordered v txn other u;
}

pub decide_keeps_order : DecideKeepsOrder
decide_keeps_order ledger v txn ordered any = record {
  ordered = decide_ordered ledger ordered v txn;
  whole = λ other u spared. decide_whole ledger ordered v txn other u;
}

pub joining_keeps_order : JoiningKeepsOrder
joining_keeps_order ledger txn ordered may = record {
  ordered = join_ordered ledger ordered txn may;
  whole = λ other u spared. join_whole ledger ordered txn may other u spared;
}

pub undo_keeps_order : UndoKeepsOrder
undo_keeps_order ledger v content ordered may = record {
  ordered = undo_ordered ledger ordered v content may;
  whole = λ other u spared. undo_whole ledger ordered v content may other u spared;
}

pub end_keeps_order : EndKeepsOrder
end_keeps_order ledger v txn commit ordered may = record {
  ordered = finish_ordered ledger ordered v txn commit may;
  whole = λ other u spared. finish_whole ledger ordered v txn commit may other u spared;
}

pub cut_keeps_order : CutKeepsOrder
cut_keeps_order ledger v front ordered may = record {
  ordered = cut_ordered ledger ordered v front may;
  whole = λ other u spared. cut_whole ledger ordered v front may other u (λ same. spared same may.lost may.whole);
}

-- each step
pub steps_keep_order : StepsKeepOrder
steps_keep_order ledger (carry_out txn place op) ordered may = operations_keep_order ledger txn place op ordered may
steps_keep_order ledger (prepare v txn) ordered may = prepared_keeps_order ledger v txn ordered may
steps_keep_order ledger (decide v txn) ordered may = decide_keeps_order ledger v txn ordered may
steps_keep_order ledger (join txn) ordered may = joining_keeps_order ledger txn ordered may
steps_keep_order ledger (undo v content) ordered may = undo_keeps_order ledger v content ordered may
steps_keep_order ledger (finish v txn commit) ordered may = end_keeps_order ledger v txn commit ordered may
steps_keep_order ledger (cut v front) ordered may = cut_keeps_order ledger v front ordered may

-- ---- from the start

new_distinct : IsDistinct same_txn []
unfolding IsDistinct
new_distinct = tt

new_agrees : RepliesAgree no_values []
unfolding RepliesAgree
new_agrees = tt

pub new_ordered : (on : Place → ℕ) → IsOrdered (new_ledger on)
new_ordered on = record {
  numbered = λ v. tt;
  lawful = λ v. tt;
  for_operations = λ v. tt;
  settles = λ place. settled-nil [] place;
  replies = new_agrees;
  distinct = new_distinct;
  locked = λ txn member. absurd (let e : ◌≡◌ {A = Bool} false true = member in cc);
}

ordered_after_steps : (ledger : Ledger) (steps : List Step) → IsOrdered ledger → AreEnabled ledger steps → IsOrdered (after_steps ledger steps)
ordered_after_steps ledger [] ordered enabled = ordered
ordered_after_steps ledger (step ∷ steps) ordered enabled = ordered_after_steps (after_step ledger step) steps (steps_keep_order ledger step ordered enabled.0).ordered enabled.1

pub steps_make_order : StepsMakeOrder
steps_make_order on steps enabled = ordered_after_steps (new_ledger on) steps (new_ordered on) enabled
