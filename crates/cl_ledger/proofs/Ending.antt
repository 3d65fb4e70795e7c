-- What the rollback and the End of a transaction make of a ledger.
use Rattle.std.proofs.Common.{◌≡◌, ℕ, Bool, true, false, ◌||◌, ◌&&◌, List, [], ◌∷◌, ◌++◌, refl, sym, ◌∙◌, ap, subst, inl}
use Rattle.cl_types.specs.declared.operations.TxnId.{TxnId}
use Rattle.cl_types.proofs.Transactions.{same_txn-true}
use Rattle.cl_log.specs.declared.records.LogRec.{LogRec}
use Rattle.cl_log.specs.Kind.{txn_of, is_of, is_end}
use Rattle.cl_log.specs.LogEntry.{LogEntry}
use Rattle.cl_log.specs.Open.{has_ended, is_among}
use Rattle.cl_log.specs.Rest.{rest_to_undo}
use Rattle.cl_log.proofs.KindFacts.{is_end-undo_of, txn_of-undo_of}
use Rattle.cl_log.proofs.Open.{has_ended_push}
use Rattle.cl_log.proofs.Rest.{HeadsRest-from}
use Rattle.cl_order.specs.Ledger.{Ledger, IsOrdered}
use Rattle.cl_order.specs.Steps.{Step, undo, finish, after_step, after_steps, AreEnabled, MayFinish}
use Rattle.cl_order.proofs.LawLemmas.{steps_keep_order}
use Rattle.cl_order.proofs.Readings.{steps_go_on}
use Rattle.cl_part.specs.Calls.{undo_one, end, after_undo, undo_each, after_rollback, after_abort, after_end, undo_now}
use Rattle.cl_part.specs.Laws.{MayWork, step_undoing}
use Rattle.cl_part.specs.State.{State, next_entry, after_record}
use Rattle.cl_part.proofs.Rollback.{undo_takes_first}
use Rattle.cl_part.proofs.Undoing.{after_undo-first}
use Rattle.cl_ledger.specs.Ledgers.{undo_steps, finish_steps}
use Rattle.cl_ledger.proofs.Keeping.{KeepsLog, calls_keep_log}
use Rattle.cl_ledger.proofs.Reaching.{Reaches, Follows, others_than, no_one, reach_step, logs_with-elsewhere}

-- a record that is no End leaves who has one
ended_recorded : (state : State) (content : LogRec) (name : TxnId) → is_end content ≡ false → has_ended (after_record state content).log name ≡ has_ended state.log name
unfolding after_record
ended_recorded state content name no_end =
    has_ended_push name state.log (next_entry state content) ∙ ap (λ b. has_ended state.log name || (is_of name content && b)) no_end ∙ none _ _
  where
    none : (a b : Bool) → (a || (b && false)) ≡ a
    none true b = refl
    none false true = refl
    none false false = refl

-- steps that undo all that was left of a transaction are enabled, and leave the others as whole as they were
pub record IsRolled (ledger : Ledger) (v : ℕ) (old new : State) (txn : TxnId) (steps : List Step) : Type 0 where
  pub enabled : AreEnabled ledger steps
  pub reaches : Reaches ledger (after_steps ledger steps) v new (others_than txn)
  pub history : (after_steps ledger steps).history ≡ ledger.history
  pub done : (name : TxnId) → (after_steps ledger steps).done name ≡ ledger.done name
  pub ended : has_ended new.log txn ≡ has_ended old.log txn
  pub rest : rest_to_undo new.log txn ≡ []

rolled : (rest : List LogEntry) (ledger : Ledger) (v : ℕ) (state : State) (txn : TxnId) → rest_to_undo state.log txn ≡ rest → KeepsLog ledger v state → IsOrdered ledger → MayWork ledger v txn →
    IsRolled ledger v state (undo_each state txn rest) txn (undo_steps v state txn rest)
rolled [] ledger v state txn none at ordered may = record {
  enabled = tt;
  reaches = record { on = λ p. refl; at = at; elsewhere = λ u apart. refl; ordered = ordered; whole = λ other u apart is. is };
  history = refl;
  done = λ name. refl;
  ended = refl;
  rest = none;
}
rolled (first ∷ others) ledger v state txn is at ordered may =
    let follows = calls_keep_log ledger v state (undo_one txn) at may in
    let P : List LogEntry → Type 0 = λ r. AreEnabled ledger (step_undoing v state r) × KeepsLog (after_steps ledger (step_undoing v state r)) v (after_undo state txn) in
    let both = subst P is (follows.enabled, follows.after) in
    let content : LogRec = undo_now state first in
    let now : State = after_undo state txn in
    let now_is : now ≡ after_record state content = after_undo-first state txn first others is in
    let heads = HeadsRest-from 1 state.log txn first others at.sound.numbered is in
    let own : txn_of content ≡ txn = txn_of-undo_of first.content first.number _ ∙ same_txn-true _ _ heads.own in
    let no_end : is_end content ≡ false = is_end-undo_of first.content first.number _ heads.undoable in
    let stays = steps_keep_order ledger (undo v content) ordered both.0.0 in
    let after : Ledger = after_step ledger (undo v content) in
    let ended : has_ended now.log txn ≡ has_ended state.log txn = ap (λ (s : State). has_ended s.log txn) now_is ∙ ended_recorded state content txn no_end in
    let rest : rest_to_undo now.log txn ≡ others = undo_takes_first state.log state txn first others at.sound is in
    let may_now : MayWork after v txn = record {
      outside = may.outside;
      unended = ap (λ (log : List LogEntry). has_ended log txn) both.1.log ∙ ended ∙ ap (λ (log : List LogEntry). has_ended log txn) (sym at.log) ∙ may.unended;
    } in
    let more : IsRolled after v now (undo_each now txn others) txn (undo_steps v now txn others) = rolled others after v now txn rest both.1 stays.ordered may_now in
    let all : IsRolled ledger v state (undo_each now txn others) txn (undo v content ∷ undo_steps v now txn others) = record {
      enabled = (both.0.0, more.enabled);
      reaches = record {
        on = more.reaches.on;
        at = more.reaches.at;
        elsewhere = λ u apart. more.reaches.elsewhere u apart ∙ logs_with-elsewhere ledger.logs v _ u apart;
        ordered = more.reaches.ordered;
        whole = λ other u apart whole. more.reaches.whole other u apart (stays.whole other u (λ _ same. apart (same ∙ own)) whole);
      };
      history = more.history;
      done = more.done;
      ended = more.ended ∙ ended;
      rest = more.rest;
    } in
    let one_is : step_undoing v state (rest_to_undo state.log txn) ≡ undo v content ∷ [] = ap (step_undoing v state) is in
    subst (λ one. IsRolled ledger v state (undo_each now txn others) txn (one ++ undo_steps v now txn others)) (sym one_is) all

-- an abort: the rollback, and the End
pub follows_aborted : (ledger : Ledger) (v : ℕ) (state : State) (txn : TxnId) → KeepsLog ledger v state → IsOrdered ledger → MayWork ledger v txn →
    Follows ledger v (after_abort state txn) (others_than txn) no_one (finish_steps v state txn false)
unfolding after_abort after_rollback
follows_aborted ledger v state txn at ordered may =
    let steps : List Step = undo_steps v state txn (rest_to_undo state.log txn) in
    let back = rolled (rest_to_undo state.log txn) ledger v state txn refl at ordered may in
    let now : State = after_rollback state txn in
    let middle : Ledger = after_steps ledger steps in
    let log_is : middle.logs v ≡ now.log = back.reaches.at.log in
    let finishing : MayFinish middle v txn false = record {
      member = ap (is_among txn) back.history ∙ may.outside;
      unended = ap (λ (log : List LogEntry). has_ended log txn) log_is ∙ back.ended ∙ ap (λ (log : List LogEntry). has_ended log txn) (sym at.log) ∙ may.unended;
      undone = λ _. ap (λ (log : List LogEntry). rest_to_undo log txn) log_is ∙ back.rest;
    } in
    let follows = calls_keep_log middle v now (end txn false) back.reaches.at finishing in
    let last : Reaches middle (after_step middle (finish v txn false)) v (after_end now txn false) (others_than txn) =
    reach_step middle v (after_end now txn false) (finish v txn false) (others_than txn) back.reaches.ordered finishing follows.after (λ p. refl) (logs_with-elsewhere middle.logs v _)
    (λ other u apart here. apart) in
    let on = steps_go_on ledger steps (finish v txn false ∷ []) back.enabled (finishing, tt) in
    let both : Reaches ledger (after_step middle (finish v txn false)) v (after_end now txn false) (others_than txn) = record {
      on = λ p. back.reaches.on p;
      at = last.at;
      elsewhere = λ u apart. last.elsewhere u apart ∙ back.reaches.elsewhere u apart;
      ordered = last.ordered;
      whole = λ other u apart whole. last.whole other u apart (back.reaches.whole other u apart whole);
    } in
    record {
      enabled = on.0;
      reaches = subst (λ (next : Ledger). Reaches ledger next v (after_end now txn false) (others_than txn)) (sym on.1) both;
      history = ap (λ (next : Ledger). next.history) on.1 ∙ back.history;
      done = λ name. inl (ap (λ (next : Ledger). next.done name) on.1 ∙ back.done name);
    }
