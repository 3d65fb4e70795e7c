-- The calls of a participant as steps of a ledger.
use Rattle.std.proofs.Common.{◌≡◌, ℕ, Bool, false, List, [], ◌∷◌, Option, Some, None, option_map, find, refl, sym, ap, ◌∙◌, subst, arith, inl, inr}
use Rattle.std.proofs.lemmas.Bool.{cases_Bool, cond-true, and_parts, and_from, eq-eqb, not_from_false, both_ways}
use Rattle.cl_types.specs.declared.operations.Mode.{Mode}
use Rattle.cl_types.specs.declared.operations.Op.{Op}
use Rattle.cl_types.specs.declared.operations.TxnId.{TxnId}
use Rattle.cl_types.specs.Modes.{is_conflict}
use Rattle.cl_types.specs.Plain.{plain_reply}
use Rattle.cl_types.specs.Places.{Place, Stored}
use Rattle.cl_types.specs.Transactions.{same_txn}
use Rattle.cl_types.proofs.Modes.{is_conflict-symmetric}
use Rattle.cl_types.proofs.Transactions.{same_txn-true}
use Rattle.cl_log.specs.declared.records.LogRec.TheVariants.{Prepared, End, Decide}
use Rattle.cl_log.specs.LogEntry.{LogEntry}
use Rattle.cl_log.specs.Kind.{txn_of}
use Rattle.cl_log.specs.Open.{has_ended, is_among}
use Rattle.cl_log.specs.Rest.{rest_to_undo, undo_of}
use Rattle.cl_log.specs.Store.{store_of_log}
use Rattle.cl_log.proofs.KindFacts.{txn_of-undo_of}
use Rattle.cl_log.proofs.Rest.{HeadsRest-from}
use Rattle.cl_locks.specs.Grants.{Grant, is_of, is_in_conflict, first_conflict, own_grant, mode_held}
use Rattle.cl_locks.proofs.GrantLists.{find-passes, mapped_none}
use Rattle.cl_order.specs.Ledger.{stored_at, Ledger, log_at, lock_at, IsOrdered}
use Rattle.cl_order.specs.Operations.{mode_of, record_of}
use Rattle.cl_order.specs.Steps.{Step, carry_out, join, log_with, log_with_optional, logs_with, record_now, after_step, after_steps, AreEnabled, MayCarryOut, MayUndo, new_ledger}
use Rattle.cl_order.proofs.LawLemmas.{steps_keep_order, new_ordered}
use Rattle.cl_part.specs.Calls.{answer_by, answer_to, ask_op, prepare, decide, undo_one, end, refusing, record_left, unless_refused, first_undone, after_op, after_prepare, after_decide, after_end, after_undo, place_of, undo_now}
use Rattle.cl_part.specs.Laws.{AnswersAreNoted, step_asked, step_undoing, steps_of, MayWork, MayCall, IsAt, FollowsCall, CallsAreSteps, CallsKeepOrder, Event, calls, joins, steps_of_event, after_event, MayHappen, MayHappenInTurn, ledger_after, state_after, EventsMakeOrder}
use Rattle.cl_part.specs.Sound.{IsReplicaOf}
use Rattle.cl_part.specs.State.{State, new_state}
use Rattle.cl_part.proofs.Soundness.{new_is_sound, calls_keep_replica}
use Rattle.cl_part.proofs.Undoing.{number_before-undo_of, undo-carries}

-- ---- a lock that is free

-- what is found by one test passes no test that finds nothing
found_not : (p q : Grant → Bool) (grants : List Grant) (grant : Grant) → find p grants ≡ None → find q grants ≡ Some grant → p grant ≡ false
found_not p q [] grant none found = absurd cc
found_not p q (g ∷ grants) grant none found = grind (arith, found_not p q grants grant)

-- where no grant is in conflict, no other transaction holds a mode that is
pub free_of_none : (grants : List Grant) (txn other : TxnId) (place : Place) (mode : Mode) → first_conflict grants txn place mode ≡ None → same_txn txn other ≡ false →
    is_conflict (mode_held grants other place) (Some mode) ≡ false
unfolding first_conflict own_grant
free_of_none grants txn other place mode none differ = by_grant (find (is_of other place) grants) refl
  where
    by_grant : (o : Option Grant) → find (is_of other place) grants ≡ o → is_conflict (option_map (λ (g : Grant). g.mode) o) (Some mode) ≡ false
    by_grant None found = refl
    by_grant (Some grant) found =
        let clear : is_in_conflict txn place mode grant ≡ false =
        found_not (is_in_conflict txn place mode) (is_of other place) grants grant (mapped_none (λ (g : Grant). g.txn) (find (is_in_conflict txn place mode) grants) none) found in
        let own = and_parts _ _ (find-passes (is_of other place) grants grant found) in
        let another : same_txn txn grant.txn ≡ false = subst (λ t. same_txn txn t ≡ false) (same_txn-true other grant.txn own.0) differ in
        elim (cases_Bool (is_conflict (Some grant.mode) (Some mode))) [
          | inl t ↦ absurd (both_ways _ clear (and_from _ _ own.1 (and_from _ _ (not_from_false _ another) t)))
          | inr f ↦ f
        ]

-- ---- the logs

logs_with-own : (logs : ℕ → List LogEntry) (v : ℕ) (log : List LogEntry) → logs_with logs v log v ≡ log
logs_with-own logs v log = cond-true _ _ _ (eq-eqb v v refl)

-- a replica of the log that a step leaves
at_log : (ledger : Ledger) (v : ℕ) (log : List LogEntry) (state : State) → IsReplicaOf log state → IsReplicaOf (logs_with ledger.logs v log v) state
at_log ledger v log state replica = subst (λ l. IsReplicaOf l state) (sym (logs_with-own ledger.logs v log)) replica

-- ---- the vote, the decision, and the end

prepare_follows : (ledger : Ledger) (v : ℕ) (state : State) (txn : TxnId) → IsAt ledger v state → MayCall ledger v (prepare txn) → FollowsCall ledger v state (prepare txn)
prepare_follows ledger v state txn at may = record {
  enabled = (may, tt);
  after = at_log ledger v (log_with (ledger.logs v) (Prepared txn)) (after_prepare state txn) (calls_keep_replica (ledger.logs v) state (prepare txn) at tt);
}

decide_follows : (ledger : Ledger) (v : ℕ) (state : State) (txn : TxnId) → IsAt ledger v state → MayCall ledger v (decide txn) → FollowsCall ledger v state (decide txn)
decide_follows ledger v state txn at may = record {
  enabled = (may, tt);
  after = at_log ledger v (log_with (ledger.logs v) (Decide txn)) (after_decide state txn) (calls_keep_replica (ledger.logs v) state (decide txn) at tt);
}

end_follows : (ledger : Ledger) (v : ℕ) (state : State) (txn : TxnId) (commit : Bool) → IsAt ledger v state → MayCall ledger v (end txn commit) → FollowsCall ledger v state (end txn commit)
end_follows ledger v state txn commit at may = record {
  enabled = (may, tt);
  after = at_log ledger v (log_with (ledger.logs v) (End txn commit)) (after_end state txn commit) (calls_keep_replica (ledger.logs v) state (end txn commit) at tt);
}

-- ---- an undo step

module _ (ledger : Ledger) (v : ℕ) (state : State) (txn : TxnId) where
  may_undo : (first : LogEntry) (others : List LogEntry) → rest_to_undo state.log txn ≡ first ∷ others → IsAt ledger v state → MayWork ledger v txn → MayUndo ledger v (undo_now state first)
  may_undo first others rest at may =
      let left : rest_to_undo (ledger.logs v) txn ≡ first ∷ others = sym (at.kept.rests txn may.unended) ∙ rest in
      let heads = HeadsRest-from 1 (ledger.logs v) txn first others at.numbered left in
      let now : ℕ = (state.stored (place_of first.content)).0 in
      let own : txn_of (undo_now state first) ≡ txn = txn_of-undo_of first.content first.number now ∙ same_txn-true _ _ heads.own in
      let stands : (store_of_log (ledger.logs v) (place_of first.content)).0 ≡ now = ap (λ (s : Stored). s.0) (sym (at.store (place_of first.content))) in
      record {
        outside = ap (λ t. is_among t ledger.history) own ∙ may.outside;
        unended = ap (has_ended (ledger.logs v)) own ∙ may.unended;
        first = record {
          first = first;
          others = others;
          is_first = ap (rest_to_undo (ledger.logs v)) own ∙ left;
          is_undo = ap (undo_of first.content first.number) (sym (number_before-undo_of first.content first.number now heads.undoable));
        };
        carries = undo-carries first.content first.number now (store_of_log (ledger.logs v)) heads.undoable stands;
      }

  -- what is left to undo has its step, which leaves the same
  undone_follows : (rest : List LogEntry) → rest_to_undo state.log txn ≡ rest → IsAt ledger v state → MayWork ledger v txn →
      IsReplicaOf (log_with_optional (ledger.logs v) (first_undone state rest)) (after_undo state txn) →
      AreEnabled ledger (step_undoing v state rest) × IsAt (after_steps ledger (step_undoing v state rest)) v (after_undo state txn)
  undone_follows [] rest at may after = (tt, after)
  undone_follows (first ∷ others) rest at may after = ((may_undo first others rest at may, tt), at_log ledger v (log_with (ledger.logs v) (undo_now state first)) (after_undo state txn) after)

-- ---- an operation

module _ (ledger : Ledger) (state : State) (txn : TxnId) (place : Place) (op : Op) where
  same_record : IsAt ledger (ledger.on place) state → record_now ledger txn place op ≡ record_left state txn place op
  same_record at =
      ap (λ (s : Stored). record_of txn place op s (lock_at ledger txn place)) (sym (at.store place))
      ∙ ap (record_of txn place op (state.stored place)) (sym (at.locks txn place))

  may_carry_out : IsAt ledger (ledger.on place) state → MayWork ledger (ledger.on place) txn → refusing state txn place op ≡ None → MayCarryOut ledger txn place op
  may_carry_out at may none = record {
    outside = may.outside;
    unended = may.unended;
    free = λ asks other conflict. elim (cases_Bool (same_txn txn other)) [
      | inl t ↦ sym (same_txn-true txn other t)
      | inr f ↦ absurd (both_ways _ (is_conflict-symmetric (Some (mode_of op)) (mode_held state.grants other place) ∙ free_of_none state.grants txn other place (mode_of op) none f)
          (ap (is_conflict (Some (mode_of op))) (at.locks other place) ∙ conflict))
    ];
  }

  -- an operation that is not refused has its step, which leaves the same
  asked_follows : (refused : Option TxnId) → refusing state txn place op ≡ refused → IsAt ledger (ledger.on place) state → MayWork ledger (ledger.on place) txn →
      IsReplicaOf (log_with_optional (log_at ledger place) (unless_refused refused (record_left state txn place op))) (after_op state txn place op) →
      AreEnabled ledger (step_asked refused (carry_out txn place op)) × IsAt (after_steps ledger (step_asked refused (carry_out txn place op))) (ledger.on place) (after_op state txn place op)
  asked_follows None none at may after = (
    (may_carry_out at may none, tt),
    at_log ledger (ledger.on place) (log_with_optional (log_at ledger place) (record_now ledger txn place op)) (after_op state txn place op)
        (subst (λ r. IsReplicaOf (log_with_optional (log_at ledger place) r) (after_op state txn place op)) (sym (same_record at)) after),
  )
  asked_follows (Some holder) refused at may after = (tt, after)

  ask_follows : IsAt ledger (ledger.on place) state → MayWork ledger (ledger.on place) txn → FollowsCall ledger (ledger.on place) state (ask_op txn place op)
  ask_follows at may =
      let follows = asked_follows (refusing state txn place op) refl at may (calls_keep_replica (log_at ledger place) state (ask_op txn place op) at may.unended) in
      record { enabled = follows.0; after = follows.1 }

pub answers_are_noted : AnswersAreNoted
unfolding answer_to
answers_are_noted ledger v state txn place op at here =
    let noted : stored_at ledger place ≡ state.stored place = ap (λ u. store_of_log (ledger.logs u) place) here ∙ sym (at.store place) in
    ap (λ (s : Stored). answer_by (refusing state txn place op) (plain_reply op s.1)) (sym noted)

-- ---- any call

ordered_after_steps : (ledger : Ledger) (steps : List Step) → IsOrdered ledger → AreEnabled ledger steps → IsOrdered (after_steps ledger steps)
ordered_after_steps ledger [] ordered enabled = ordered
ordered_after_steps ledger (step ∷ steps) ordered enabled = ordered_after_steps (after_step ledger step) steps (steps_keep_order ledger step ordered enabled.0).ordered enabled.1

pub calls_are_steps : CallsAreSteps
calls_are_steps ledger v state (ask_op txn place op) at (here, may) =
    subst (λ u. IsAt ledger u state → MayWork ledger u txn → FollowsCall ledger u state (ask_op txn place op)) here (ask_follows ledger state txn place op) at may
calls_are_steps ledger v state (prepare txn) at may = prepare_follows ledger v state txn at may
calls_are_steps ledger v state (decide txn) at may = decide_follows ledger v state txn at may
calls_are_steps ledger v state (undo_one txn) at may =
    let follows = undone_follows ledger v state txn (rest_to_undo state.log txn) refl at may (calls_keep_replica (ledger.logs v) state (undo_one txn) at tt) in
    record { enabled = follows.0; after = follows.1 }
calls_are_steps ledger v state (end txn commit) at may = end_follows ledger v state txn commit at may

pub calls_keep_order : CallsKeepOrder
calls_keep_order ledger v state call at may ordered = ordered_after_steps ledger (steps_of v state call) ordered (calls_are_steps ledger v state call at may).enabled

-- ---- from the start

-- what an event leaves
event_follows : (ledger : Ledger) (v : ℕ) (state : State) (event : Event) → IsAt ledger v state → MayHappen ledger v event → IsOrdered ledger →
    IsOrdered (after_steps ledger (steps_of_event v state event)) × IsAt (after_steps ledger (steps_of_event v state event)) v (after_event state event)
event_follows ledger v state (calls call) at may ordered = (calls_keep_order ledger v state call at may ordered, (calls_are_steps ledger v state call at may).after)
event_follows ledger v state (joins txn) at may ordered =
    (ordered_after_steps ledger (join txn ∷ []) ordered (may, tt), at)

events_follow : (ledger : Ledger) (v : ℕ) (state : State) (events : List Event) → IsAt ledger v state → MayHappenInTurn ledger v state events → IsOrdered ledger →
    IsOrdered (ledger_after ledger v state events) × IsAt (ledger_after ledger v state events) v (state_after state events)
events_follow ledger v state [] at may ordered = (ordered, at)
events_follow ledger v state (event ∷ events) at may ordered =
    let next = event_follows ledger v state event at may.0 ordered in
    events_follow (after_steps ledger (steps_of_event v state event)) v (after_event state event) events next.1 may.1 next.0

pub events_make_order : EventsMakeOrder
events_make_order on v events may =
    events_follow (new_ledger on) v (new_state 1) events new_is_sound may (new_ordered on)
