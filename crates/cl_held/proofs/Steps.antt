-- A step of a replica without a standby leaves its log tidy.
use Rattle.std.proofs.Common.{◌≡◌, ℕ, Bool, true, false, ◌&&◌, ◌⊎◌, inl, inr, List, [], ◌∷◌, Option, Some, None, refl, sym, ◌∙◌, ap, subst}
use Rattle.std.proofs.lemmas.Bool.{cond_both, false≢true}
use Rattle.cl_commit.proofs.Parts.{decide-leaves}
use Rattle.cl_commit.specs.Life.{IsWholePart}
use Rattle.cl_control.specs.Calls.{after_command, command_acts, counts_vote, is_last_vote, after_vote}
use Rattle.cl_locks.specs.Grants.{mode_held}
use Rattle.cl_log.specs.declared.records.LogRec.{LogRec}
use Rattle.cl_log.specs.declared.records.LogRec.TheVariants as records
use Rattle.cl_log.specs.Kind.{txn_of, can_be_undone}
use Rattle.cl_log.specs.Lawful.{is_decide}
use Rattle.cl_log.specs.LogEntry.{LogEntry}
use Rattle.cl_log.specs.Open.{is_among, has_prepared, is_open, stage_of}
use Rattle.cl_log.specs.Rest.{rest_to_undo, undo_of}
use Rattle.cl_lone.specs.Lone.{controlled, committed, command_of, lone_step}
use Rattle.cl_node.specs.Addressing.{home_in}
use Rattle.cl_order.proofs.Records.{Fits as FitsOperation, Fitting, record_fits}
use Rattle.cl_part.proofs.Soundness.{left_undoable}
use Rattle.cl_part.specs.Calls.{refusing, record_left, unless_refused, after_op, after_prepare, after_decide, after_end, first_undone, undo_now, after_undo, undo_each, after_rollback, after_abort}
use Rattle.cl_part.specs.State.{State, next_entry, after_record, after_optional}
use Rattle.cl_system.specs.Roles.{IsOfSession}
use Rattle.cl_types.specs.declared.operations.Op.{Op}
use Rattle.cl_types.specs.declared.operations.TxnId.{TxnId}
use Rattle.cl_types.specs.Places.{Place, Stored}
use Rattle.cl_vnode.specs.Inputs.{has_decide}
use Rattle.cl_vnode.specs.Replica.{ReplicaState}
use Rattle.cl_vnode.specs.Step.{Stepped, started, with_part, after_finish, asked, prepared, finished}
use Rattle.cl_wire.specs.Message.{Content, Command, Answer, Vote, Ask, Prepare, Finish, Decision}
use Rattle.cl_held.specs.Work.{is_work}
use Rattle.cl_held.proofs.Tidy.{DecidesAt, IsTidy, tidy_idle, tidy_work}

-- what is no Decide decides nothing
decides_none : (nodes v : ℕ) (content : LogRec) → is_decide content ≡ false → DecidesAt nodes v content
decides_none nodes v (records.Decide txn) none = absurd (let e : true ≡ false = none in cc)
decides_none nodes v content none = tt

-- a compensation is no work
undo_no_work : (content : LogRec) (number now : ℕ) → can_be_undone content ≡ true → is_work (undo_of content number now) ≡ false
undo_no_work (records.Touch txn table key mode) number now is = absurd (false≢true is)
undo_no_work (records.Set txn table key before old new) number now is = refl
undo_no_work (records.Add txn table key before amount) number now is = refl
undo_no_work (records.Comp txn table key before of form) number now is = absurd (false≢true is)
undo_no_work (records.Prepared txn) number now is = absurd (false≢true is)
undo_no_work (records.End txn commit) number now is = absurd (false≢true is)
undo_no_work (records.Decide txn) number now is = absurd (false≢true is)

-- and no Decide
undo_no_decide : (content : LogRec) (number now : ℕ) → can_be_undone content ≡ true → is_decide (undo_of content number now) ≡ false
undo_no_decide (records.Decide txn) number now is = absurd (false≢true is)
undo_no_decide (records.Touch txn table key mode) number now is = refl
undo_no_decide (records.Set txn table key before old new) number now is = refl
undo_no_decide (records.Add txn table key before amount) number now is = refl
undo_no_decide (records.Comp txn table key before of form) number now is = refl
undo_no_decide (records.Prepared txn) number now is = refl
undo_no_decide (records.End txn commit) number now is = refl

module _ (nodes v : ℕ) (history : List TxnId) where
  -- the participant's log is tidy
  abbrev pub HasTidy : State → Type 0
  HasTidy part = IsTidy nodes v history part.log

  -- one record more, which is no work
  idle_tidy : (part : State) (content : LogRec) → is_work content ≡ false → DecidesAt nodes v content → HasTidy part → HasTidy (after_record part content)
  unfolding after_record
  idle_tidy part content idle decides tidy = tidy_idle nodes v history part.log (next_entry part content) tidy decides idle

  -- a compensation
  undone_tidy : (part : State) (txn : TxnId) (rest : List LogEntry) → rest_to_undo part.log txn ≡ rest → HasTidy part → HasTidy (after_optional part (first_undone part rest))
  undone_tidy part txn [] left tidy = tidy
  undone_tidy part txn (first ∷ others) left tidy =
      let can : can_be_undone first.content ≡ true = left_undoable part.log txn first others left in
      idle_tidy part (undo_now part first) (undo_no_work first.content first.number _ can) (decides_none nodes v _ (undo_no_decide first.content first.number _ can)) tidy

  -- an undo step
  undo_tidy : (part : State) (txn : TxnId) → HasTidy part → HasTidy (after_undo part txn)
  unfolding after_undo
  undo_tidy part txn tidy = undone_tidy part txn (rest_to_undo part.log txn) refl tidy

  -- as many as these entries
  each_tidy : (part : State) (txn : TxnId) (rest : List LogEntry) → HasTidy part → HasTidy (undo_each part txn rest)
  each_tidy part txn [] tidy = tidy
  each_tidy part txn (entry ∷ rest) tidy = each_tidy (after_undo part txn) txn rest (undo_tidy part txn tidy)

  -- an end
  end_tidy : (part : State) (txn : TxnId) (commit : Bool) → HasTidy part → HasTidy (after_end part txn commit)
  unfolding after_end
  end_tidy part txn commit tidy = idle_tidy part (records.End txn commit) refl tt tidy

  -- an end, with its rollback where it is an abort
  finish_tidy : (part : State) (txn : TxnId) (commit : Bool) → HasTidy part → HasTidy (after_finish part txn commit)
  unfolding after_abort after_rollback
  finish_tidy part txn true tidy = end_tidy part txn true tidy
  finish_tidy part txn false tidy = end_tidy (undo_each part txn (rest_to_undo part.log txn)) txn false (each_tidy part txn (rest_to_undo part.log txn) tidy)

  -- a decision
  decide_tidy : (part : State) (txn : TxnId) → home_in nodes txn ≡ v → IsOfSession txn → HasTidy part → HasTidy (after_decide part txn)
  unfolding after_decide
  decide_tidy part txn home own tidy = idle_tidy part (records.Decide txn) refl (home, own) tidy

  -- a vote
  prepare_tidy : (part : State) (txn : TxnId) → has_prepared part.log txn ≡ false → HasTidy part → HasTidy (after_prepare part txn)
  unfolding after_prepare after_record
  prepare_tidy part txn unvoted tidy = tidy_work nodes v history part.log (next_entry part (records.Prepared txn)) tidy tt unvoted (inl refl)

  -- the record of an operation
  left_tidy : (part : State) (txn : TxnId) (left : Option LogRec) → has_prepared part.log txn ≡ false → is_among txn history ≡ false →
      ((content : LogRec) → left ≡ Some content → (txn_of content ≡ txn) × (is_decide content ≡ false)) → HasTidy part → HasTidy (after_optional part left)
  unfolding after_record
  left_tidy part txn None unvoted outside fits tidy = tidy
  left_tidy part txn (Some content) unvoted outside fits tidy =
      let is = fits content refl in
      tidy_work nodes v history part.log (next_entry part content) tidy (decides_none nodes v content is.1)
      (ap (has_prepared part.log) is.0 ∙ unvoted) (inr (ap (λ t. is_among t history) is.0 ∙ outside))

  -- which is of its transaction, and no Decide
  op_fits : (part : State) (txn : TxnId) (place : Place) (op : Op) (refused : Option TxnId) (content : LogRec) →
      unless_refused refused (record_left part txn place op) ≡ Some content → (txn_of content ≡ txn) × (is_decide content ≡ false)
  op_fits part txn place op (Some holder) content is = let none : ◌≡◌ {A = Option LogRec} None (Some content) = is in absurd (cc)
  op_fits part txn place op None content is =
      let stands : Stored = part.stored place in
      let fits : FitsOperation txn place op stands.0 stands.1 content =
      subst (Fitting txn place op stands.0 stands.1 (mode_held part.grants txn place)) is
      (record_fits txn place op stands.0 stands.1 (mode_held part.grants txn place)) in
      (fits.own, fits.no_decide)

  -- an operation
  op_tidy : (part : State) (txn : TxnId) (place : Place) (op : Op) → has_prepared part.log txn ≡ false → is_among txn history ≡ false → HasTidy part →
      HasTidy (after_op part txn place op)
  unfolding after_op
  op_tidy part txn place op unvoted outside tidy =
      left_tidy part txn (unless_refused (refusing part txn place op) (record_left part txn place op)) unvoted outside
      (op_fits part txn place op (refusing part txn place op)) tidy

  -- what must be so of a message that comes
  abbrev pub Comes : State → Content → Type 0
  Comes part (Command w txn number what) = (home_in nodes txn ≡ v) × IsOfSession txn
  Comes part (Vote w txn) = (home_in nodes txn ≡ v) × IsOfSession txn
  Comes part (Ask w txn number table key op) = (has_prepared part.log txn ≡ false) × (is_among txn history ≡ false)
  Comes part (Prepare w txn) = has_prepared part.log txn ≡ false
  Comes part content = Unit {0}

  -- after a step the log is tidy, and where a transaction was decided, all stand as before
  pub record IsTurn (part : State) (next : Stepped) : Type 0 where
    pub tidy : HasTidy next.state.part
    pub decides : (next.step.firm ≡ []) ⊎ ((txn : TxnId) → stage_of next.state.part.log txn ≡ stage_of part.log txn)

  module _ (primary : ℕ → ℕ) (state : ReplicaState) (tidy : HasTidy state.part) (whole : IsWholePart state.part) where
    -- nothing is appended or decided
    idle_turn : (next : Stepped) → next.state.part ≡ state.part → next.step.firm ≡ [] → IsTurn state.part next
    idle_turn next same none = record { tidy = subst HasTidy (sym same) tidy; decides = inl none }

    -- a decision
    committed_turn : (txn : TxnId) (number : ℕ) → home_in nodes txn ≡ v → IsOfSession txn → IsTurn state.part (committed primary state txn number)
    committed_turn txn number home own = record {
      tidy = decide_tidy state.part txn home own tidy;
      decides = inr (decide-leaves state.part txn whole).same;
    }

    -- an operation
    asked_turn : (from w : ℕ) (txn : TxnId) (number : ℕ) (place : Place) (op : Op) (mark : Bool) → has_prepared state.part.log txn ≡ false → is_among txn history ≡ false →
        IsTurn state.part (asked (started state) from w txn number place op mark)
    unfolding asked
    asked_turn from w txn number place op true unvoted outside = idle_turn _ refl refl
    asked_turn from w txn number place op false unvoted outside = record { tidy = op_tidy state.part txn place op unvoted outside tidy; decides = inl refl }

    -- an end
    finished_turn : (txn : TxnId) (commit : Bool) → IsTurn state.part (finished (started state) txn commit)
    unfolding finished
    finished_turn txn commit =
        cond_both (is_open state.part.log txn) (with_part (started state) (after_finish state.part txn commit)) (started state) (IsTurn state.part)
        (λ _. record { tidy = finish_tidy state.part txn commit tidy; decides = inl refl })
        (λ _. idle_turn (started state) refl refl)

    -- a step
    pub turn : (from : ℕ) (content : Content) (mark : Bool) → Comes state.part content → IsTurn state.part (lone_step primary state from content mark)
    unfolding lone_step prepared
    turn from (Command w txn number what) mark comes =
        cond_both (has_decide (command_acts state.control txn number what)) (committed primary state txn number)
        (controlled primary state (after_command state.control txn number what) (command_acts state.control txn number what)) (IsTurn state.part)
        (λ _. committed_turn txn number comes.0 comes.1) (λ _. idle_turn _ refl refl)
    turn from (Answer w txn number answer) mark comes = idle_turn _ refl refl
    turn from (Vote w txn) mark comes =
        cond_both (counts_vote state.control w txn && is_last_vote state.control w txn) (committed primary state txn (command_of state.control txn))
        (controlled primary state (after_vote state.control w txn) []) (IsTurn state.part)
        (λ _. committed_turn txn (command_of state.control txn) comes.0 comes.1) (λ _. idle_turn _ refl refl)
    turn from (Ask w txn number table key op) mark comes = asked_turn from w txn number (table, key) op mark comes.0 comes.1
    turn from (Prepare w txn) mark comes = record { tidy = prepare_tidy state.part txn comes tidy; decides = inl refl }
    turn from (Finish w txn commit) mark comes = finished_turn txn commit
    turn from (Decision w txn commit) mark comes = finished_turn txn commit
    turn from content mark comes = idle_turn _ refl refl
