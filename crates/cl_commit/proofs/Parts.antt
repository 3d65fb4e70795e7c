-- What each call of a participant makes of the stages of its log.
use Rattle.std.proofs.Common.{◌≡◌, ℕ, Bool, true, false, cond, not, inl, inr, List, [], ◌∷◌, ◌++◌, Option, Some, None, is_some, option_map, All, refl, sym, ap, ◌∙◌, subst}
use Rattle.std.specs.List.{find}
use Rattle.std.proofs.lemmas.Bool.{true≢false, cases_Bool, and_parts, not-true}
use Rattle.std.proofs.lemmas.List.Elements.{All-push, All-weaker, All-filter, All-head, All-tail, filter_passes}
use Rattle.cl_types.specs.declared.answers.Answer.{Answer as OpAnswer}
use Rattle.cl_types.specs.declared.answers.Reply.{Reply}
use Rattle.cl_types.specs.declared.answers.Reply.TheVariants.{Sum}
use Rattle.cl_types.specs.declared.operations.Mode.{Mode}
use Rattle.cl_types.specs.declared.operations.Mode.TheVariants.{Shared, Exclusive}
use Rattle.cl_types.specs.declared.operations.Op.{Op}
use Rattle.cl_types.specs.declared.operations.Op.TheVariants.{Get, Put, Del, Add as PlainAdd}
use Rattle.cl_types.specs.declared.operations.TxnId.{TxnId}
use Rattle.cl_types.specs.Places.{Place, Stored}
use Rattle.cl_types.specs.Plain.{plain_reply}
use Rattle.cl_types.specs.Transactions.{same_txn}
use Rattle.cl_types.proofs.Transactions.{same_txn-true, same_txn-itself}
use Rattle.cl_locks.specs.declared.answers.Granted.{Granted}
use Rattle.cl_locks.specs.declared.answers.Granted.TheVariants.{New, Stronger, Already}
use Rattle.cl_locks.specs.Grants.{Grant, is_of as is_grant_of, own_grant, mode_held, with_grant, granted_as, after_grant, without_txn, without_lock}
use Rattle.cl_log.specs.declared.records.LogRec.{LogRec}
use Rattle.cl_log.specs.declared.records.LogRec.TheVariants.{Touch, Set, Prepared as PreparedRecord, End, Decide}
use Rattle.cl_log.specs.declared.stage.Stage.{Stage}
use Rattle.cl_log.specs.declared.stage.Stage.TheVariants.{Running, Prepared}
use Rattle.cl_log.specs.Kind.{is_of, txn_of, opens, is_prepared, is_end}
use Rattle.cl_log.specs.LogEntry.{LogEntry}
use Rattle.cl_log.specs.Open.{has_begun, has_ended, is_open, stage_of, is_under_way}
use Rattle.cl_log.proofs.Open.{cong_stage, is_open_push-begun, is_open_push-other, is_open_push-opens, is_open-stage, has_ended_push-other}
use Rattle.cl_order.specs.Operations.{touch_of, removal_of, sum_of, addition_of, record_of}
use Rattle.cl_part.specs.Calls.{refusing, answer_by, answer_to, record_left, unless_refused, after_op, after_prepare, after_decide}
use Rattle.cl_part.specs.State.{State, grants_with, next_entry, after_record, after_optional}
use Rattle.cl_commit.specs.Life.{IsWholePart}
use Rattle.cl_commit.specs.Standing.{IsUnprepared, IsAnswered}
use Rattle.cl_commit.proofs.Stages.{unprepared-not_prepared, unprepared-not_ended, stage_push-other, begun_push, ended_push-idle, tests_push-idle, stage_push-operation, stage_push-prepared}

-- ---- a whole participant takes a record

module _ (state : State) (content : LogRec) (whole : IsWholePart state) where
  -- who is open stays open where the record ends nothing
  open-stays : is_end content ≡ false → (grant : Grant) → is_open state.log grant.txn ≡ true → is_open (state.log ++ next_entry state content ∷ []) grant.txn ≡ true
  open-stays on grant is =
      let parts : (has_begun state.log grant.txn ≡ true) × (not (has_ended state.log grant.txn) ≡ true) = and_parts _ _ is in
      is_open_push-begun grant.txn state.log (next_entry state content) parts.0 on ∙ is

  begun-stays : is_end content ≡ false → (txn : TxnId) → has_ended (state.log ++ next_entry state content ∷ []) txn ≡ true → has_begun (state.log ++ next_entry state content ∷ []) txn ≡ true
  begun-stays on txn ended = begun_push state.log (next_entry state content) txn (whole.begun txn (sym (ended_push-idle state.log (next_entry state content) txn on) ∙ ended))

  -- a record that leaves the locks and ends nothing
  pub whole-mark : is_end content ≡ false → grants_with content state.grants ≡ state.grants → IsWholePart (after_record state content)
  unfolding after_record
  whole-mark on same = record {
    held = subst (All (λ grant. is_open (state.log ++ next_entry state content ∷ []) grant.txn ≡ true)) (sym same)
        (All-weaker (λ grant. is_open state.log grant.txn ≡ true) (λ grant. is_open (state.log ++ next_entry state content ∷ []) grant.txn ≡ true) (open-stays on) state.grants whole.held);
    begun = begun-stays on;
  }

-- what holds of each lock and of one more
All-granted : (P : Grant → Type 0) (grants : List Grant) (grant : Grant) → All P grants → P grant → All P (after_grant grants grant)
unfolding after_grant without_lock
All-granted P grants grant all one = by (granted_as (mode_held grants grant.txn grant.place) grant.mode)
  where
    by : (as_is : Granted) → All P (with_grant as_is grants grant)
    by New = All-push P grants grant all one
    by Stronger = All-push P _ grant (All-filter (λ x. not (is_grant_of grant.txn grant.place x)) P grants all) one
    by Already = all

-- the record of an operation of the transaction: it enters a lock
pub record IsOperationRecord (txn : TxnId) (content : LogRec) : Type 0 where
  pub own : is_of txn content ≡ true
  pub opened : opens content ≡ true
  pub on : is_end content ≡ false
  pub unprepared : is_prepared content ≡ false
  pub grant : Grant
  pub of : grant.txn ≡ txn
  pub grants : (before : List Grant) → grants_with content before ≡ after_grant before grant

pub whole-operation : (state : State) (content : LogRec) (txn : TxnId) → IsWholePart state → IsOperationRecord txn content → has_ended state.log txn ≡ false → IsWholePart (after_record state content)
unfolding after_record
whole-operation state content txn whole is running =
    let P : Grant → Type 0 = λ grant. is_open (state.log ++ next_entry state content ∷ []) grant.txn ≡ true in
    record {
      held = subst (All P) (sym (is.grants state.grants)) (All-granted P state.grants is.grant
          (All-weaker (λ grant. is_open state.log grant.txn ≡ true) P (open-stays state content whole is.on) state.grants whole.held)
          (subst (λ t. is_open (state.log ++ next_entry state content ∷ []) t ≡ true) (sym is.of) (is_open_push-opens txn state.log (next_entry state content) is.own is.opened is.on running)));
      begun = begun-stays state content whole is.on;
    }

-- an End frees the locks of its transaction
pub whole-end : (state : State) (txn : TxnId) (commit : Bool) → IsWholePart state → has_begun state.log txn ≡ true → IsWholePart (after_record state (End txn commit))
unfolding after_record without_txn
whole-end state txn commit whole begun =
    let p : Grant → Bool = λ grant. not (same_txn txn grant.txn) in
    let held = All-filter p (λ grant. is_open state.log grant.txn ≡ true) state.grants whole.held in
    let apart = filter_passes p state.grants in
    record {
      held = λ k d h. (is_open_push-other _ state.log (next_entry state (End txn commit)) (not-true _ (apart k d h)) ∙ held k d h);
      begun = λ other ended. elim (cases_Bool (same_txn txn other)) [
        | inl same ↦ subst (λ t. has_begun (state.log ++ next_entry state (End txn commit) ∷ []) t ≡ true) (same_txn-true txn other same) (begun_push state.log (next_entry state (End txn commit)) txn begun)
        | inr differ ↦ begun_push state.log (next_entry state (End txn commit)) other (whole.begun other (sym (has_ended_push-other other state.log (next_entry state (End txn commit)) differ) ∙ ended))
      ];
    }

-- ---- an operation

-- the record that is left is one of the transaction, and where there is none it holds a lock
abbrev LeftBy : TxnId → Option Mode → Option LogRec → Type 0
LeftBy txn held None = is_some held ≡ true
LeftBy txn held (Some content) = IsOperationRecord txn content

touch-record : (txn : TxnId) (place : Place) (mode : Mode) → IsOperationRecord txn (Touch txn place.0 place.1 mode)
touch-record txn place mode = record { own = same_txn-itself txn; opened = refl; on = refl; unprepared = refl; grant = record { txn = txn; place = place; mode = mode }; of = refl; grants = λ before. refl }

set-record : (txn : TxnId) (place : Place) (before : ℕ) (old new : Option (List ℕ)) → IsOperationRecord txn (Set txn place.0 place.1 before old new)
set-record txn place before old new = record { own = same_txn-itself txn; opened = refl; on = refl; unprepared = refl; grant = record { txn = txn; place = place; mode = Exclusive }; of = refl; grants = λ before. refl }

touch-left : (txn : TxnId) (place : Place) (held : Option Mode) (mode : Mode) → LeftBy txn held (touch_of txn place held mode)
touch-left txn place None mode = touch-record txn place mode
touch-left txn place (Some Exclusive) mode = refl
touch-left txn place (Some Shared) Shared = refl
touch-left txn place (Some Shared) Exclusive = touch-record txn place Exclusive

removal-left : (txn : TxnId) (place : Place) (before : ℕ) (value : Option (List ℕ)) (held : Option Mode) → LeftBy txn held (removal_of txn place before value held)
removal-left txn place before None held = touch-left txn place held Exclusive
removal-left txn place before (Some x) held = set-record txn place before (Some x) None

record-left : (txn : TxnId) (place : Place) (op : Op) (stored : Stored) (held : Option Mode) → LeftBy txn held (record_of txn place op stored held)
record-left txn place Get stored held = touch-left txn place held Shared
record-left txn place (Put y) stored held = set-record txn place stored.0 stored.1 (Some y)
record-left txn place Del stored held = removal-left txn place stored.0 stored.1 held
record-left txn place (PlainAdd amount) stored held = by (plain_reply (PlainAdd amount) stored.1)
  where
    sum : (sum : _) (value : Option (List ℕ)) → IsOperationRecord txn (sum_of txn place stored.0 value amount sum)
    sum total None = set-record txn place stored.0 None _
    sum total (Some x) = record { own = same_txn-itself txn; opened = refl; on = refl; unprepared = refl; grant = record { txn = txn; place = place; mode = Exclusive }; of = refl; grants = λ before. refl }

    by : (reply : Reply) → LeftBy txn held (addition_of txn place stored amount reply held)
    by (Sum total) = sum total stored.1
    by reply = touch-left txn place held Exclusive

-- whoever holds a lock is open
holder-open : (log : List LogEntry) (txn : TxnId) (place : Place) (grants : List Grant) → All (λ grant. is_open log grant.txn ≡ true) grants → is_some (mode_held grants txn place) ≡ true → is_open log txn ≡ true
unfolding own_grant
holder-open log txn place [] all h = absurd (true≢false (sym h))
holder-open log txn place (x ∷ xs) all h = by (holder-open log txn place xs (All-tail (λ grant. is_open log grant.txn ≡ true) x xs all)) (is_grant_of txn place x) refl h
  where
    by : (is_some (mode_held xs txn place) ≡ true → is_open log txn ≡ true) → (b : Bool) → is_grant_of txn place x ≡ b → is_some (option_map (λ (g : Grant). g.mode) (cond b (Some x) (find (is_grant_of txn place) xs))) ≡ true → is_open log txn ≡ true
    by rest true own k = subst (λ t. is_open log t ≡ true) (sym (same_txn-true txn x.txn (and_parts _ _ own).0)) (All-head (λ grant. is_open log grant.txn ≡ true) x xs all)
    by rest false own k = rest k

-- who is open and not prepared runs
open-running : (log : List LogEntry) (txn : TxnId) → is_open log txn ≡ true → IsUnprepared (stage_of log txn) → stage_of log txn ≡ Running
open-running log txn opened (inl running) = running
open-running log txn opened (inr unknown) = absurd (true≢false (sym opened ∙ is_open-stage log txn ∙ ap is_under_way unknown))

-- an operation was carried out: other transactions stay as they are, and this one is answered
pub record IsWorked (txn : TxnId) (before after : State) (answer : OpAnswer) : Type 0 where
  pub whole : IsWholePart after
  pub stage : IsAnswered answer (stage_of after.log txn)
  pub others : (other : TxnId) → same_txn txn other ≡ false → stage_of after.log other ≡ stage_of before.log other

pub record-others : (state : State) (content : LogRec) (txn : TxnId) → is_of txn content ≡ true → (other : TxnId) → same_txn txn other ≡ false → stage_of (after_record state content).log other ≡ stage_of state.log other
unfolding after_record
record-others state content txn own other differ =
    stage_push-other state.log (next_entry state content) other (ap (λ t. same_txn t other) (same_txn-true (txn_of content) txn own) ∙ differ)

module _ (state : State) (txn : TxnId) (whole : IsWholePart state) (before : IsUnprepared (stage_of state.log txn)) where
  done-working : (place : Place) (reply : Reply) (left : Option LogRec) → LeftBy txn (mode_held state.grants txn place) left → IsWorked txn state (after_optional state left) (answer_by None reply)
  unfolding after_record
  done-working place reply None holds = record {
    whole = whole;
    stage = open-running state.log txn (holder-open state.log txn place state.grants whole.held holds) before;
    others = λ other differ. refl;
  }
  done-working place reply (Some content) is = record {
    whole = whole-operation state content txn whole is (unprepared-not_ended state.log txn whole.begun before);
    stage = stage_push-operation state.log (next_entry state content) txn is.own is.opened is.on is.unprepared (unprepared-not_ended state.log txn whole.begun before) (unprepared-not_prepared state.log txn before);
    others = record-others state content txn is.own;
  }

  answer-working : (place : Place) (reply : Reply) (left : Option LogRec) → LeftBy txn (mode_held state.grants txn place) left → (refused : Option TxnId) →
      IsWorked txn state (after_optional state (unless_refused refused left)) (answer_by refused reply)
  answer-working place reply left is None = done-working place reply left is
  answer-working place reply left is (Some holder) = record { whole = whole; stage = before; others = λ other differ. refl }

  pub op-works : (place : Place) (op : Op) → IsWorked txn state (after_op state txn place op) (answer_to state txn place op)
  unfolding after_op answer_to
  op-works place op = answer-working place (plain_reply op (state.stored place).1) (record_left state txn place op) (record-left txn place op (state.stored place) (mode_held state.grants txn place)) (refusing state txn place op)

-- ---- the vote and the decision

-- a participant took a step for the transaction, which then is at a stage
pub record IsMoved (txn : TxnId) (before after : State) (stage : Stage) : Type 0 where
  pub whole : IsWholePart after
  pub now : stage_of after.log txn ≡ stage
  pub others : (other : TxnId) → same_txn txn other ≡ false → stage_of after.log other ≡ stage_of before.log other

pub prepare-moves : (state : State) (txn : TxnId) → IsWholePart state → stage_of state.log txn ≡ Running → IsMoved txn state (after_prepare state txn) Prepared
unfolding after_prepare after_record
prepare-moves state txn whole running = record {
  whole = whole-mark state (PreparedRecord txn) whole refl refl;
  now = stage_push-prepared state.log state.next txn running;
  others = record-others state (PreparedRecord txn) txn (same_txn-itself txn);
}

-- a Decide leaves each stage
pub record IsUnmoved (before after : State) : Type 0 where
  pub whole : IsWholePart after
  pub same : (txn : TxnId) → stage_of after.log txn ≡ stage_of before.log txn

pub decide-leaves : (state : State) (txn : TxnId) → IsWholePart state → IsUnmoved state (after_decide state txn)
unfolding after_decide after_record
decide-leaves state txn whole = record {
  whole = whole-mark state (Decide txn) whole refl refl;
  same = λ other. (let t = tests_push-idle state.log (next_entry state (Decide txn)) (record { opens_none = refl; ends_none = refl; prepares_none = refl }) other in cong_stage t.begun_is t.ended_is t.prepared_is);
}
