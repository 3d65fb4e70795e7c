-- What the end of a transaction makes of the stages of a log: its rollback leaves each, and its End is its last record.
use Rattle.std.proofs.Common.{◌≡◌, ℕ, Bool, true, false, not, List, [], ◌∷◌, refl, sym, ap, ◌∙◌, subst}
use Rattle.std.proofs.lemmas.Bool.{false≢true, and_parts}
use Rattle.cl_types.specs.declared.operations.TxnId.{TxnId}
use Rattle.cl_types.proofs.Transactions.{same_txn-itself}
use Rattle.cl_locks.specs.Grants.{Grant}
use Rattle.cl_log.specs.declared.records.LogRec.{LogRec}
use Rattle.cl_log.specs.declared.records.LogRec.TheVariants.{Set, Add, End}
use Rattle.cl_log.specs.declared.stage.Stage.TheVariants.{Ended}
use Rattle.cl_log.specs.Kind.{is_of, opens, is_prepared, is_end, can_be_undone}
use Rattle.cl_log.specs.LogEntry.{LogEntry}
use Rattle.cl_log.specs.Open.{has_begun, has_ended, is_open, is_under_way}
use Rattle.cl_log.specs.Rest.{rest_to_undo, is_left, is_undone, undo_of}
use Rattle.cl_log.proofs.Open.{cong_stage, is_open-stage}
use Rattle.cl_log.proofs.Rest.{first_of_rest_is}
use Rattle.cl_part.specs.Calls.{after_undo, undo_each, undo_now, after_rollback, after_end, after_abort}
use Rattle.cl_part.specs.State.{State, grants_with, next_entry, after_record}
use Rattle.cl_part.proofs.Undoing.{after_undo-none, after_undo-first}
use Rattle.cl_vnode.specs.Step.{after_finish}
use Rattle.cl_commit.specs.Life.{IsWholePart}
use Rattle.cl_commit.proofs.Stages.{stage_push-end, tests_push-idle}
use Rattle.cl_commit.proofs.Parts.{whole-mark, whole-end, record-others, IsMoved, IsUnmoved}

-- a compensation opens, ends and prepares nothing, and leaves the locks
record IsCompensation (content : LogRec) : Type 0 where
  opens_none : opens content ≡ false
  ends_none : is_end content ≡ false
  prepares_none : is_prepared content ≡ false
  leaves_locks : (grants : List Grant) → grants_with content grants ≡ grants

undo-compensates : (content : LogRec) (number now : ℕ) → can_be_undone content ≡ true → IsCompensation (undo_of content number now)
undo-compensates (Set txn table key before old new) number now h = record { opens_none = refl; ends_none = refl; prepares_none = refl; leaves_locks = λ grants. refl }
undo-compensates (Add txn table key before amount) number now h = record { opens_none = refl; ends_none = refl; prepares_none = refl; leaves_locks = λ grants. refl }
undo-compensates content number now h = absurd (false≢true h)

unmoved-itself : (state : State) → IsWholePart state → IsUnmoved state state
unmoved-itself state whole = record { whole = whole; same = λ txn. refl }

compensated : (state : State) (content : LogRec) → IsWholePart state → IsCompensation content → IsUnmoved state (after_record state content)
unfolding after_record
compensated state content whole is = record {
  whole = whole-mark state content whole is.ends_none (is.leaves_locks state.grants);
  same = λ other. (let t = tests_push-idle state.log (next_entry state content) (record { opens_none = is.opens_none; ends_none = is.ends_none; prepares_none = is.prepares_none }) other in cong_stage t.begun_is t.ended_is t.prepared_is);
}

-- one step of a rollback
undo-leaves : (state : State) (txn : TxnId) → IsWholePart state → IsUnmoved state (after_undo state txn)
undo-leaves state txn whole = by (rest_to_undo state.log txn) refl
  where
    by : (rest : List LogEntry) → rest_to_undo state.log txn ≡ rest → IsUnmoved state (after_undo state txn)
    by [] none = subst (IsUnmoved state) (sym (after_undo-none state txn none)) (unmoved-itself state whole)
    by (first ∷ others) rest =
        let is = first_of_rest_is state.log txn first others rest in
        let left : (is_of txn first.content ≡ true) × (is_left state.log first ≡ true) = and_parts _ _ is.left in
        let undoable : can_be_undone first.content ≡ true = (and_parts (can_be_undone first.content) (not (is_undone state.log first.number)) left.1).0 in
        subst (IsUnmoved state) (sym (after_undo-first state txn first others rest)) (compensated state (undo_now state first) whole (undo-compensates first.content first.number _ undoable))

each-leaves : (rest : List LogEntry) (state : State) (txn : TxnId) → IsWholePart state → IsUnmoved state (undo_each state txn rest)
each-leaves [] state txn whole = unmoved-itself state whole
each-leaves (entry ∷ rest) state txn whole =
    let once = undo-leaves state txn whole in
    let more = each-leaves rest (after_undo state txn) txn once.whole in
    record { whole = more.whole; same = λ other. more.same other ∙ once.same other }

rollback-leaves : (state : State) (txn : TxnId) → IsWholePart state → IsUnmoved state (after_rollback state txn)
unfolding after_rollback
rollback-leaves state txn whole = each-leaves (rest_to_undo state.log txn) state txn whole

-- the End of an open transaction
end-moves : (state : State) (txn : TxnId) (commit : Bool) → IsWholePart state → is_open state.log txn ≡ true → IsMoved txn state (after_end state txn commit) Ended
unfolding after_end after_record
end-moves state txn commit whole opened =
    let begun : has_begun state.log txn ≡ true = (and_parts (has_begun state.log txn) (not (has_ended state.log txn)) opened).0 in
    record {
      whole = whole-end state txn commit whole begun;
      now = stage_push-end state.log state.next txn commit begun;
      others = record-others state (End txn commit) txn (same_txn-itself txn);
    }

abort-moves : (state : State) (txn : TxnId) → IsWholePart state → is_open state.log txn ≡ true → IsMoved txn state (after_abort state txn) Ended
unfolding after_abort
abort-moves state txn whole opened =
    let back = rollback-leaves state txn whole in
    let open_still : is_open (after_rollback state txn).log txn ≡ true = is_open-stage (after_rollback state txn).log txn ∙ ap is_under_way (back.same txn) ∙ sym (is_open-stage state.log txn) ∙ opened in
    let ends = end-moves (after_rollback state txn) txn false back.whole open_still in
    record { whole = ends.whole; now = ends.now; others = λ other differ. ends.others other differ ∙ back.same other }

-- an open transaction ends, with commit or without
pub finish-moves : (state : State) (txn : TxnId) (commit : Bool) → IsWholePart state → is_open state.log txn ≡ true → IsMoved txn state (after_finish state txn commit) Ended
finish-moves state txn true whole opened = end-moves state txn true whole opened
finish-moves state txn false whole opened = abort-moves state txn whole opened
