-- Of an operation and of an end nothing is told.
use Rattle.std.proofs.Common.{◌≡◌, ℕ, Bool, true, false, List, [], ◌∷◌, Option, Some, None, refl, subst}
use Rattle.std.proofs.lemmas.Bool.{false≢true}
use Rattle.cl_types.specs.declared.operations.Op.{Op}
use Rattle.cl_types.specs.declared.operations.TxnId.{TxnId}
use Rattle.cl_types.specs.Places.{Place, Stored}
use Rattle.cl_locks.specs.Grants.{mode_held}
use Rattle.cl_log.specs.declared.records.LogRec.{LogRec}
use Rattle.cl_log.specs.declared.records.LogRec.TheVariants as records
use Rattle.cl_log.specs.Kind.{can_be_undone}
use Rattle.cl_log.specs.LogEntry.{LogEntry}
use Rattle.cl_log.specs.Rest.{rest_to_undo, undo_of}
use Rattle.cl_order.proofs.Records.{Fits as FitsOperation, Fitting, record_fits}
use Rattle.cl_part.proofs.Soundness.{left_undoable}
use Rattle.cl_part.specs.Calls.{refusing, record_left, unless_refused, after_op, after_end, first_undone, undo_now, after_undo, undo_each, after_rollback, after_abort}
use Rattle.cl_part.specs.State.{State}
use Rattle.cl_vnode.specs.Step.{Stepped, after_finish, told}
use Rattle.cl_lone.proofs.Growing.{IsBelow, IsPlain, HasGrown, grown-none, grown-record, grown-optional}

-- ---- an operation

operation-plain : (txn : TxnId) (place : Place) (op : Op) (before : ℕ) (value : Option (List ℕ)) (content : LogRec) → FitsOperation txn place op before value content →
    (primary : ℕ → ℕ) (done : Stepped) (number : ℕ) → told primary done number content ≡ done
unfolding told
operation-plain txn place op before value (records.Prepared other) fits primary done number = let locks = fits.locks in cc
operation-plain txn place op before value (records.Decide other) fits primary done number = let locks = fits.locks in cc
operation-plain txn place op before value content fits primary done number = refl

left-plain : (part : State) (txn : TxnId) (place : Place) (op : Op) (refused : Option TxnId) (content : LogRec) →
    unless_refused refused (record_left part txn place op) ≡ Some content → IsPlain content
left-plain part txn place op (Some holder) content is = let none : ◌≡◌ {A = Option LogRec} None (Some content) = is in absurd (cc)
left-plain part txn place op None content is =
    let stands : Stored = part.stored place in
    operation-plain txn place op stands.0 stands.1 content
    (subst (Fitting txn place op stands.0 stands.1 (mode_held part.grants txn place)) is (record_fits txn place op stands.0 stands.1 (mode_held part.grants txn place)))

pub grown-op : (part : State) (txn : TxnId) (place : Place) (op : Op) → IsBelow part → HasGrown part (after_op part txn place op)
unfolding after_op
grown-op part txn place op is =
    grown-optional part part (unless_refused (refusing part txn place op) (record_left part txn place op)) (left-plain part txn place op (refusing part txn place op)) (grown-none part is)

-- ---- an end

end-plain : (txn : TxnId) (commit : Bool) → IsPlain (records.End txn commit)
unfolding told
end-plain txn commit primary done number = refl

grown-end : (before part : State) (txn : TxnId) (commit : Bool) → HasGrown before part → HasGrown before (after_end part txn commit)
unfolding after_end
grown-end before part txn commit grown = grown-record before part (records.End txn commit) (end-plain txn commit) grown

undo-plain : (content : LogRec) (undone now : ℕ) → can_be_undone content ≡ true → (primary : ℕ → ℕ) (done : Stepped) (number : ℕ) → told primary done number (undo_of content undone now) ≡ done
unfolding told
undo-plain (records.Prepared txn) undone now is primary done number = absurd (false≢true is)
undo-plain (records.Decide txn) undone now is primary done number = absurd (false≢true is)
undo-plain (records.Touch txn table key mode) undone now is primary done number = refl
undo-plain (records.Set txn table key before old new) undone now is primary done number = refl
undo-plain (records.Add txn table key before amount) undone now is primary done number = refl
undo-plain (records.Comp txn table key before of form) undone now is primary done number = refl
undo-plain (records.End txn commit) undone now is primary done number = refl

first-plain : (part : State) (txn : TxnId) (rest : List LogEntry) → rest_to_undo part.log txn ≡ rest → (content : LogRec) → first_undone part rest ≡ Some content → IsPlain content
first-plain part txn [] left content is = let none : ◌≡◌ {A = Option LogRec} None (Some content) = is in absurd (cc)
first-plain part txn (first ∷ others) left content is =
    let both : ◌≡◌ {A = Option LogRec} (Some (undo_now part first)) (Some content) = is in
    let same : undo_now part first ≡ content = cc in
    subst IsPlain same (undo-plain first.content first.number _ (left_undoable part.log txn first others left))

grown-undo : (before part : State) (txn : TxnId) → HasGrown before part → HasGrown before (after_undo part txn)
unfolding after_undo
grown-undo before part txn grown = grown-optional before part (first_undone part (rest_to_undo part.log txn)) (first-plain part txn (rest_to_undo part.log txn) refl) grown

grown-each : (before part : State) (txn : TxnId) (rest : List LogEntry) → HasGrown before part → HasGrown before (undo_each part txn rest)
grown-each before part txn [] grown = grown
grown-each before part txn (entry ∷ rest) grown = grown-each before (after_undo part txn) txn rest (grown-undo before part txn grown)

pub grown-finish : (part : State) (txn : TxnId) (commit : Bool) → IsBelow part → HasGrown part (after_finish part txn commit)
unfolding after_abort after_rollback
grown-finish part txn true is = grown-end part part txn true (grown-none part is)
grown-finish part txn false is = grown-end part (after_rollback part txn) txn false (grown-each part part txn (rest_to_undo part.log txn) (grown-none part is))
