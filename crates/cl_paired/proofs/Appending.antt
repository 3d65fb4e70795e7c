-- Records that a participant appends: of an operation and of an end nothing is told.
use Rattle.std.proofs.Common.{◌≡◌, ℕ, Bool, true, false, List, [], ◌∷◌, ◌++◌, All, Option, Some, None, refl, sym, ap, ◌∙◌, subst, append_assoc, arith}
use Rattle.std.proofs.lemmas.Bool.{false≢true}
use Rattle.std.proofs.lemmas.List.{append-nil, length_push}
use Rattle.std.proofs.lemmas.List.Elements.{All-nil, All-head, All-tail, All-push}
use Rattle.cl_types.specs.declared.operations.Op.{Op}
use Rattle.cl_types.specs.declared.operations.TxnId.{TxnId}
use Rattle.cl_types.specs.Places.{Place, Stored}
use Rattle.cl_locks.specs.Grants.{mode_held}
use Rattle.cl_log.specs.declared.records.LogRec.{LogRec}
use Rattle.cl_log.specs.declared.records.LogRec.TheVariants as records
use Rattle.cl_log.specs.Kind.{can_be_undone}
use Rattle.cl_log.specs.LogEntry.{LogEntry}
use Rattle.cl_log.specs.Rest.{rest_to_undo, undo_of}
use Rattle.cl_control.specs.declared.entry.Told.{Told}
use Rattle.cl_control.specs.State.{ControlState}
use Rattle.cl_order.proofs.Records.{Fits as FitsOperation, Fitting, record_fits}
use Rattle.cl_part.proofs.Soundness.{left_undoable}
use Rattle.cl_part.specs.Calls.{refusing, record_left, unless_refused, after_op, after_end, first_undone, undo_now, after_undo, undo_each, after_rollback, after_abort}
use Rattle.cl_part.specs.State.{State, next_entry, after_record, after_optional}
use Rattle.cl_steps.specs.declared.steps.Outgoing.{Outgoing}
use Rattle.cl_vnode.specs.Step.{after_finish}
use Rattle.cl_paired.specs.Paired.{told_of, tolds_of}
use Rattle.cl_paired.proofs.Numbers.{numbered-append}
use Rattle.cl_paired.proofs.Seeing.{HasGrown}
use Rattle.cl_paired.proofs.Telling.{messages_from, messages_told}

-- ---- records of which nothing is told

-- nothing is told of the record
abbrev is_plain : LogRec → Bool
is_plain (records.Prepared txn) = false
is_plain (records.Decide txn) = false
is_plain content = true

-- nothing is told of the entry
abbrev IsPlain : LogEntry → Type 0
IsPlain entry = is_plain entry.content ≡ true

-- it is no Decide
no_told : (number : ℕ) (content : LogRec) → is_plain content ≡ true → told_of number content ≡ []
no_told number (records.Prepared txn) plain = refl
no_told number (records.Decide txn) plain = absurd (false≢true plain)
no_told number content plain = refl

-- it has no message
no_message : (primary : ℕ → ℕ) (v : ℕ) (control : ControlState) (content : LogRec) → is_plain content ≡ true → messages_from primary v control content ≡ []
no_message primary v control (records.Prepared txn) plain = absurd (false≢true plain)
no_message primary v control (records.Decide txn) plain = absurd (false≢true plain)
no_message primary v control content plain = refl

-- among such entries is no Decide
no_tolds : (entries : List LogEntry) → All IsPlain entries → tolds_of entries ≡ []
no_tolds [] plain = refl
no_tolds (entry ∷ entries) plain =
    ap (λ (ts : List Told). ts ++ tolds_of entries) (no_told entry.number entry.content (All-head IsPlain entry entries plain))
    ∙ no_tolds entries (All-tail IsPlain entry entries plain)

-- they have no messages
no_messages : (primary : ℕ → ℕ) (v : ℕ) (control : ControlState) (entries : List LogEntry) → All IsPlain entries → messages_told primary v control entries ≡ []
no_messages primary v control [] plain = refl
no_messages primary v control (entry ∷ entries) plain =
    ap (λ (ms : List Outgoing). ms ++ messages_told primary v control entries)
    (no_message primary v control entry.content (All-head IsPlain entry entries plain))
    ∙ no_messages primary v control entries (All-tail IsPlain entry entries plain)

-- ---- records are appended

-- no record is appended
abbrev pub grown-none : (part : State) → HasGrown part part
grown-none part = record { news = []; log = sym (append-nil part.log); numbered = tt; next = omega arith }

-- records were appended of which nothing is told
pub record IsPlainGrown (before after : State) : Type 0 where
  pub grown : HasGrown before after
  pub no_tolds : tolds_of grown.news ≡ []
  pub no_messages : (primary : ℕ → ℕ) (v : ℕ) (control : ControlState) → messages_told primary v control grown.news ≡ []

-- the same, by the records themselves
record GrowsPlain (before after : State) : Type 0 where
  grown : HasGrown before after
  plain : All IsPlain grown.news

-- the second gives the first
plain-grown : (before after : State) → GrowsPlain before after → IsPlainGrown before after
plain-grown before after grows = record {
  grown = grows.grown;
  no_tolds = no_tolds grows.grown.news grows.plain;
  no_messages = λ primary v control. no_messages primary v control grows.grown.news grows.plain;
}

-- no record more
grows-none : (part : State) → GrowsPlain part part
grows-none part = record { grown = grown-none part; plain = All-nil IsPlain }

-- one record more
grows-record : (before part : State) (content : LogRec) → is_plain content ≡ true → GrowsPlain before part → GrowsPlain before (after_record part content)
unfolding after_record
grows-record before part content plain grows = record {
  grown = record {
    news = grows.grown.news ++ next_entry part content ∷ [];
    log = ap (λ (log : List LogEntry). log ++ next_entry part content ∷ []) grows.grown.log
        ∙ append_assoc before.log grows.grown.news (next_entry part content ∷ []);
    numbered = numbered-append before.next part.next grows.grown.news (next_entry part content ∷ []) grows.grown.next grows.grown.numbered (refl, tt);
    next = omega (arith, grows.grown.next, length_push grows.grown.news (next_entry part content));
  };
  plain = All-push IsPlain grows.grown.news (next_entry part content) grows.plain plain;
}

-- one record more, where there is one
grows-optional : (before part : State) (left : Option LogRec) → ((content : LogRec) → left ≡ Some content → is_plain content ≡ true) → GrowsPlain before part →
    GrowsPlain before (after_optional part left)
grows-optional before part None plain grows = grows
grows-optional before part (Some content) plain grows = grows-record before part content (plain content refl) grows

-- ---- an operation

-- the record of an operation is neither a Prepared nor a Decide
operation-plain : (txn : TxnId) (place : Place) (op : Op) (before : ℕ) (value : Option (List ℕ)) (content : LogRec) →
    FitsOperation txn place op before value content →
    is_plain content ≡ true
operation-plain txn place op before value (records.Prepared other) fits = let locks = fits.locks in absurd (cc)
operation-plain txn place op before value (records.Decide other) fits = let locks = fits.locks in absurd (cc)
operation-plain txn place op before value content fits = refl

-- nor is what an operation leaves
left-plain : (part : State) (txn : TxnId) (place : Place) (op : Op) (refused : Option TxnId) (content : LogRec) →
    unless_refused refused (record_left part txn place op) ≡ Some content → is_plain content ≡ true
left-plain part txn place op (Some holder) content is = let none : ◌≡◌ {A = Option LogRec} None (Some content) = is in absurd (cc)
left-plain part txn place op None content is =
    let stands : Stored = part.stored place in
    operation-plain txn place op stands.0 stands.1 content
    (subst (Fitting txn place op stands.0 stands.1 (mode_held part.grants txn place)) is
    (record_fits txn place op stands.0 stands.1 (mode_held part.grants txn place)))

-- so nothing is told of an operation
pub grown-op : (part : State) (txn : TxnId) (place : Place) (op : Op) → IsPlainGrown part (after_op part txn place op)
unfolding after_op
grown-op part txn place op =
    plain-grown part (after_op part txn place op)
    (grows-optional part part (unless_refused (refusing part txn place op) (record_left part txn place op))
    (left-plain part txn place op (refusing part txn place op)) (grows-none part))

-- ---- an end

-- an End is appended
grows-end : (before part : State) (txn : TxnId) (commit : Bool) → GrowsPlain before part → GrowsPlain before (after_end part txn commit)
unfolding after_end
grows-end before part txn commit grows = grows-record before part (records.End txn commit) refl grows

-- a compensation is neither a Prepared nor a Decide
undo-plain : (content : LogRec) (undone now : ℕ) → can_be_undone content ≡ true → is_plain (undo_of content undone now) ≡ true
undo-plain (records.Prepared txn) undone now is = absurd (false≢true is)
undo-plain (records.Decide txn) undone now is = absurd (false≢true is)
undo-plain (records.Touch txn table key mode) undone now is = refl
undo-plain (records.Set txn table key before old new) undone now is = refl
undo-plain (records.Add txn table key before amount) undone now is = refl
undo-plain (records.Comp txn table key before of form) undone now is = refl
undo-plain (records.End txn commit) undone now is = refl

-- nor is the first one that is due
first-plain : (part : State) (txn : TxnId) (rest : List LogEntry) → rest_to_undo part.log txn ≡ rest → (content : LogRec) →
    first_undone part rest ≡ Some content → is_plain content ≡ true
first-plain part txn [] left content is = let none : ◌≡◌ {A = Option LogRec} None (Some content) = is in absurd (cc)
first-plain part txn (first ∷ others) left content is =
    let both : ◌≡◌ {A = Option LogRec} (Some (undo_now part first)) (Some content) = is in
    let same : undo_now part first ≡ content = cc in
    subst (λ (c : LogRec). is_plain c ≡ true) same (undo-plain first.content first.number _ (left_undoable part.log txn first others left))

-- one step of a rollback
grows-undo : (before part : State) (txn : TxnId) → GrowsPlain before part → GrowsPlain before (after_undo part txn)
unfolding after_undo
grows-undo before part txn grows =
    grows-optional before part (first_undone part (rest_to_undo part.log txn)) (first-plain part txn (rest_to_undo part.log txn) refl) grows

-- all steps of it
grows-each : (before part : State) (txn : TxnId) (rest : List LogEntry) → GrowsPlain before part → GrowsPlain before (undo_each part txn rest)
grows-each before part txn [] grows = grows
grows-each before part txn (entry ∷ rest) grows = grows-each before (after_undo part txn) txn rest (grows-undo before part txn grows)

-- so nothing is told of an end
pub grown-finish : (part : State) (txn : TxnId) (commit : Bool) → IsPlainGrown part (after_finish part txn commit)
unfolding after_abort after_rollback
grown-finish part txn true = plain-grown part (after_finish part txn true) (grows-end part part txn true (grows-none part))
grown-finish part txn false =
    plain-grown part (after_finish part txn false) (grows-end part (after_rollback part txn) txn false
    (grows-each part part txn (rest_to_undo part.log txn) (grows-none part)))
