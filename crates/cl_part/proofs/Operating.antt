-- The record and the lock of an operation.
use Rattle.std.proofs.Common.{◌≡◌, ℕ, ◌+◌, ◌≤◌, cond, List, [], ◌∷◌, ◌++◌, Option, Some, None, ℤ, refl, sym, ap, ◌∙◌, subst, inl, inr}
use Rattle.std.specs.Option.{option_or}
use Rattle.std.specs.Fmt.{signed_decimal}
use Rattle.std.proofs.lemmas.Bool.{cond-true, cond-false, cases_Bool}
use Rattle.cl_types.specs.declared.operations.Mode.{Mode}
use Rattle.cl_types.specs.declared.operations.Mode.TheVariants.{Shared, Exclusive}
use Rattle.cl_types.specs.declared.operations.Op.{Op}
use Rattle.cl_types.specs.declared.operations.Op.TheVariants.{Get, Put, Del, Add as PlainAdd}
use Rattle.cl_types.specs.declared.operations.TxnId.{TxnId}
use Rattle.cl_types.specs.declared.answers.Reply.{Reply}
use Rattle.cl_types.specs.declared.answers.Reply.TheVariants.{Stored as StoredReply, Found, Absent, Sum, NotNumber, OutOfRange}
use Rattle.cl_types.specs.Places.{Place, Stored, same_place}
use Rattle.cl_types.specs.Plain.{plain_reply, plain_value}
use Rattle.cl_types.proofs.Places.{same_place-true, same_place-itself}
use Rattle.cl_log.specs.declared.records.LogRec.{LogRec}
use Rattle.cl_log.specs.declared.records.LogRec.TheVariants.{Touch, Set}
use Rattle.cl_log.specs.LogEntry.{LogEntry}
use Rattle.cl_log.specs.Kind.{writes}
use Rattle.cl_log.specs.Log.{entries, next_number}
use Rattle.cl_log.specs.Store.{value_after, stored_after}
use Rattle.cl_locks.specs.declared.answers.Granted.{Granted}
use Rattle.cl_locks.specs.declared.answers.Granted.TheVariants.{Already}
use Rattle.cl_locks.specs.Grants.{Grant, first_conflict, mode_held, granted_as, with_grant, after_grant}
use Rattle.cl_locks.specs.Table.{grants_at, held}
use Rattle.cl_order.specs.Operations.{mode_of, touch_of, sum_of, addition_of, record_of}
use Rattle.cl_order.proofs.Records.{Fits, Fitting, record_fits}
use Rattle.cl_redo.specs.Redo.{with_lock, grants_after}
use Rattle.cl_store.specs.Store.{stored as stored_in}
use Rattle.cl_part.specs.declared.part.Part.{Part}
use Rattle.cl_locks.proofs.TableLaws.{first_conflict-table, held-table}
use Rattle.cl_types.specs.declared.answers.Answer.TheVariants.{Done, Refused}
use Rattle.cl_part.specs.Calls.{refusing, answer_by, answer_to, record_left, unless_refused, after_op}
use Rattle.cl_part.specs.State.{State, IsStateOf, IsBelowNext, after_optional}
use Rattle.cl_part.proofs.States.{IsStateOf-same, IsStateOf-recorded, IsBelowNext-same, IsBelowNext-recorded, next-same, next-recorded}
use Rattle.cl_part.specs.Recorded.{IsSame, HasRecorded, HasRecordedOptional, HasAppended, HasAppendedOptional, HasWritten, next_entry, touched}

-- ---- the record

-- by the reply, and by whether there is a value
sum_or_touch : (txn : TxnId) (place : Place) (before : ℕ) (value : Option (List ℕ)) (amount : ℤ) (mode : Option Mode) (reply : Reply) →
    addition_of txn place (before, value) amount reply mode ≡ option_or (addition_of txn place (before, value) amount reply (Some Exclusive)) (touch_of txn place mode Exclusive)
sum_or_touch txn place before value amount mode (Sum sum) = refl
sum_or_touch txn place before value amount mode StoredReply = refl
sum_or_touch txn place before value amount mode (Found x) = refl
sum_or_touch txn place before value amount mode Absent = refl
sum_or_touch txn place before value amount mode NotNumber = refl
sum_or_touch txn place before value amount mode OutOfRange = refl

-- an operation that writes leaves the record of the write, and another a Touch where its lock is new or stronger
record_or_touch : (txn : TxnId) (place : Place) (op : Op) (before : ℕ) (value : Option (List ℕ)) (mode : Option Mode) →
    record_of txn place op (before, value) mode ≡ option_or (record_of txn place op (before, value) (Some Exclusive)) (touch_of txn place mode (mode_of op))
record_or_touch txn place Get before value mode = refl
record_or_touch txn place (Put y) before value mode = refl
record_or_touch txn place Del before None mode = refl
record_or_touch txn place Del before (Some x) mode = refl
record_or_touch txn place (PlainAdd amount) before value mode = sum_or_touch txn place before value amount mode (plain_reply (PlainAdd amount) value)

pub record_of-write : (txn : TxnId) (place : Place) (op : Op) (stored : Stored) (mode : Option Mode) (content : LogRec) →
    record_of txn place op stored (Some Exclusive) ≡ Some content → record_of txn place op stored mode ≡ Some content
record_of-write txn place op (before, value) mode content writes =
    record_or_touch txn place op before value mode ∙ ap (λ r. option_or r (touch_of txn place mode (mode_of op))) writes

pub record_of-touch : (txn : TxnId) (place : Place) (op : Op) (stored : Stored) (mode : Option Mode) →
    record_of txn place op stored (Some Exclusive) ≡ None → record_of txn place op stored mode ≡ touch_of txn place mode (mode_of op)
record_of-touch txn place op (before, value) mode none =
    record_or_touch txn place op before value mode ∙ ap (λ r. option_or r (touch_of txn place mode (mode_of op))) none

-- ---- a write

-- a write at the place, under an exclusive lock
record IsWriteAt (txn : TxnId) (place : Place) (content : LogRec) : Type 0 where
  pub own : (other : Place) → writes other content ≡ same_place place other
  pub locks : (other : Place) (grants : List Grant) → grants_after content other grants ≡ with_lock txn place Exclusive other grants

set_at : (txn : TxnId) (place : Place) (before : ℕ) (old new : Option (List ℕ)) → IsWriteAt txn place (Set txn place.0 place.1 before old new)
set_at txn place before old new = record { own = λ other. refl; locks = λ other grants. refl }

sum_at : (txn : TxnId) (place : Place) (before : ℕ) (value : Option (List ℕ)) (amount sum : ℤ) → IsWriteAt txn place (sum_of txn place before value amount sum)
sum_at txn place before None amount sum = set_at txn place before None (Some (signed_decimal sum))
sum_at txn place before (Some x) amount sum = record { own = λ other. refl; locks = λ other grants. refl }

-- what an operation records that has its lock is a write
record IsWriteOf (txn : TxnId) (place : Place) (op : Op) (content : LogRec) : Type 0 where
  pub at : IsWriteAt txn place content
  pub mode : mode_of op ≡ Exclusive

addition_writes : (txn : TxnId) (place : Place) (amount : ℤ) (before : ℕ) (value : Option (List ℕ)) (content : LogRec) (reply : Reply) →
    addition_of txn place (before, value) amount reply (Some Exclusive) ≡ Some content → IsWriteAt txn place content
addition_writes txn place amount before value content (Sum sum) is =
    let same : sum_of txn place before value amount sum ≡ content = cc in
    subst (IsWriteAt txn place) same (sum_at txn place before value amount sum)
addition_writes txn place amount before value content StoredReply is = absurd cc
addition_writes txn place amount before value content (Found x) is = absurd cc
addition_writes txn place amount before value content Absent is = absurd cc
addition_writes txn place amount before value content NotNumber is = absurd cc
addition_writes txn place amount before value content OutOfRange is = absurd cc

operation_writes : (txn : TxnId) (place : Place) (op : Op) (before : ℕ) (value : Option (List ℕ)) (content : LogRec) →
    record_of txn place op (before, value) (Some Exclusive) ≡ Some content → IsWriteOf txn place op content
operation_writes txn place Get before value content is = absurd cc
operation_writes txn place (Put y) before value content is =
    let same : Set txn place.0 place.1 before value (Some y) ≡ content = cc in
    record { at = subst (IsWriteAt txn place) same (set_at txn place before value (Some y)); mode = refl }
operation_writes txn place Del before None content is = absurd cc
operation_writes txn place Del before (Some x) content is =
    let same : Set txn place.0 place.1 before (Some x) None ≡ content = cc in
    record { at = subst (IsWriteAt txn place) same (set_at txn place before (Some x) None); mode = refl }
operation_writes txn place (PlainAdd amount) before value content is = record {
  at = addition_writes txn place amount before value content (plain_reply (PlainAdd amount) value) is;
  mode = refl;
}

-- it leaves the plain operation's value
operation_leaves : (txn : TxnId) (place : Place) (op : Op) (before : ℕ) (value : Option (List ℕ)) (content : LogRec) →
    record_of txn place op (before, value) (Some Exclusive) ≡ Some content → value_after content value ≡ plain_value op value
operation_leaves txn place op before value content is =
    let fits : Fits txn place op before value content = subst (Fitting txn place op before value (Some Exclusive)) is (record_fits txn place op before value (Some Exclusive)) in
    let write = operation_writes txn place op before value content is in
    sym (cond-true _ _ value (write.at.own place ∙ same_place-itself place)) ∙ fits.leaves

-- ---- what the call did

-- the lock that the operation asks for was entered
abbrev pub HasLocked : Part → Part → TxnId → Place → Mode → Type 0
HasLocked old new txn place mode =
    (other : Place) → grants_at new.locks other ≡ cond (same_place place other) (after_grant (grants_at old.locks other) (record { txn = txn; place = place; mode = mode })) (grants_at old.locks other)

-- the lock was entered, and nothing else has changed
pub record HasAsked (old new : Part) (txn : TxnId) (place : Place) (mode : Mode) : Type 0 where
  pub store : (other : Place) → stored_in new.store other ≡ stored_in old.store other
  pub log : entries new.log ≡ entries old.log
  pub next : next_number new.log ≡ next_number old.log
  pub locks : HasLocked old new txn place mode

pub wrote : (old between new : Part) (txn : TxnId) (place : Place) (op : Op) (content : LogRec) (value : Option (List ℕ)) →
    record_of txn place op (stored_in old.store place) (Some Exclusive) ≡ Some content → value ≡ plain_value op (stored_in old.store place).1 →
    HasAsked old between txn place (mode_of op) → HasWritten between new place content value →
    HasRecordedOptional old new (record_of txn place op (stored_in old.store place) (held old.locks txn place))
wrote old between new txn place op content value is leaves asked written =
    let stands : Stored = stored_in old.store place in
    let write = operation_writes txn place op stands.0 stands.1 content is in
    let entry : LogEntry = next_entry old content in
    let at_place : (other : Place) → cond (same_place place other) (next_number between.log, value) (stored_in between.store other) ≡ stored_after other (stored_in old.store other) entry =
    λ other. elim (cases_Bool (same_place place other)) [
      | inl t ↦
          (let here : place ≡ other = same_place-true place other t in
          let left : value ≡ value_after content (stored_in old.store other).1 =
          leaves ∙ sym (operation_leaves txn place op stands.0 stands.1 content is) ∙ ap (λ p. value_after content (stored_in old.store p).1) here in
          cond-true _ _ _ t ∙ ap (λ n. (n, value)) asked.next ∙ ap (λ v. (next_number old.log, v)) left ∙ sym (cond-true _ _ _ (write.at.own other ∙ t)))
      | inr f ↦ cond-false _ _ _ f ∙ asked.store other ∙ sym (cond-false _ _ _ (write.at.own other ∙ f))
    ] in
    let recorded : HasRecorded old new content = record {
      store = λ other. written.store other ∙ at_place other;
      log = written.log ∙ ap (λ (es : List LogEntry). es ++ next_entry between content ∷ []) asked.log ∙ ap (λ n. entries old.log ++ record { number = n; content = content } ∷ []) asked.next;
      next = written.next ∙ ap (λ n. n + 1) asked.next;
      locks = λ other. written.locks other ∙ asked.locks other
          ∙ ap (λ m. with_lock txn place m other (grants_at old.locks other)) write.mode ∙ sym (write.at.locks other (grants_at old.locks other));
    } in
    subst (HasRecordedOptional old new) (sym (record_of-write txn place op stands (held old.locks txn place) content is)) recorded

-- ---- without a write

-- a lock that is held already leaves the grants
after_grant-already : (grants : List Grant) (txn : TxnId) (place : Place) (mode : Mode) → granted_as (mode_held grants txn place) mode ≡ Already →
    after_grant grants (record { txn = txn; place = place; mode = mode }) ≡ grants
unfolding after_grant
after_grant-already grants txn place mode already = ap (λ g. with_grant g grants (record { txn = txn; place = place; mode = mode })) already

locked-already : (old new : Part) (txn : TxnId) (place : Place) (mode : Mode) → granted_as (held old.locks txn place) mode ≡ Already → HasLocked old new txn place mode →
    (other : Place) → grants_at new.locks other ≡ grants_at old.locks other
locked-already old new txn place mode already locks other =
    elim (cases_Bool (same_place place other)) [
      | inl t ↦
          (let here : place ≡ other = same_place-true place other t in
          let stays : after_grant (grants_at old.locks other) (record { txn = txn; place = place; mode = mode }) ≡ grants_at old.locks other =
          ap (λ p. after_grant (grants_at old.locks p) (record { txn = txn; place = place; mode = mode })) (sym here)
          ∙ after_grant-already (grants_at old.locks place) txn place mode already ∙ ap (λ p. grants_at old.locks p) here in
          locks other ∙ cond-true _ _ _ t ∙ stays)
      | inr f ↦ locks other ∙ cond-false _ _ _ f
    ]

abbrev touch_at : TxnId → Place → Mode → LogRec
touch_at txn place mode = Touch txn place.0 place.1 mode

module _ (old between new : Part) (txn : TxnId) (place : Place) (mode : Mode) where
  -- a Touch was appended
  touched-new : HasAsked old between txn place mode → HasAppended between new (touch_at txn place mode) → HasRecorded old new (touch_at txn place mode)
  touched-new asked appended = record {
    store = λ other. appended.store other ∙ asked.store other;
    log = appended.log ∙ ap (λ (es : List LogEntry). es ++ next_entry between (touch_at txn place mode) ∷ []) asked.log ∙ ap (λ n. entries old.log ++ record { number = n; content = (touch_at txn place mode) } ∷ []) asked.next;
    next = appended.next ∙ ap (λ n. n + 1) asked.next;
    locks = λ other. appended.locks other ∙ asked.locks other;
  }

  -- nothing was appended
  touched-already : HasAsked old between txn place mode → granted_as (held old.locks txn place) mode ≡ Already → IsSame between new → IsSame old new
  touched-already asked already same = record {
    store = λ other. same.store other ∙ asked.store other;
    log = same.log ∙ asked.log;
    next = same.next ∙ asked.next;
    locks = λ other. same.locks other ∙ locked-already old between txn place mode already asked.locks other;
  }

  by_mode : (before : Option Mode) (asks : Mode) → mode ≡ asks → held old.locks txn place ≡ before → HasAsked old between txn place mode →
      HasAppendedOptional between new (touched (granted_as before asks) (touch_at txn place mode)) → HasRecordedOptional old new (touch_of txn place before asks)
  by_mode None asks is holds asked appended = subst (λ m. HasRecorded old new (Touch txn place.0 place.1 m)) is (touched-new asked appended)
  by_mode (Some Shared) Shared is holds asked appended = touched-already asked (ap (λ m. granted_as (held old.locks txn place) m) is ∙ ap (λ h. granted_as h Shared) holds) appended
  by_mode (Some Shared) Exclusive is holds asked appended = subst (λ m. HasRecorded old new (Touch txn place.0 place.1 m)) is (touched-new asked appended)
  by_mode (Some Exclusive) asks is holds asked appended = touched-already asked (ap (λ m. granted_as (held old.locks txn place) m) is ∙ ap (λ h. granted_as h asks) holds) appended

pub wrote_nothing : (old between new : Part) (txn : TxnId) (place : Place) (op : Op) (granted : Granted) →
    record_of txn place op (stored_in old.store place) (Some Exclusive) ≡ None → granted ≡ granted_as (held old.locks txn place) (mode_of op) →
    HasAsked old between txn place (mode_of op) → HasAppendedOptional between new (touched granted (Touch txn place.0 place.1 (mode_of op))) →
    HasRecordedOptional old new (record_of txn place op (stored_in old.store place) (held old.locks txn place))
wrote_nothing old between new txn place op granted is granted_so asked appended =
    subst (HasRecordedOptional old new) (sym (record_of-touch txn place op (stored_in old.store place) (held old.locks txn place) is))
    (by_mode old between new txn place (mode_of op) (held old.locks txn place) (mode_of op) refl refl asked
    (subst (λ g. HasAppendedOptional between new (touched g (Touch txn place.0 place.1 (mode_of op)))) granted_so appended))

-- the record that the code makes, from what it reads
pub record_of-read : (txn : TxnId) (table key table_read key_read : List ℕ) (op : Op) (stored : Stored) (before : ℕ) (value : Option (List ℕ)) (made is : Option LogRec) →
    made ≡ record_of txn (table_read, key_read) op (before, value) (Some Exclusive) → table_read ≡ table → key_read ≡ key → before ≡ stored.0 → value ≡ stored.1 → made ≡ is →
    record_of txn (table, key) op stored (Some Exclusive) ≡ is
record_of-read txn table key table_read key_read op stored before value made is makes table_is key_is before_is value_is made_is =
    ap (λ v. record_of txn (table, key) op (stored.0, v) (Some Exclusive)) (sym value_is)
    ∙ ap (λ n. record_of txn (table, key) op (n, value) (Some Exclusive)) (sym before_is)
    ∙ ap (λ t. record_of txn (t, key) op (before, value) (Some Exclusive)) (sym table_is)
    ∙ ap (λ k. record_of txn (table_read, k) op (before, value) (Some Exclusive)) (sym key_is)
    ∙ sym makes ∙ made_is

-- ---- the answer, and the state

refusing-is : (part : Part) (state : State) (txn : TxnId) (place : Place) (op : Op) → IsStateOf part state → refusing state txn place op ≡ first_conflict (grants_at part.locks place) txn place (mode_of op)
refusing-is part state txn place op is = sym (first_conflict-table part.locks state.grants txn place (mode_of op) is.locks)

pub answer_to-granted : (part : Part) (state : State) (txn : TxnId) (place : Place) (op : Op) (reply : Reply) → IsStateOf part state →
    first_conflict (grants_at part.locks place) txn place (mode_of op) ≡ None → reply ≡ plain_reply op (stored_in part.store place).1 → Done reply ≡ answer_to state txn place op
unfolding answer_to
answer_to-granted part state txn place op reply is free replies =
    ap Done (replies ∙ ap (λ (s : Stored). plain_reply op s.1) (is.store place))
    ∙ ap (λ r. answer_by r (plain_reply op (state.stored place).1)) (sym (refusing-is part state txn place op is ∙ free))

pub answer_to-refused : (part : Part) (state : State) (txn : TxnId) (place : Place) (op : Op) (holder : TxnId) → IsStateOf part state →
    first_conflict (grants_at part.locks place) txn place (mode_of op) ≡ Some holder → Refused holder ≡ answer_to state txn place op
unfolding answer_to
answer_to-refused part state txn place op holder is held = ap (λ r. answer_by r (plain_reply op (state.stored place).1)) (sym (refusing-is part state txn place op is ∙ held))

IsStateOf-optional : (old new : Part) (state : State) (content : Option LogRec) → HasRecordedOptional old new content → IsStateOf old state → IsStateOf new (after_optional state content)
IsStateOf-optional old new state None recorded is = IsStateOf-same old new state recorded is
IsStateOf-optional old new state (Some content) recorded is = IsStateOf-recorded old new state content recorded is

pub IsStateOf-granted : (old new : Part) (state : State) (txn : TxnId) (place : Place) (op : Op) → IsStateOf old state → first_conflict (grants_at old.locks place) txn place (mode_of op) ≡ None →
    HasRecordedOptional old new (record_of txn place op (stored_in old.store place) (held old.locks txn place)) → IsStateOf new (after_op state txn place op)
unfolding after_op
IsStateOf-granted old new state txn place op is free recorded =
    let left : record_of txn place op (stored_in old.store place) (held old.locks txn place) ≡ record_left state txn place op =
    ap (λ (s : Stored). record_of txn place op s (held old.locks txn place)) (is.store place)
    ∙ ap (record_of txn place op (state.stored place)) (held-table old.locks state.grants txn place is.locks) in
    subst (IsStateOf new)
    (ap (after_optional state) left ∙ ap (λ r. after_optional state (unless_refused r (record_left state txn place op))) (sym (refusing-is old state txn place op is ∙ free)))
    (IsStateOf-optional old new state (record_of txn place op (stored_in old.store place) (held old.locks txn place)) recorded is)

pub IsStateOf-refused : (old new : Part) (state : State) (txn : TxnId) (place : Place) (op : Op) (holder : TxnId) → IsStateOf old state →
    first_conflict (grants_at old.locks place) txn place (mode_of op) ≡ Some holder → IsSame old new → IsStateOf new (after_op state txn place op)
unfolding after_op
IsStateOf-refused old new state txn place op holder is held same =
    subst (IsStateOf new) (ap (λ r. after_optional state (unless_refused r (record_left state txn place op))) (sym (refusing-is old state txn place op is ∙ held))) (IsStateOf-same old new state same is)

pub IsBelowNext-optional : (old new : Part) (content : Option LogRec) → HasRecordedOptional old new content → IsBelowNext old → IsBelowNext new
IsBelowNext-optional old new None recorded below = IsBelowNext-same old new recorded below
IsBelowNext-optional old new (Some content) recorded below = IsBelowNext-recorded old new content recorded below

pub next-optional : (old new : Part) (content : Option LogRec) → HasRecordedOptional old new content → next_number new.log ≤ next_number old.log + 1
next-optional old new None recorded = next-same old new recorded
next-optional old new (Some content) recorded = next-recorded old new content recorded
