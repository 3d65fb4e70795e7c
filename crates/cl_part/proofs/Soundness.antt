-- What keeps a replica of a log, and a participant sound.
use Rattle.std.proofs.Common.{◌≡◌, ℕ, ◌+◌, ◌<◌, Bool, true, false, not, cond, eqb, ◌&&◌, ◌||◌, List, [], ◌∷◌, ◌++◌, length, filter, Option, Some, None, refl, sym, ap, ◌∙◌, subst, arith, inl, inr}
use Rattle.std.specs.List.{list_any}
use Rattle.std.proofs.lemmas.Bool.{false≢true, cases_Bool, and_right, and_parts, or_parts, eqb-true, false_from_ne_true}
use Rattle.std.proofs.lemmas.List.{append_assoc, length-append}
use Rattle.std.proofs.lemmas.List.Folds.{list_any-append}
use Rattle.cl_types.specs.declared.operations.Mode.{Mode}
use Rattle.cl_types.specs.declared.operations.Mode.TheVariants.{Exclusive}
use Rattle.cl_types.specs.declared.operations.Op.{Op}
use Rattle.cl_types.specs.declared.operations.TxnId.{TxnId}
use Rattle.cl_types.specs.Modes.{stronger}
use Rattle.cl_types.specs.Places.{Place, Stored, same_place}
use Rattle.cl_types.specs.Transactions.{same_txn}
use Rattle.cl_types.proofs.Modes.{stronger-none}
use Rattle.cl_types.proofs.Places.{same_place-true}
use Rattle.cl_log.specs.declared.records.LogRec.{LogRec}
use Rattle.cl_log.specs.declared.records.LogRec.TheVariants.{Touch, Set, Add, Comp, Prepared, End, Decide}
use Rattle.cl_log.specs.LogEntry.{LogEntry, IsNumberedFrom}
use Rattle.cl_log.specs.Kind.{is_of, is_end, can_be_undone, undoes}
use Rattle.cl_log.specs.Locks.{mode_at, takes_lock, locks_after}
use Rattle.cl_log.specs.Open.{has_ended}
use Rattle.cl_log.specs.Rest.{is_undone, is_left_of, rest_to_undo}
use Rattle.cl_log.specs.Store.{stored_after, store_of_log}
use Rattle.cl_log.proofs.Entries.{append-IsNumberedFrom, number_at}
use Rattle.cl_log.proofs.Locks.{locks_of_log-nil, locks_of_log_push}
use Rattle.cl_log.proofs.Open.{has_ended_push}
use Rattle.cl_log.proofs.Rest.{first_of_rest_is, is_undone_push, rest_to_undo_push-plain, rest_to_undo_push-undo, undoes-undo_of}
use Rattle.cl_log.proofs.Store.{store_of_log-nil, store_of_log_push, number-store_of_log-lt}
use Rattle.cl_locks.specs.Grants.{Grant, mode_held, after_grant}
use Rattle.cl_locks.proofs.GrantLists.{mode_held-without_txn}
use Rattle.cl_locks.proofs.Granting.{mode_held-none, mode_held-at_place, mode_held-after_grant, at_place-after_grant}
use Rattle.cl_order.specs.Steps.{log_with, log_with_optional}
use Rattle.cl_order.proofs.Records.{Fits, Fitting, record_fits}
use Rattle.cl_store.specs.Store.{stored as stored_in}
use Rattle.cl_part.specs.Calls.{Call, ask_op, prepare, decide, undo_one, end, refusing, record_left, unless_refused, after_op, after_prepare, after_decide, after_end, after_undo, place_of, undo_now, first_undone, record_of_call, after_call}
use Rattle.cl_part.specs.Sound.{IsReplicaOf, RecordsKeepReplica, IsSound, ReplicaIsBelowNext, CallsKeepReplica, CallsKeepSound}
use Rattle.cl_part.specs.State.{State, new_state, next_entry, grants_with, after_record, after_optional}
use Rattle.cl_part.proofs.Undoing.{takes_lock-undo_of}

-- ---- the locks

and-true : (b : Bool) → (b && true) ≡ b
and-true true = refl
and-true false = refl

-- a lock that is entered, in the list of all grants
mode_held-entered : (grants : List Grant) (grant : Grant) (t : TxnId) (place : Place) →
    mode_held (after_grant grants grant) t place ≡ cond (same_txn grant.txn t && same_place grant.place place) (stronger (mode_held grants t place) (Some grant.mode)) (mode_held grants t place)
mode_held-entered grants grant t place = elim (cases_Bool (same_place grant.place place)) [
  | inl same ↦
      rw same
      (subst (λ p. mode_held (after_grant grants grant) t p ≡ cond (same_txn grant.txn t && true) (stronger (mode_held grants t p) (Some grant.mode)) (mode_held grants t p)) (same_place-true grant.place place same)
      (rw (and-true (same_txn grant.txn t)) (mode_held-after_grant grants grant t)))
  | inr differ ↦
      rw (and_right (same_txn grant.txn t) (same_place grant.place place) differ)
      (sym (mode_held-at_place (after_grant grants grant) t place)
      ∙ ap (λ (gs : List Grant). mode_held gs t place) (at_place-after_grant grants grant place ∙ rw differ) ∙ mode_held-at_place grants t place)
]

entered_by : (own here : Bool) (held : Option Mode) (mode : Mode) → cond (own && here) (stronger held (Some mode)) held ≡ cond own (stronger held (cond here (Some mode) None)) held
entered_by true true held mode = refl
entered_by true false held mode = sym (stronger-none held)
entered_by false here held mode = refl

not_entered : (own : Bool) (held : Option Mode) → held ≡ cond own (stronger held None) held
not_entered true held = sym (stronger-none held)
not_entered false held = refl

-- the modes after a record are those that the log's locks have after it
mode_held-grants_with : (grants : List Grant) (number : ℕ) (content : LogRec) (t : TxnId) (place : Place) →
    mode_held (grants_with content grants) t place ≡ locks_after (mode_held grants) (record { number = number; content = content }) t place
mode_held-grants_with grants number (Touch txn table key mode) t place =
    mode_held-entered grants (record { txn = txn; place = (table, key); mode = mode }) t place ∙ entered_by (same_txn txn t) (same_place (table, key) place) (mode_held grants t place) mode
mode_held-grants_with grants number (Set txn table key before old new) t place =
    mode_held-entered grants (record { txn = txn; place = (table, key); mode = Exclusive }) t place ∙ entered_by (same_txn txn t) (same_place (table, key) place) (mode_held grants t place) Exclusive
mode_held-grants_with grants number (Add txn table key before amount) t place =
    mode_held-entered grants (record { txn = txn; place = (table, key); mode = Exclusive }) t place ∙ entered_by (same_txn txn t) (same_place (table, key) place) (mode_held grants t place) Exclusive
mode_held-grants_with grants number (Comp txn table key before undone form) t place = not_entered (same_txn txn t) (mode_held grants t place)
mode_held-grants_with grants number (Prepared txn) t place = not_entered (same_txn txn t) (mode_held grants t place)
mode_held-grants_with grants number (End txn commit) t place = mode_held-without_txn grants txn t place
mode_held-grants_with grants number (Decide txn) t place = not_entered (same_txn txn t) (mode_held grants t place)

-- ---- what is left to undo

-- by a record that undoes nothing
rests_with_plain : (full kept : List LogEntry) (entry : LogEntry) (txn : TxnId) → ((number : ℕ) → undoes number entry.content ≡ false) → rest_to_undo kept txn ≡ rest_to_undo full txn →
    is_undone kept entry.number ≡ is_undone full entry.number → rest_to_undo (kept ++ entry ∷ []) txn ≡ rest_to_undo (full ++ entry ∷ []) txn
rests_with_plain full kept entry txn plain same fresh =
    rest_to_undo_push-plain kept entry txn plain
    ∙ ap (λ b. cond (is_of txn entry.content && (can_be_undone entry.content && not b)) (entry ∷ rest_to_undo kept txn) (rest_to_undo kept txn)) fresh
    ∙ ap (λ r. cond (is_left_of full txn entry) (entry ∷ r) r) same
    ∙ sym (rest_to_undo_push-plain full entry txn plain)

-- one record more leaves the same to undo in both logs, where it left the same before
rests_with : (full kept : List LogEntry) (number : ℕ) (content : LogRec) (txn : TxnId) → rest_to_undo kept txn ≡ rest_to_undo full txn → is_undone kept number ≡ is_undone full number →
    rest_to_undo (kept ++ record { number = number; content = content } ∷ []) txn ≡ rest_to_undo (full ++ record { number = number; content = content } ∷ []) txn
rests_with full kept number (Comp owner table key before undone form) txn same fresh =
    let entry : LogEntry = record { number = number; content = Comp owner table key before undone form } in
    rest_to_undo_push-undo kept entry txn undone (λ n. refl) refl
    ∙ ap (filter (λ (x : LogEntry). not (eqb undone x.number))) same
    ∙ sym (rest_to_undo_push-undo full entry txn undone (λ n. refl) refl)
rests_with full kept number (Touch owner table key mode) txn same fresh = rests_with_plain full kept (record { number = number; content = Touch owner table key mode }) txn (λ n. refl) same fresh
rests_with full kept number (Set owner table key before old new) txn same fresh = rests_with_plain full kept (record { number = number; content = Set owner table key before old new }) txn (λ n. refl) same fresh
rests_with full kept number (Add owner table key before amount) txn same fresh = rests_with_plain full kept (record { number = number; content = Add owner table key before amount }) txn (λ n. refl) same fresh
rests_with full kept number (Prepared owner) txn same fresh = rests_with_plain full kept (record { number = number; content = Prepared owner }) txn (λ n. refl) same fresh
rests_with full kept number (End owner commit) txn same fresh = rests_with_plain full kept (record { number = number; content = End owner commit }) txn (λ n. refl) same fresh
rests_with full kept number (Decide owner) txn same fresh = rests_with_plain full kept (record { number = number; content = Decide owner }) txn (λ n. refl) same fresh

-- what is not undone in the full log is not undone in an end of it
kept_fresh : (full before kept : List LogEntry) (number : ℕ) → full ≡ before ++ kept → is_undone full number ≡ false → is_undone kept number ≡ false
unfolding is_undone
kept_fresh full before kept number whole fresh =
    (or_parts _ _ (sym (list_any-append (λ (e : LogEntry). undoes number e.content) before kept) ∙ ap (list_any (λ (e : LogEntry). undoes number e.content)) (sym whole) ∙ fresh)).1

-- ---- one record more

pub IsReplicaOf-record : RecordsKeepReplica
unfolding after_record
IsReplicaOf-record full state content replica unended names =
    let entry : LogEntry = next_entry state content in
    let next = replica.next in
    let count = length-append full (entry ∷ []) in
    let appended : full ++ entry ∷ [] ≡ log_with full content = ap (λ n. full ++ record { number = n; content = content } ∷ []) next in
    let with_entry : IsReplicaOf (full ++ entry ∷ []) (after_record state content) = record {
      numbered = append-IsNumberedFrom 1 full (entry ∷ []) replica.numbered ((omega (arith, next)), tt);
      next = omega (arith, next, count);
      store = λ place. ap (λ (s : Stored). stored_after place s entry) (replica.store place) ∙ sym (store_of_log_push full entry place);
      locks = λ txn place. mode_held-grants_with state.grants state.next content txn place
          ∙ ap (λ mode. cond (is_of txn content) (cond (is_end content) None (stronger mode (mode_at place content))) mode) (replica.locks txn place)
          ∙ sym (locks_of_log_push full entry txn place unended);
      kept = record {
        before = replica.kept.before;
        whole = ap (λ es. es ++ entry ∷ []) replica.kept.whole ∙ append_assoc replica.kept.before state.log (entry ∷ []);
        rests = λ txn running.
            (let fresh = replica.fresh state.next (omega arith) in
            rests_with full state.log state.next content txn (replica.kept.rests txn (or_parts _ _ (sym (has_ended_push txn full entry) ∙ running)).0)
            (kept_fresh full replica.kept.before state.log state.next replica.kept.whole fresh ∙ sym fresh));
      };
      fresh = λ number later.
          is_undone_push number full entry ∙ ap (λ b. b || undoes number content) (replica.fresh number (omega arith))
          ∙ false_from_ne_true _ (λ named. (let below = names number named in absurd (omega (arith, below, later))));
    } in
    subst (λ log. IsReplicaOf log (after_record state content)) appended with_entry

-- what asks for no lock and undoes nothing
pub IsReplicaOf-mark : (full : List LogEntry) (state : State) (content : LogRec) → IsReplicaOf full state → takes_lock content ≡ false → ((number : ℕ) → undoes number content ≡ false) →
    IsReplicaOf (log_with full content) (after_record state content)
IsReplicaOf-mark full state content replica unlocked names_none =
    IsReplicaOf-record full state content replica (λ takes. absurd (false≢true (sym unlocked ∙ takes))) (λ number named. absurd (false≢true (sym (names_none number) ∙ named)))

-- ---- the start

none_undone : (number : ℕ) → is_undone [] number ≡ false
unfolding is_undone
none_undone number = refl

pub new_is_sound : IsSound (new_state 1)
new_is_sound = record {
  numbered = tt;
  next = refl;
  store = λ place. sym (store_of_log-nil place);
  locks = λ txn place. mode_held-none txn place ∙ sym (locks_of_log-nil txn place);
  kept = record { before = []; whole = refl; rests = λ txn running. refl };
  fresh = λ number later. none_undone number;
}

pub replica_is_below : ReplicaIsBelowNext
replica_is_below full part state is replica place =
    let below = number-store_of_log-lt 1 full place (omega arith) replica.numbered in
    let stands : (stored_in part.store place).0 ≡ (store_of_log full place).0 = ap (λ (s : Stored). s.0) (is.store place ∙ replica.store place) in
    let same = is.next in
    let next = replica.next in
    omega (arith, below, stands, same, next)

-- ---- an operation

left_keeps : (full : List LogEntry) (state : State) (txn : TxnId) (place : Place) (op : Op) (left : Option LogRec) → record_left state txn place op ≡ left → IsReplicaOf full state →
    has_ended full txn ≡ false → IsReplicaOf (log_with_optional full left) (after_optional state left)
left_keeps full state txn place op None is replica running = replica
left_keeps full state txn place op (Some content) is replica running =
    let stands : Stored = state.stored place in
    let fits : Fits txn place op stands.0 stands.1 content =
    subst (Fitting txn place op stands.0 stands.1 (mode_held state.grants txn place)) is (record_fits txn place op stands.0 stands.1 (mode_held state.grants txn place)) in
    IsReplicaOf-record full state content replica (λ takes. ap (has_ended full) fits.own ∙ running) (λ number named. absurd (false≢true (sym (fits.no_undo number) ∙ named)))

asked_keeps : (full : List LogEntry) (state : State) (txn : TxnId) (place : Place) (op : Op) (refused : Option TxnId) → IsReplicaOf full state → has_ended full txn ≡ false →
    IsReplicaOf (log_with_optional full (unless_refused refused (record_left state txn place op))) (after_optional state (unless_refused refused (record_left state txn place op)))
asked_keeps full state txn place op None replica running = left_keeps full state txn place op (record_left state txn place op) refl replica running
asked_keeps full state txn place op (Some holder) replica running = replica

-- ---- an undo step

-- what is left to undo in the log that is kept is of a number below the next
pub left_below : (full : List LogEntry) (state : State) (txn : TxnId) (first : LogEntry) (others : List LogEntry) → IsReplicaOf full state → rest_to_undo state.log txn ≡ first ∷ others →
    first.number < state.next
left_below full state txn first others replica rest =
    let is = first_of_rest_is state.log txn first others rest in
    let whole : full ≡ (replica.kept.before ++ is.before) ++ first ∷ is.after =
    replica.kept.whole ∙ ap (λ es. replica.kept.before ++ es) is.whole ∙ sym (append_assoc replica.kept.before is.before (first ∷ is.after)) in
    let number = number_at 1 (replica.kept.before ++ is.before) first is.after (subst (IsNumberedFrom 1) whole replica.numbered) in
    let count : length full ≡ length ((replica.kept.before ++ is.before) ++ first ∷ is.after) = ap length whole in
    let parts = length-append (replica.kept.before ++ is.before) (first ∷ is.after) in
    let next = replica.next in
    omega (arith, number, count, parts, next)

-- it can be undone
pub left_undoable : (log : List LogEntry) (txn : TxnId) (first : LogEntry) (others : List LogEntry) → rest_to_undo log txn ≡ first ∷ others → can_be_undone first.content ≡ true
left_undoable log txn first others rest = (and_parts _ _ (and_parts _ _ (first_of_rest_is log txn first others rest).left).1).0

undone_keeps : (full : List LogEntry) (state : State) (txn : TxnId) (rest : List LogEntry) → rest_to_undo state.log txn ≡ rest → IsReplicaOf full state →
    IsReplicaOf (log_with_optional full (first_undone state rest)) (after_optional state (first_undone state rest))
undone_keeps full state txn [] none replica = replica
undone_keeps full state txn (first ∷ others) rest replica =
    let undoable = left_undoable state.log txn first others rest in
    let now : ℕ = (state.stored (place_of first.content)).0 in
    IsReplicaOf-record full state (undo_now state first) replica
    (λ takes. absurd (false≢true (sym (takes_lock-undo_of first.content first.number now undoable) ∙ takes)))
    (λ number named.
    (let same : first.number ≡ number = eqb-true _ _ (sym (undoes-undo_of first.content first.number now number undoable) ∙ named) in
    subst (λ n. n < state.next) same (left_below full state txn first others replica rest)))

-- ---- each call

pub calls_keep_replica : CallsKeepReplica
unfolding after_op after_prepare after_decide after_undo after_end
calls_keep_replica full state (ask_op txn place op) replica running = asked_keeps full state txn place op (refusing state txn place op) replica running
calls_keep_replica full state (prepare txn) replica any = IsReplicaOf-mark full state (Prepared txn) replica refl (λ number. refl)
calls_keep_replica full state (decide txn) replica any = IsReplicaOf-mark full state (Decide txn) replica refl (λ number. refl)
calls_keep_replica full state (undo_one txn) replica any = undone_keeps full state txn (rest_to_undo state.log txn) refl replica
calls_keep_replica full state (end txn commit) replica any = IsReplicaOf-mark full state (End txn commit) replica refl (λ number. refl)

-- the log that is kept gets the same record
appended_optional : (state : State) (content : Option LogRec) → state.next ≡ length state.log + 1 → (after_optional state content).log ≡ log_with_optional state.log content
unfolding after_record
appended_optional state None next = refl
appended_optional state (Some content) next = ap (λ n. state.log ++ record { number = n; content = content } ∷ []) next

pub after_call-record : (state : State) (call : Call) → after_call state call ≡ after_optional state (record_of_call state call)
unfolding after_op after_prepare after_decide after_undo after_end
after_call-record state (ask_op txn place op) = refl
after_call-record state (prepare txn) = refl
after_call-record state (decide txn) = refl
after_call-record state (undo_one txn) = refl
after_call-record state (end txn commit) = refl

pub calls_keep_sound : CallsKeepSound
calls_keep_sound state call sound running =
    let same : log_with_optional state.log (record_of_call state call) ≡ (after_call state call).log =
    sym (ap (λ (s : State). s.log) (after_call-record state call) ∙ appended_optional state (record_of_call state call) sound.next) in
    subst (λ log. IsReplicaOf log (after_call state call)) same (calls_keep_replica state.log state call sound running)
