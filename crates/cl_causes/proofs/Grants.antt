-- The locks of a participant are of sessions, and each transaction has one at a place: so who refuses an operation holds a lock that conflicts.
use Rattle.std.proofs.Common.{◌≡◌, ℕ, Bool, true, false, cond, not, ◌&&◌, ◌||◌, List, [], ◌∷◌, ◌++◌, filter, Option, Some, None, refl, sym, ap, ◌∙◌, subst}
use Rattle.std.specs.List.{list_any, find}
use Rattle.std.specs.Option.{option_map}
use Rattle.std.proofs.lemmas.Bool.{true≢false, false≢true, cond_both, cond-true, and_parts, and_from, or_parts, or_from, or_left, or_right, not-true}
use Rattle.cl_control.specs.Calls.{command_acts, counts_vote, is_last_vote}
use Rattle.cl_locks.specs.declared.answers.Granted.{Granted}
use Rattle.cl_locks.specs.Grants.{Grant, is_of, is_in_conflict, first_conflict, own_grant, mode_held, without_txn, without_lock, granted_as, with_grant, after_grant}
use Rattle.cl_locks.proofs.GrantLists.{find-passes, mapped_none}
use Rattle.cl_log.specs.declared.records.LogRec.{LogRec}
use Rattle.cl_log.specs.declared.records.LogRec.TheVariants.{Touch, Set, Add, Comp, Prepared, End, Decide}
use Rattle.cl_log.specs.Kind.{is_of as is_record_of, txn_of, can_be_undone}
use Rattle.cl_log.specs.LogEntry.{LogEntry}
use Rattle.cl_log.specs.Open.{is_open}
use Rattle.cl_log.specs.Rest.{rest_to_undo, is_left, is_undone, undo_of}
use Rattle.cl_log.proofs.Rest.{first_of_rest_is}
use Rattle.cl_lone.specs.Lone.{lone_step, controlled, committed, command_of}
use Rattle.cl_order.specs.Operations.{record_of, touch_of, removal_of, sum_of, addition_of}
use Rattle.cl_part.specs.Calls.{refusing, record_left, unless_refused, after_op, after_prepare, after_decide, after_end, after_undo, undo_each, after_rollback, after_abort}
use Rattle.cl_part.specs.State.{State, grants_with, after_record, after_optional}
use Rattle.cl_part.proofs.Undoing.{after_undo-none, after_undo-first}
use Rattle.cl_system.specs.Replicas.{own_primary}
use Rattle.cl_system.specs.Roles.{IsOfSession}
use Rattle.cl_types.proofs.Places.{same_place-itself, same_place-true}
use Rattle.cl_types.proofs.Transactions.{same_txn-itself, same_txn-true}
use Rattle.cl_types.specs.declared.answers.Reply.{Reply}
use Rattle.cl_types.specs.declared.answers.Reply.TheVariants.{Sum}
use Rattle.cl_types.specs.declared.operations.Mode.{Mode}
use Rattle.cl_types.specs.declared.operations.Mode.TheVariants.{Shared, Exclusive}
use Rattle.cl_types.specs.declared.operations.Op.{Op}
use Rattle.cl_types.specs.declared.operations.Op.TheVariants.{Get, Put, Del, Add as PlainAdd}
use Rattle.cl_types.specs.declared.operations.TxnId.{TxnId}
use Rattle.cl_types.specs.Modes.{is_conflict}
use Rattle.cl_types.specs.Places.{Place, Stored, same_place}
use Rattle.cl_types.specs.Plain.{plain_reply}
use Rattle.cl_types.specs.Transactions.{same_txn}
use Rattle.cl_vnode.specs.Inputs.{has_decide}
use Rattle.cl_vnode.specs.Replica.{ReplicaState}
use Rattle.cl_vnode.specs.Step.{Stepped, started, with_part, after_finish, asked, prepared, finished}
use Rattle.cl_wire.specs.Message.{Content, Command, Answer, Ask, Prepare, Vote, Finish, Decision}
use Rattle.cl_control.specs.Calls.{after_command, after_vote}

-- each lock is of a session, and no later one is of the same transaction at the same place
abbrev pub AreOwn : List Grant → Type 0
AreOwn [] = Unit {0}
AreOwn (grant ∷ grants) = IsOfSession grant.txn × (list_any (is_of grant.txn grant.place) grants ≡ false) × AreOwn grants

-- ---- who refuses

found_any : (p q : Grant → Bool) (grants : List Grant) (grant : Grant) → find p grants ≡ Some grant → q grant ≡ true → list_any q grants ≡ true
found_any p q [] grant found is = absurd (let e : ◌≡◌ {A = Option Grant} None (Some grant) = found in cc)
found_any p q (x ∷ grants) grant found is = by (λ there. found_any p q grants grant there is) (p x) found
  where
    by : (find p grants ≡ Some grant → list_any q grants ≡ true) → (b : Bool) → cond b (Some x) (find p grants) ≡ Some grant → (q x || list_any q grants) ≡ true
    by more true here = let same : x ≡ grant = cc in or_left (q x) _ (ap q same ∙ is)
    by more false there = or_right (q x) _ (more there)

-- the lock that is found is the only one of its transaction at the place
own_found : (txn : TxnId) (place : Place) (mode : Mode) (grants : List Grant) (grant : Grant) → AreOwn grants →
    find (is_in_conflict txn place mode) grants ≡ Some grant → find (is_of grant.txn place) grants ≡ Some grant
own_found txn place mode [] grant own found = absurd (let e : ◌≡◌ {A = Option Grant} None (Some grant) = found in cc)
own_found txn place mode (x ∷ grants) grant own found = by (λ there. own_found txn place mode grants grant own.2 there) (is_in_conflict txn place mode x) refl found
  where
    by : (find (is_in_conflict txn place mode) grants ≡ Some grant → find (is_of grant.txn place) grants ≡ Some grant) → (b : Bool) →
        is_in_conflict txn place mode x ≡ b → cond b (Some x) (find (is_in_conflict txn place mode) grants) ≡ Some grant →
        cond (is_of grant.txn place x) (Some x) (find (is_of grant.txn place) grants) ≡ Some grant
    by more true passes here =
        let same : x ≡ grant = cc in
        let placed : same_place place x.place ≡ true = (and_parts (same_place place x.place) _ passes).0 in
        cond-true _ (Some x) (find (is_of grant.txn place) grants) (and_from _ _ (ap (λ (g : Grant). same_txn g.txn x.txn) (sym same) ∙ same_txn-itself x.txn) placed) ∙ ap Some same
    by more false fails there = again (is_of grant.txn place x) refl
      where
        again : (b : Bool) → is_of grant.txn place x ≡ b → cond b (Some x) (find (is_of grant.txn place) grants) ≡ Some grant
        again true mine =
            let parts : (same_txn grant.txn x.txn ≡ true) × (same_place place x.place ≡ true) = and_parts _ _ mine in
            let of : grant.txn ≡ x.txn = same_txn-true grant.txn x.txn parts.0 in
            let here : place ≡ x.place = same_place-true place x.place parts.1 in
            let placed : same_place place grant.place ≡ true = (and_parts (same_place place grant.place) _ (find-passes (is_in_conflict txn place mode) grants grant there)).0 in
            let later : is_of x.txn x.place grant ≡ true = and_from _ _ (ap (λ t. same_txn t grant.txn) (sym of) ∙ same_txn-itself grant.txn) (ap (λ p. same_place p grant.place) (sym here) ∙ placed) in
            absurd (true≢false (sym (found_any (is_in_conflict txn place mode) (is_of x.txn x.place) grants grant there later) ∙ own.1))
        again false other = more there

session_of : (p : Grant → Bool) (grants : List Grant) (grant : Grant) → AreOwn grants → find p grants ≡ Some grant → IsOfSession grant.txn
session_of p [] grant own found = absurd (let e : ◌≡◌ {A = Option Grant} None (Some grant) = found in cc)
session_of p (x ∷ grants) grant own found = by (λ there. session_of p grants grant own.2 there) (p x) found
  where
    by : (find p grants ≡ Some grant → IsOfSession grant.txn) → (b : Bool) → cond b (Some x) (find p grants) ≡ Some grant → IsOfSession grant.txn
    by more true here = let same : x ≡ grant = cc in subst (λ (g : Grant). IsOfSession g.txn) same own.0
    by more false there = more there

-- who refuses holds a lock at the place that conflicts
pub record Holds (grants : List Grant) (txn holder : TxnId) (place : Place) (mode : Mode) : Type 0 where
  pub another : same_txn txn holder ≡ false
  pub session : IsOfSession holder
  pub held : Mode
  pub holds : mode_held grants holder place ≡ Some held
  pub conflict : is_conflict (Some held) (Some mode) ≡ true
  pub grant : Grant
  pub of : grant.txn ≡ holder
  pub found : find (is_in_conflict txn place mode) grants ≡ Some grant

pub refuser_holds : (grants : List Grant) (txn holder : TxnId) (place : Place) (mode : Mode) → AreOwn grants → first_conflict grants txn place mode ≡ Some holder →
    Holds grants txn holder place mode
unfolding first_conflict own_grant
refuser_holds grants txn holder place mode own is = by (find (is_in_conflict txn place mode) grants) refl is
  where
    by : (found : Option Grant) → find (is_in_conflict txn place mode) grants ≡ found → option_map (λ (g : Grant). g.txn) found ≡ Some holder → Holds grants txn holder place mode
    by None none holds = absurd (let e : ◌≡◌ {A = Option TxnId} None (Some holder) = holds in cc)
    by (Some grant) some holds =
        let of : grant.txn ≡ holder = cc in
        let passes = and_parts (same_place place grant.place) _ (find-passes (is_in_conflict txn place mode) grants grant some) in
        let both = and_parts (not (same_txn txn grant.txn)) _ passes.1 in
        record {
          another = ap (same_txn txn) (sym of) ∙ not-true _ both.0;
          session = subst IsOfSession of (session_of (is_in_conflict txn place mode) grants grant own some);
          held = grant.mode;
          holds = ap (λ t. option_map (λ (g : Grant). g.mode) (find (is_of t place) grants)) (sym of) ∙ ap (option_map (λ (g : Grant). g.mode)) (own_found txn place mode grants grant own some);
          conflict = both.1;
          grant = grant;
          of = of;
          found = some;
        }

-- ---- a lock more, and locks less

none_filtered : (p q : Grant → Bool) (grants : List Grant) → list_any q grants ≡ false → list_any q (filter p grants) ≡ false
none_filtered p q [] none = refl
none_filtered p q (x ∷ grants) none = let parts : (q x ≡ false) × (list_any q grants ≡ false) = or_parts (q x) _ none in by parts.0 (none_filtered p q grants parts.1) (p x)
  where
    by : q x ≡ false → list_any q (filter p grants) ≡ false → (b : Bool) → list_any q (cond b (x ∷ filter p grants) (filter p grants)) ≡ false
    by here more true = or_from _ _ here more
    by here more false = more

own_filtered : (p : Grant → Bool) (grants : List Grant) → AreOwn grants → AreOwn (filter p grants)
own_filtered p [] own = tt
own_filtered p (x ∷ grants) own = by (own_filtered p grants own.2) (p x)
  where
    by : AreOwn (filter p grants) → (b : Bool) → AreOwn (cond b (x ∷ filter p grants) (filter p grants))
    by more true = (own.0, none_filtered p (is_of x.txn x.place) grants own.1, more)
    by more false = more

none_pushed : (q : Grant → Bool) (grants : List Grant) (grant : Grant) → list_any q grants ≡ false → q grant ≡ false → list_any q (grants ++ grant ∷ []) ≡ false
none_pushed q [] grant none fails = or_from _ _ fails refl
none_pushed q (x ∷ grants) grant none fails = let parts : (q x ≡ false) × (list_any q grants ≡ false) = or_parts (q x) _ none in or_from _ _ parts.0 (none_pushed q grants grant parts.1 fails)

apart_back : (x grant : Grant) → is_of grant.txn grant.place x ≡ false → is_of x.txn x.place grant ≡ false
apart_back x grant apart = by (is_of x.txn x.place grant) refl
  where
    by : (b : Bool) → is_of x.txn x.place grant ≡ b → b ≡ false
    by true is =
        let parts : (same_txn x.txn grant.txn ≡ true) × (same_place x.place grant.place ≡ true) = and_parts _ _ is in
        let of : x.txn ≡ grant.txn = same_txn-true x.txn grant.txn parts.0 in
        let here : x.place ≡ grant.place = same_place-true x.place grant.place parts.1 in
        absurd (true≢false (sym (and_from _ _ (ap (same_txn grant.txn) of ∙ same_txn-itself grant.txn) (ap (same_place grant.place) here ∙ same_place-itself grant.place)) ∙ apart))
    by false is = refl

own_pushed : (grants : List Grant) (grant : Grant) → IsOfSession grant.txn → AreOwn grants → list_any (is_of grant.txn grant.place) grants ≡ false → AreOwn (grants ++ grant ∷ [])
own_pushed [] grant of own none = (of, refl, tt)
own_pushed (x ∷ grants) grant of own none =
    let parts : (is_of grant.txn grant.place x ≡ false) × (list_any (is_of grant.txn grant.place) grants ≡ false) = or_parts (is_of grant.txn grant.place x) _ none in
    (own.0, none_pushed (is_of x.txn x.place) grants grant own.1 (apart_back x grant parts.0), own_pushed grants grant of own.2 parts.1)

none_found : (q : Grant → Bool) (grants : List Grant) → find q grants ≡ None → list_any q grants ≡ false
none_found q [] none = refl
none_found q (x ∷ grants) none = by (λ there. none_found q grants there) (q x) refl none
  where
    by : (find q grants ≡ None → list_any q grants ≡ false) → (b : Bool) → q x ≡ b → cond b (Some x) (find q grants) ≡ None → (q x || list_any q grants) ≡ false
    by more true is some = absurd (let e : ◌≡◌ {A = Option Grant} (Some x) None = some in cc)
    by more false is there = or_from _ _ is (more there)

none_left : (q : Grant → Bool) (grants : List Grant) → list_any q (filter (λ grant. not (q grant)) grants) ≡ false
none_left q [] = refl
none_left q (x ∷ grants) = by (none_left q grants) (q x) refl
  where
    by : list_any q (filter (λ grant. not (q grant)) grants) ≡ false → (b : Bool) → q x ≡ b →
        list_any q (cond (not b) (x ∷ filter (λ grant. not (q grant)) grants) (filter (λ grant. not (q grant)) grants)) ≡ false
    by more true is = more
    by more false is = or_from _ _ is more

own_granted : (grants : List Grant) (grant : Grant) → IsOfSession grant.txn → AreOwn grants → AreOwn (after_grant grants grant)
unfolding after_grant without_lock own_grant
own_granted grants grant of own = by (mode_held grants grant.txn grant.place) refl grant.mode
  where
    kept : Granted → Type 0
    kept as_is = AreOwn (with_grant as_is grants grant)

    again : AreOwn (filter (λ x. not (is_of grant.txn grant.place x)) grants ++ grant ∷ [])
    again = own_pushed _ grant of (own_filtered (λ x. not (is_of grant.txn grant.place x)) grants own) (none_left (is_of grant.txn grant.place) grants)

    by : (held : Option Mode) → mode_held grants grant.txn grant.place ≡ held → (mode : Mode) → AreOwn (with_grant (granted_as held mode) grants grant)
    by None none mode = own_pushed grants grant of own (none_found (is_of grant.txn grant.place) grants (mapped_none (λ (g : Grant). g.mode) (find (is_of grant.txn grant.place) grants) none))
    by (Some Shared) is Shared = own
    by (Some Shared) is Exclusive = again
    by (Some Exclusive) is mode = own

-- ---- the calls of a participant

own_record : (content : LogRec) (grants : List Grant) → IsOfSession (txn_of content) → AreOwn grants → AreOwn (grants_with content grants)
unfolding without_txn
own_record (Touch txn table key mode) grants of own = own_granted grants (record { txn = txn; place = (table, key); mode = mode }) of own
own_record (Set txn table key before old new) grants of own = own_granted grants (record { txn = txn; place = (table, key); mode = Exclusive }) of own
own_record (Add txn table key before amount) grants of own = own_granted grants (record { txn = txn; place = (table, key); mode = Exclusive }) of own
own_record (Comp txn table key before undone form) grants of own = own
own_record (Prepared txn) grants of own = own
own_record (End txn commit) grants of own = own_filtered (λ grant. not (same_txn txn grant.txn)) grants own
own_record (Decide txn) grants of own = own

-- the record, if there is one, is of the transaction
abbrev IsLeftOf : TxnId → Option LogRec → Type 0
IsLeftOf txn None = Unit {0}
IsLeftOf txn (Some content) = txn_of content ≡ txn

touch_left : (txn : TxnId) (place : Place) (held : Option Mode) (mode : Mode) → IsLeftOf txn (touch_of txn place held mode)
touch_left txn place None mode = refl
touch_left txn place (Some Exclusive) mode = tt
touch_left txn place (Some Shared) Shared = tt
touch_left txn place (Some Shared) Exclusive = refl

removal_left : (txn : TxnId) (place : Place) (before : ℕ) (value : Option (List ℕ)) (held : Option Mode) → IsLeftOf txn (removal_of txn place before value held)
removal_left txn place before None held = touch_left txn place held Exclusive
removal_left txn place before (Some x) held = refl

record_is_of : (txn : TxnId) (place : Place) (op : Op) (stored : Stored) (held : Option Mode) → IsLeftOf txn (record_of txn place op stored held)
record_is_of txn place Get stored held = touch_left txn place held Shared
record_is_of txn place (Put y) stored held = refl
record_is_of txn place Del stored held = removal_left txn place stored.0 stored.1 held
record_is_of txn place (PlainAdd amount) stored held = by (plain_reply (PlainAdd amount) stored.1)
  where
    sum : (sum : _) (value : Option (List ℕ)) → txn_of (sum_of txn place stored.0 value amount sum) ≡ txn
    sum total None = refl
    sum total (Some x) = refl

    by : (reply : Reply) → IsLeftOf txn (addition_of txn place stored amount reply held)
    by (Sum total) = sum total stored.1
    by reply = touch_left txn place held Exclusive

own_op : (state : State) (txn : TxnId) (place : Place) (op : Op) → IsOfSession txn → AreOwn state.grants → AreOwn (after_op state txn place op).grants
unfolding after_op after_record
own_op state txn place op of own = by (refusing state txn place op) (record_left state txn place op) (record_is_of txn place op (state.stored place) (mode_held state.grants txn place))
  where
    by : (refused : Option TxnId) (left : Option LogRec) → IsLeftOf txn left → AreOwn (after_optional state (unless_refused refused left)).grants
    by None None is = own
    by None (Some content) is = own_record content state.grants (subst IsOfSession (sym is) of) own
    by (Some holder) left is = own

compensation_leaves : (content : LogRec) (number now : ℕ) (grants : List Grant) → can_be_undone content ≡ true → grants_with (undo_of content number now) grants ≡ grants
compensation_leaves (Set txn table key before old new) number now grants h = refl
compensation_leaves (Add txn table key before amount) number now grants h = refl
compensation_leaves content number now grants h = absurd (false≢true h)

undo_leaves : (state : State) (txn : TxnId) → (after_undo state txn).grants ≡ state.grants
unfolding after_record
undo_leaves state txn = by (rest_to_undo state.log txn) refl
  where
    by : (rest : List LogEntry) → rest_to_undo state.log txn ≡ rest → (after_undo state txn).grants ≡ state.grants
    by [] none = ap (λ (s : State). s.grants) (after_undo-none state txn none)
    by (first ∷ others) rest =
        let is = first_of_rest_is state.log txn first others rest in
        let left : (is_record_of txn first.content ≡ true) × (is_left state.log first ≡ true) = and_parts _ _ is.left in
        let undoable : can_be_undone first.content ≡ true = (and_parts (can_be_undone first.content) (not (is_undone state.log first.number)) left.1).0 in
        ap (λ (s : State). s.grants) (after_undo-first state txn first others rest) ∙ compensation_leaves first.content first.number _ state.grants undoable

each_leaves : (rest : List LogEntry) (state : State) (txn : TxnId) → (undo_each state txn rest).grants ≡ state.grants
each_leaves [] state txn = refl
each_leaves (entry ∷ rest) state txn = each_leaves rest (after_undo state txn) txn ∙ undo_leaves state txn

own_finish : (state : State) (txn : TxnId) (commit : Bool) → AreOwn state.grants → AreOwn (after_finish state txn commit).grants
unfolding after_end after_record after_abort after_rollback without_txn
own_finish state txn true own = own_filtered (λ grant. not (same_txn txn grant.txn)) state.grants own
own_finish state txn false own = own_filtered (λ grant. not (same_txn txn grant.txn)) _ (subst AreOwn (sym (each_leaves (rest_to_undo state.log txn) state txn)) own)

-- ---- a step of a replica

-- an operation is of a session
abbrev pub AsksOfSession : Content → Type 0
AsksOfSession (Ask v txn number table key op) = IsOfSession txn
AsksOfSession content = Unit {0}

own_finished : (state : ReplicaState) (txn : TxnId) (commit : Bool) → AreOwn state.part.grants → AreOwn (finished (started state) txn commit).state.part.grants
unfolding finished
own_finished state txn commit own =
    cond_both (is_open state.part.log txn) (with_part (started state) (after_finish state.part txn commit)) (started state) (λ (done : Stepped). AreOwn done.state.part.grants)
    (λ opened. own_finish state.part txn commit own) (λ closed. own)

pub own_step : (state : ReplicaState) (from : ℕ) (content : Content) (mark : Bool) → AsksOfSession content → AreOwn state.part.grants →
    AreOwn (lone_step own_primary state from content mark).state.part.grants
unfolding lone_step asked prepared after_prepare after_decide after_record
own_step state from (Command v txn number what) mark of own =
    cond_both (has_decide (command_acts state.control txn number what)) (committed own_primary state txn number) (controlled own_primary state (after_command state.control txn number what) (command_acts state.control txn number what))
    (λ (done : Stepped). AreOwn done.state.part.grants) (λ decides. own) (λ otherwise. own)
own_step state from (Answer v txn number answer) mark of own = own
own_step state from (Vote v txn) mark of own =
    cond_both (counts_vote state.control v txn && is_last_vote state.control v txn) (committed own_primary state txn (command_of state.control txn)) (controlled own_primary state (after_vote state.control v txn) [])
    (λ (done : Stepped). AreOwn done.state.part.grants) (λ last. own) (λ otherwise. own)
own_step state from (Ask v txn number table key op) true of own = own
own_step state from (Ask v txn number table key op) false of own = own_op state.part txn (table, key) op of own
own_step state from (Prepare v txn) mark of own = own
own_step state from (Finish v txn commit) mark of own = own_finished state txn commit own
own_step state from (Decision v txn commit) mark of own = own_finished state txn commit own
own_step state from content mark of own = own
