-- A ledger, seen by virtual nodes and by places.
use Rattle.std.proofs.Common.{◌≡◌, ◌&&◌, ◌≢◌, ℕ, Bool, true, false, eqb, List, [], ◌∷◌, ◌++◌, Option, Some, None, refl, sym, ap, ◌∙◌, subst, inl, inr}
use Rattle.std.specs.Prelude.{slice_index_or}
use Rattle.std.specs.List.{IsDistinct, All, fold}
use Rattle.std.proofs.lemmas.Bool.{and_parts, or_left, or_right, cond-true, cond-false, cases_Bool, both_ways, eqb-true, or_parts, or_cases, false≢true, true_from_ne_false, and_from, not_from_false}
use Rattle.std.proofs.lemmas.List.Elements.{All-weaker, All-head, All-tail, All-nil, All-cons}
use Rattle.cl_types.specs.declared.operations.Mode.{Mode}
use Rattle.cl_types.specs.declared.operations.Mode.TheVariants.{Shared, Exclusive}
use Rattle.cl_types.specs.declared.operations.TxnId.{TxnId}
use Rattle.cl_types.specs.Modes.{stronger}
use Rattle.cl_types.specs.Places.{Place, same_place}
use Rattle.cl_types.specs.Transactions.{same_txn}
use Rattle.cl_types.proofs.Modes.{stronger-none}
use Rattle.cl_types.proofs.Places.{same_place-true, same_place-itself}
use Rattle.cl_types.proofs.Transactions.{same_txn-true}
use Rattle.cl_log.specs.LogEntry.{LogEntry, EachAfter}
use Rattle.cl_log.specs.Kind.{txn_of, is_of}
use Rattle.cl_log.specs.Locks.{mode_at, mode_after, strongest_mode, locks_of_log}
use Rattle.cl_log.specs.Open.{has_ended, is_open}
use Rattle.cl_log.specs.Settled.{settled}
use Rattle.cl_log.proofs.Locks.{strongest_mode-unbegun}
use Rattle.cl_serial.specs.PlainMap.{Operation, no_values, RepliesAgree}
use Rattle.cl_order.specs.Ledger.{Ledger, log_at, member_operations, values_of, has_operation_at, asks_at, LocksForOperation, IsOrdered, IsWholeOn, IsWhole}
use Rattle.cl_order.specs.Operations.{mode_of, is_held}
use Rattle.cl_order.specs.Steps.{logs_with, with_log}
use Rattle.cl_order.proofs.Held.{held_none}
use Rattle.cl_order.proofs.OneLog.{HasLock, IsOrderedOn}
use Rattle.cl_order.proofs.OneWhole.{HoldsAt, IsWholeAt, Keeps, whole_kept}
use Rattle.cl_order.proofs.Replays.{after_operations-at, agree_on, agree_on_from, AgreeAt-none}

-- ---- one log after another

pub ordered_on : (ledger : Ledger) → IsOrdered ledger → (v : ℕ) → IsOrderedOn ledger.on ledger.history ledger.done (values_of ledger) v (ledger.logs v)
ordered_on ledger ordered v = record {
  numbered = ordered.numbered v;
  lawful = ordered.lawful v;
  for_operations = ordered.for_operations v;
  settles = λ place here. subst (λ u. settled (ledger.logs u) ledger.history place ≡ values_of ledger place) here (ordered.settles place);
  locked = λ txn member. All-weaker
      (λ (o : Operation). is_held (strongest_mode (log_at ledger o.place) txn o.place) (mode_of o.op) ≡ true) (HasLock ledger.on v (ledger.logs v) txn)
      (λ o has here. subst (λ u. is_held (strongest_mode (ledger.logs u) txn o.place) (mode_of o.op) ≡ true) here has) (ledger.done txn) (ordered.locked txn member);
}

pub ordered_from : (ledger : Ledger) → ((v : ℕ) → IsOrderedOn ledger.on ledger.history ledger.done (values_of ledger) v (ledger.logs v)) → RepliesAgree no_values (member_operations ledger) →
    IsDistinct same_txn ledger.history → IsOrdered ledger
ordered_from ledger each replies distinct = record {
  numbered = λ v. (each v).numbered;
  lawful = λ v. (each v).lawful;
  for_operations = λ v. (each v).for_operations;
  settles = λ place. (each (ledger.on place)).settles place refl;
  replies = replies;
  distinct = distinct;
  locked = λ txn member k d below. (each (ledger.on (slice_index_or (ledger.done txn) k d).place)).locked txn member k d below refl;
}

-- ---- one place after another

pub whole_at : (ledger : Ledger) (txn : TxnId) (v : ℕ) → IsWholeOn ledger txn v → (place : Place) → ledger.on place ≡ v → IsWholeAt (ledger.logs v) txn place (values_of ledger place) (ledger.done txn)
whole_at ledger txn v whole place here = record {
  locked = All-weaker
      (λ (o : Operation). ledger.on o.place ≡ v → is_held (locks_of_log (ledger.logs v) txn o.place) (mode_of o.op) ≡ true) (HoldsAt (ledger.logs v) txn place)
      (λ o has at. ap (λ (p : Place). is_held (locks_of_log (ledger.logs v) txn p) (mode_of o.op)) (sym at) ∙ has (ap ledger.on at ∙ here)) (ledger.done txn) whole.locked;
  agree = agree_on ledger.on v (values_of ledger) (ledger.done txn) whole.replayed place here;
  written = λ exclusive. whole.written place here exclusive ∙ after_operations-at (values_of ledger) (ledger.done txn) place;
}

pub whole_from : (ledger : Ledger) (txn : TxnId) (v : ℕ) → ((place : Place) → ledger.on place ≡ v → IsWholeAt (ledger.logs v) txn place (values_of ledger place) (ledger.done txn)) → IsWholeOn ledger txn v
whole_from ledger txn v each = record {
  locked = λ k d below here. (each (slice_index_or (ledger.done txn) k d).place here).locked k d below refl;
  replayed = agree_on_from ledger.on v (values_of ledger) (ledger.done txn) (λ place here. (each place here).agree);
  written = λ place here exclusive. (each place here).written exclusive ∙ sym (after_operations-at (values_of ledger) (ledger.done txn) place);
}

-- ---- a transaction without an operation at a place

has_where_asked : (list : List Operation) (place : Place) (mode : Mode) → asks_at list place mode ≡ true → has_operation_at list place ≡ true
has_where_asked [] place mode h = h
has_where_asked (x ∷ xs) place mode h =
    elim (or_cases (same_place x.place place && is_held (Some (mode_of x.op)) mode) _ h) [
      | inl here ↦ or_left (same_place x.place place) _ (and_parts (same_place x.place place) _ here).0
      | inr later ↦ or_right (same_place x.place place) _ (has_where_asked xs place mode later)
    ]

-- its records lock nothing there
unlocked_fold : (done : TxnId → List Operation) (txn : TxnId) (place : Place) (seen xs : List LogEntry) → has_operation_at (done txn) place ≡ false → EachAfter (λ _ e. LocksForOperation done e) seen xs →
    fold (mode_after txn place) None xs ≡ None
unlocked_fold done txn place seen [] none h = refl
unlocked_fold done txn place seen (x ∷ xs) none h =
    ap (λ m. fold (mode_after txn place) m xs) (by_owner (is_of txn x.content) refl) ∙ unlocked_fold done txn place (seen ++ x ∷ []) xs none h.1
  where
    by_mode : is_of txn x.content ≡ true → (m : Option Mode) → mode_at place x.content ≡ m → mode_at place x.content ≡ None
    by_mode own None e = e
    by_mode own (Some mode) e =
        absurd (both_ways _ none (ap (λ t. has_operation_at (done t) place) (sym (same_txn-true (txn_of x.content) txn own)) ∙ has_where_asked (done (txn_of x.content)) place mode (h.0 place mode e)))

    by_owner : (b : Bool) → is_of txn x.content ≡ b → mode_after txn place None x ≡ None
    by_owner true t = cond-true _ _ _ t ∙ ap (stronger None) (by_mode t (mode_at place x.content) refl) ∙ stronger-none None
    by_owner false f = cond-false _ _ _ f

pub unlocked_without : (done : TxnId → List Operation) (txn : TxnId) (place : Place) (log : List LogEntry) → has_operation_at (done txn) place ≡ false → EachAfter (λ _ e. LocksForOperation done e) [] log →
    locks_of_log log txn place ≡ None
unfolding locks_of_log strongest_mode
unlocked_without done txn place log none h =
    elim (cases_Bool (is_open log txn)) [
      | inl t ↦ cond-true _ _ _ t ∙ unlocked_fold done txn place [] log none h
      | inr f ↦ cond-false _ _ _ f
    ]

-- its lock is what one of its records asked for
asked_stronger : (done : List Operation) (place : Place) (a b : Option Mode) → ((mode : Mode) → a ≡ Some mode → asks_at done place mode ≡ true) → ((mode : Mode) → b ≡ Some mode → asks_at done place mode ≡ true) →
    (mode : Mode) → stronger a b ≡ Some mode → asks_at done place mode ≡ true
asked_stronger done place None b asked_a asked_b mode e = asked_b mode e
asked_stronger done place (Some Exclusive) b asked_a asked_b mode e = asked_a mode e
asked_stronger done place (Some Shared) None asked_a asked_b mode e = asked_a mode e
asked_stronger done place (Some Shared) (Some other) asked_a asked_b mode e = asked_b mode e

asked_fold : (done : TxnId → List Operation) (txn : TxnId) (place : Place) (held : Option Mode) (seen xs : List LogEntry) → EachAfter (λ _ e. LocksForOperation done e) seen xs →
    ((mode : Mode) → held ≡ Some mode → asks_at (done txn) place mode ≡ true) → (mode : Mode) → fold (mode_after txn place) held xs ≡ Some mode → asks_at (done txn) place mode ≡ true
asked_fold done txn place held seen [] h asked mode e = asked mode e
asked_fold done txn place held seen (x ∷ xs) h asked mode e =
    asked_fold done txn place (mode_after txn place held x) (seen ++ x ∷ []) xs h.1 (by_owner (is_of txn x.content) refl) mode e
  where
    by_owner : (b : Bool) → is_of txn x.content ≡ b → (mode : Mode) → mode_after txn place held x ≡ Some mode → asks_at (done txn) place mode ≡ true
    by_owner true t mode q =
        asked_stronger (done txn) place held (mode_at place x.content) asked
        (λ m k. ap (λ t. asks_at (done t) place m) (sym (same_txn-true (txn_of x.content) txn t)) ∙ h.0 place m k) mode (sym (cond-true _ _ _ t) ∙ q)
    by_owner false f mode q = asked mode (sym (cond-false _ _ _ f) ∙ q)

pub asked_where_locked : (done : TxnId → List Operation) (txn : TxnId) (place : Place) (log : List LogEntry) → EachAfter (λ _ e. LocksForOperation done e) [] log →
    (mode : Mode) → locks_of_log log txn place ≡ Some mode → asks_at (done txn) place mode ≡ true
unfolding locks_of_log strongest_mode
asked_where_locked done txn place log h mode e =
    elim (cases_Bool (is_open log txn)) [
      | inl t ↦ asked_fold done txn place None [] log h (λ m q. absurd (let r : ◌≡◌ {A = Option Mode} None (Some m) = q in cc)) mode (sym (cond-true _ _ _ t) ∙ e)
      | inr f ↦ absurd (let r : ◌≡◌ {A = Option Mode} None (Some mode) = sym (cond-false _ _ _ f) ∙ e in cc)
    ]

-- none of its operations is there
apart_without : (place : Place) (list : List Operation) → has_operation_at list place ≡ false → All (λ operation. operation.place ≢ place) list
apart_without place [] none = All-nil (λ (o : Operation). o.place ≢ place)
apart_without place (x ∷ xs) none =
    let parts = or_parts (same_place x.place place) _ none in
    All-cons (λ (o : Operation). o.place ≢ place) x xs
    (λ here. both_ways _ parts.0 (ap (same_place x.place) (sym here) ∙ same_place-itself x.place)) (apart_without place xs parts.1)

pub whole_without : (done : TxnId → List Operation) (txn : TxnId) (place : Place) (value : Option (List ℕ)) (log : List LogEntry) → has_operation_at (done txn) place ≡ false →
    EachAfter (λ _ e. LocksForOperation done e) [] log → IsWholeAt log txn place value (done txn)
whole_without done txn place value log none h =
    let free = unlocked_without done txn place log none h in
    let apart = apart_without place (done txn) none in
    record {
      locked = All-weaker (λ (o : Operation). o.place ≢ place) (HoldsAt log txn place) (λ o away here. absurd (away here)) (done txn) apart;
      agree = AgreeAt-none place value (done txn) apart;
      written = λ exclusive. absurd (let e : ◌≡◌ {A = Option Mode} None (Some Exclusive) = sym free ∙ exclusive in cc);
    }

-- what holds of the place of each operation holds where it has one
found_at : (Q : Place → Type 0) (place : Place) (list : List Operation) → All (λ operation. Q operation.place) list → has_operation_at list place ≡ true → Q place
found_at Q place [] all has = absurd (false≢true has)
found_at Q place (x ∷ xs) all has =
    elim (or_cases (same_place x.place place) _ has) [
      | inl here ↦ subst Q (same_place-true x.place place here) (All-head (λ (o : Operation). Q o.place) x xs all)
      | inr later ↦ found_at Q place xs (All-tail (λ (o : Operation). Q o.place) x xs all) later
    ]

-- a whole transaction is whole at each place
pub whole_everywhere : (ledger : Ledger) (txn : TxnId) → IsOrdered ledger → IsWhole ledger txn → (place : Place) → IsWholeAt (log_at ledger place) txn place (values_of ledger place) (ledger.done txn)
whole_everywhere ledger txn ordered whole place =
    elim (cases_Bool (has_operation_at (ledger.done txn) place)) [
      | inl t ↦ whole_at ledger txn (ledger.on place) (found_at (λ (p : Place). IsWholeOn ledger txn (ledger.on p)) place (ledger.done txn) whole t) place refl
      | inr f ↦ whole_without ledger.done txn place (values_of ledger place) (log_at ledger place) f (ordered.for_operations (ledger.on place))
    ]

-- ---- locks that are held, and the strongest of a transaction's records

pub strongest_where_locked : (log : List LogEntry) (txn : TxnId) (place : Place) (mode : Mode) → is_held (locks_of_log log txn place) mode ≡ true → is_held (strongest_mode log txn place) mode ≡ true
unfolding locks_of_log
strongest_where_locked log txn place mode held =
    elim (cases_Bool (is_open log txn)) [
      | inl t ↦ ap (λ m. is_held m mode) (sym (cond-true _ (strongest_mode log txn place) None t)) ∙ held
      | inr f ↦ absurd (held_none mode (sym (ap (λ m. is_held m mode) (cond-false _ (strongest_mode log txn place) None f)) ∙ held))
    ]

-- until its End a transaction holds the strongest
pub locked_where_strongest : (log : List LogEntry) (txn : TxnId) (place : Place) (mode : Mode) → is_held (strongest_mode log txn place) mode ≡ true → has_ended log txn ≡ false →
    is_held (locks_of_log log txn place) mode ≡ true
unfolding locks_of_log
locked_where_strongest log txn place mode held running =
    ap (λ m. is_held m mode)
    (cond-true _ (strongest_mode log txn place) None
    (and_from _ _
    (true_from_ne_false _ (λ unbegun. held_none mode (sym (ap (λ m. is_held m mode) (strongest_mode-unbegun log txn place unbegun)) ∙ held)))
    (not_from_false _ running)))
    ∙ held

-- ---- another log at one virtual node

pub logs_with-each : (P : ℕ → List LogEntry → Type 0) (logs : ℕ → List LogEntry) (v : ℕ) (log : List LogEntry) → P v log → ((u : ℕ) → P u (logs u)) → (u : ℕ) → P u (logs_with logs v log u)
logs_with-each P logs v log here elsewhere u =
    elim (cases_Bool (eqb u v)) [
      | inl t ↦ subst (P u) (sym (cond-true _ _ _ t)) (subst (λ w. P w log) (sym (eqb-true u v t)) here)
      | inr f ↦ subst (P u) (sym (cond-false _ _ _ f)) (elsewhere u)
    ]

pub ordered_with_log : (ledger : Ledger) (v : ℕ) (log : List LogEntry) → IsOrdered ledger → IsOrderedOn ledger.on ledger.history ledger.done (values_of ledger) v log → IsOrdered (with_log ledger v log)
ordered_with_log ledger v log ordered here =
    ordered_from (with_log ledger v log)
    (logs_with-each (IsOrderedOn ledger.on ledger.history ledger.done (values_of ledger)) ledger.logs v log here (ordered_on ledger ordered))
    ordered.replies ordered.distinct

pub whole_at_log : (ledger : Ledger) (v : ℕ) (log : List LogEntry) (txn : TxnId) (u : ℕ) (place : Place) (value : Option (List ℕ)) (list : List Operation) → (u ≡ v → Keeps (ledger.logs v) log txn place) →
    IsWholeAt (ledger.logs u) txn place value list → IsWholeAt (logs_with ledger.logs v log u) txn place value list
whole_at_log ledger v log txn u place value list keeps whole =
    elim (cases_Bool (eqb u v)) [
      | inl t ↦
          let same = eqb-true u v t in
          subst (λ es. IsWholeAt es txn place value list) (sym (cond-true _ log (ledger.logs u) t))
          (whole_kept (ledger.logs u) log txn place value list (subst (λ w. Keeps (ledger.logs w) log txn place) (sym same) (keeps same)) whole)
      | inr f ↦ subst (λ es. IsWholeAt es txn place value list) (sym (cond-false _ log (ledger.logs u) f)) whole
    ]

pub whole_with_log : (ledger : Ledger) (v : ℕ) (log : List LogEntry) (txn : TxnId) (u : ℕ) → (u ≡ v → (place : Place) → ledger.on place ≡ v → Keeps (ledger.logs v) log txn place) → IsWholeOn ledger txn u →
    IsWholeOn (with_log ledger v log) txn u
whole_with_log ledger v log txn u keeps whole =
    whole_from (with_log ledger v log) txn u (λ place here.
    whole_at_log ledger v log txn u place (values_of ledger place) (ledger.done txn) (λ same. keeps same place (here ∙ same)) (whole_at ledger txn u whole place here))

-- ---- ledgers that are the same

pub same_ledger : (these those : Ledger) → ((place : Place) → these.on place ≡ those.on place) → ((v : ℕ) → these.logs v ≡ those.logs v) → these.history ≡ those.history →
    ((txn : TxnId) → these.done txn ≡ those.done txn) → these ≡ those
same_ledger these those on logs history done = λ i. record { on = λ place. on place i; logs = λ v. logs v i; history = history i; done = λ txn. done txn i }
