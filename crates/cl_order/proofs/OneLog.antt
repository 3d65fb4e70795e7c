-- The part of one log in the serial order, step by step.
use Rattle.std.proofs.Common.{◌≡◌, ℕ, ◌+◌, true, ◌||◌, List, [], ◌∷◌, ◌++◌, length, Option, None, refl, sym, ap, ◌∙◌, subst, inl, inr, arith}
use Rattle.std.specs.List.{All, fold}
use Rattle.std.proofs.lemmas.Bool.{cond-true, cond-false, cases_Bool, or_left, or_cases}
use Rattle.std.proofs.lemmas.List.Elements.{All-weaker}
use Rattle.std.proofs.lemmas.List.Folds.{list_any-append}
use Rattle.cl_types.specs.declared.operations.Mode.{Mode}
use Rattle.cl_types.specs.declared.operations.TxnId.{TxnId}
use Rattle.cl_types.specs.Modes.{stronger}
use Rattle.cl_types.proofs.Modes.{stronger-none}
use Rattle.cl_types.specs.Places.{Place}
use Rattle.cl_types.specs.Transactions.{same_txn}
use Rattle.cl_types.proofs.Transactions.{same_txn-true}
use Rattle.cl_log.specs.declared.records.LogRec.{LogRec}
use Rattle.cl_log.specs.LogEntry.{LogEntry, IsNumberedFrom, EachAfter}
use Rattle.cl_log.specs.Kind.{txn_of, is_of, is_end, is_mark}
use Rattle.cl_log.specs.Lawful.{IsLawful, IsLawfulLog, LosesEndsOfMembers}
use Rattle.cl_log.specs.Locks.{mode_at, mode_after, strongest_mode, HasNoConflict}
use Rattle.cl_log.specs.Open.{is_among}
use Rattle.cl_log.specs.Settled.{settled}
use Rattle.cl_log.proofs.Beginnings.{settled_after_lawful, settled-beginning}
use Rattle.cl_log.proofs.Conflicts.{HasNoConflict-lawful, end_takes_none}
use Rattle.cl_log.proofs.Cut.{strongest_mode-append}
use Rattle.cl_log.proofs.Entries.{append-IsNumberedFrom, IsNumberedFrom-append, EachAfter_push, EachAfter-append, EachAfter-weaker}
use Rattle.cl_log.proofs.Locks.{mode_at-none, strongest_mode_push}
use Rattle.cl_log.proofs.Open.{or_false}
use Rattle.cl_serial.specs.PlainMap.{Values, Operation}
use Rattle.cl_order.specs.Ledger.{LocksForOperation}
use Rattle.cl_order.specs.Operations.{mode_of, is_held}
use Rattle.cl_order.proofs.Held.{is_held-stronger}

-- what an operation of a member needs of the log
abbrev pub HasLock : (Place → ℕ) → ℕ → List LogEntry → TxnId → Operation → Type 0
HasLock on v log txn operation = on operation.place ≡ v → is_held (strongest_mode log txn operation.place) (mode_of operation.op) ≡ true

-- the log of a virtual node is in order
pub record IsOrderedOn (on : Place → ℕ) (history : List TxnId) (done : TxnId → List Operation) (values : Values) (v : ℕ) (log : List LogEntry) : Type 0 where
  pub numbered : IsNumberedFrom 1 log
  pub lawful : IsLawfulLog history log
  pub for_operations : EachAfter (λ _ entry. LocksForOperation done entry) [] log
  pub settles : (place : Place) → on place ≡ v → settled log history place ≡ values place
  pub locked : (txn : TxnId) → is_among txn history ≡ true → All (HasLock on v log txn) (done txn)

module _ (on : Place → ℕ) (history : List TxnId) (done : TxnId → List Operation) (values : Values) (v : ℕ) (log : List LogEntry) (old : IsOrderedOn on history done values v log) where
  pub no_conflict_on : HasNoConflict log
  no_conflict_on = HasNoConflict-lawful history log old.lawful

  -- one more record
  pub ordered_push : (entry : LogEntry) → entry.number ≡ length log + 1 → IsLawful history log entry → LocksForOperation done entry →
      (is_among (txn_of entry.content) history ≡ true → (is_mark entry.content || is_end entry.content) ≡ true) → IsOrderedOn on history done values v (log ++ entry ∷ [])
  ordered_push entry number lawful for_operation members =
      let numbers = append-IsNumberedFrom 1 log (entry ∷ []) old.numbered (omega (arith, number), tt) in
      record {
        numbered = numbers;
        lawful = EachAfter_push (IsLawful history) [] log entry old.lawful lawful;
        for_operations = EachAfter_push (λ _ e. LocksForOperation done e) [] log entry old.for_operations for_operation;
        settles = λ place here. settled_after_lawful history log entry 1 place numbers old.lawful lawful members ∙ old.settles place here;
        locked = λ txn member. All-weaker (HasLock on v log txn) (HasLock on v (log ++ entry ∷ []) txn) (λ operation has here. kept txn operation (has here)) (done txn) (old.locked txn member);
      }
    where
      kept : (txn : TxnId) (operation : Operation) → is_held (strongest_mode log txn operation.place) (mode_of operation.op) ≡ true →
          is_held (strongest_mode (log ++ entry ∷ []) txn operation.place) (mode_of operation.op) ≡ true
      kept txn operation has =
          ap (λ m. is_held m (mode_of operation.op)) (strongest_mode_push log entry txn operation.place)
          ∙ (elim (cases_Bool (is_of txn entry.content)) [
            | inl t ↦ ap (λ m. is_held m (mode_of operation.op)) (cond-true _ _ _ t) ∙ is_held-stronger _ _ (mode_of operation.op) has
            | inr f ↦ ap (λ m. is_held m (mode_of operation.op)) (cond-false _ _ _ f) ∙ has
          ])

  -- the log loses an end, with nothing of members but Ends
  pub ordered_cut : (front lost : List LogEntry) → log ≡ front ++ lost → LosesEndsOfMembers history lost → IsOrderedOn on history done values v front
  ordered_cut front lost parts ends = record {
    numbered = (IsNumberedFrom-append 1 front lost (subst (IsNumberedFrom 1) parts old.numbered)).0;
    lawful = (EachAfter-append (IsLawful history) [] front lost (subst (IsLawfulLog history) parts old.lawful)).0;
    for_operations = (EachAfter-append (λ _ e. LocksForOperation done e) [] front lost (subst (EachAfter (λ _ e. LocksForOperation done e) []) parts old.for_operations)).0;
    settles = λ place here. settled-beginning history log front lost 1 old.numbered old.lawful parts ends place ∙ old.settles place here;
    locked = λ txn member. All-weaker (HasLock on v log txn) (HasLock on v front txn)
        (λ operation has here. ap (λ m. is_held m (mode_of operation.op)) (sym (strongest_of_front txn operation.place member)) ∙ has here) (done txn) (old.locked txn member);
  }
    where
      ends_lock_nothing : (content : LogRec) (place : Place) → is_end content ≡ true → mode_at place content ≡ None
      ends_lock_nothing content place h = mode_at-none place content (end_takes_none content h)

      unlocked : (txn : TxnId) (place : Place) (mode : Option Mode) (seen xs : List LogEntry) → is_among txn history ≡ true →
          EachAfter (λ _ entry. is_among (txn_of entry.content) history ≡ true → is_end entry.content ≡ true) seen xs → fold (mode_after txn place) mode xs ≡ mode
      unlocked txn place mode seen [] member h = refl
      unlocked txn place mode seen (x ∷ xs) member h =
          ap (λ m. fold (mode_after txn place) m xs)
          (elim (cases_Bool (is_of txn x.content)) [
            | inl t ↦ cond-true _ _ _ t
                ∙ ap (stronger mode) (ends_lock_nothing x.content place (h.0 (ap (λ t. is_among t history) (same_txn-true (txn_of x.content) txn t) ∙ member)))
                ∙ stronger-none mode
            | inr f ↦ cond-false _ _ _ f
          ])
          ∙ unlocked txn place mode (seen ++ x ∷ []) xs member h.1

      strongest_of_front : (txn : TxnId) (place : Place) → is_among txn history ≡ true → strongest_mode log txn place ≡ strongest_mode front txn place
      strongest_of_front txn place member =
          ap (λ es. strongest_mode es txn place) parts
          ∙ strongest_mode-append front lost txn place
          ∙ unlocked txn place (strongest_mode front txn place) [] lost member ends

  -- a transaction that is no member has one more operation
  pub ordered_with_done : (more : TxnId → List Operation) → ((txn : TxnId) → is_among txn history ≡ true → more txn ≡ done txn) →
      ((entry : LogEntry) → LocksForOperation done entry → LocksForOperation more entry) → IsOrderedOn on history more values v log
  ordered_with_done more members grows = record {
    numbered = old.numbered;
    lawful = old.lawful;
    for_operations = EachAfter-weaker (λ _ e. LocksForOperation done e) (λ _ e. LocksForOperation more e) (λ seen e h. grows e h) [] log old.for_operations;
    settles = old.settles;
    locked = λ txn member. subst (All (HasLock on v log txn)) (sym (members txn member)) (old.locked txn member);
  }

  -- one more member
  pub ordered_with_member : (member : TxnId) (after : Values) → ((place : Place) → on place ≡ v → settled log (history ++ member ∷ []) place ≡ after place) →
      All (HasLock on v log member) (done member) → IsOrderedOn on (history ++ member ∷ []) done after v log
  ordered_with_member member after settles has = record {
    numbered = old.numbered;
    lawful = EachAfter-weaker (IsLawful history) (IsLawful (history ++ member ∷ [])) (λ seen e h. grows seen e h) [] log old.lawful;
    for_operations = old.for_operations;
    settles = settles;
    locked = λ txn joined.
        elim (or_cases (is_among txn history) (same_txn txn member) (sym (among txn) ∙ joined)) [
          | inl before ↦ old.locked txn before
          | inr same ↦ subst (λ t. All (HasLock on v log t) (done t)) (sym (same_txn-true txn member same)) has
        ];
  }
    where
      among : (txn : TxnId) → is_among txn (history ++ member ∷ []) ≡ (is_among txn history || same_txn txn member)
      among txn = list_any-append (same_txn txn) history (member ∷ []) ∙ ap (λ b. is_among txn history || b) (or_false _)

      grows : (seen : List LogEntry) (entry : LogEntry) → IsLawful history seen entry → IsLawful (history ++ member ∷ []) seen entry
      grows seen entry h = record {
        unended = h.unended;
        carries = h.carries;
        free = h.free;
        reversible = h.reversible;
        in_order = h.in_order;
        settles = λ ends. elim (h.settles ends) [ inl m ↦ inl (among (txn_of entry.content) ∙ or_left _ _ m) | inr none ↦ inr none ];
      }
