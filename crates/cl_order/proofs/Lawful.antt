-- Records that the steps append are lawful.
use Rattle.std.proofs.Common.{◌≡◌, ◌≢◌, ℕ, ◌⊎◌, Bool, true, false, List, [], Option, Some, None, refl, sym, ap, ◌∙◌, subst}
use Rattle.std.proofs.lemmas.Bool.{false≢true, true≢false, both_ways, and_parts}
use Rattle.cl_types.specs.declared.operations.Mode.{Mode}
use Rattle.cl_types.specs.declared.operations.Op.{Op}
use Rattle.cl_types.specs.declared.operations.TxnId.{TxnId}
use Rattle.cl_types.specs.Modes.{is_conflict}
use Rattle.cl_types.specs.Places.{Place, same_place}
use Rattle.cl_types.proofs.Places.{same_place-true, same_place-itself}
use Rattle.cl_log.specs.declared.records.LogRec.{LogRec}
use Rattle.cl_log.specs.declared.records.LogRec.TheVariants.{Touch, Set, Add, Comp, Prepared, End, Decide}
use Rattle.cl_log.specs.LogEntry.{LogEntry}
use Rattle.cl_log.specs.Kind.{txn_of, is_end, can_be_undone, writes, number_before}
use Rattle.cl_log.specs.Lawful.{IsLawful, UndoesFirst}
use Rattle.cl_log.specs.Locks.{mode_at, locks_of_log, HasNoConflict}
use Rattle.cl_log.specs.Open.{has_ended, is_among}
use Rattle.cl_log.specs.Rest.{rest_to_undo, undo_of}
use Rattle.cl_log.specs.Settled.{value_undone}
use Rattle.cl_log.specs.Store.{value_after, store_of_log, CarriesNumberBefore}
use Rattle.cl_log.proofs.Places.{IsAt, writes-at, mode_at-elsewhere}
use Rattle.cl_log.proofs.Rest.{first_of_rest_is}
use Rattle.cl_serial.specs.PlainMap.{Operation}
use Rattle.cl_order.specs.Ledger.{asks_at, LocksForOperation}
use Rattle.cl_order.specs.Operations.{mode_of, is_held}
use Rattle.cl_order.proofs.Held.{conflict_with_held}
use Rattle.cl_order.proofs.Records.{Fits}

-- nothing conflicts with no lock
no_conflict_with_none : (mode other : Option Mode) → mode ≡ None → is_conflict mode other ≡ true → ⊥
no_conflict_with_none mode other none h = false≢true (sym (ap (λ m. is_conflict m other) none) ∙ h)

pub lawful_prepared : (history : List TxnId) (seen : List LogEntry) (number : ℕ) (txn : TxnId) → has_ended seen txn ≡ false → IsLawful history seen (record { number = number; content = Prepared txn })
lawful_prepared history seen number txn running = record {
  unended = λ _. running;
  carries = λ place h. absurd (false≢true h);
  free = λ other place h. absurd (false≢true h);
  reversible = λ h. absurd (false≢true h);
  in_order = λ k h. absurd (false≢true h);
  settles = λ h. absurd (false≢true h);
}

pub lawful_decide : (history : List TxnId) (seen : List LogEntry) (number : ℕ) (txn : TxnId) → IsLawful history seen (record { number = number; content = Decide txn })
lawful_decide history seen number txn = record {
  unended = λ h. absurd (true≢false h);
  carries = λ place h. absurd (false≢true h);
  free = λ other place h. absurd (false≢true h);
  reversible = λ h. absurd (false≢true h);
  in_order = λ k h. absurd (false≢true h);
  settles = λ h. absurd (false≢true h);
}

pub lawful_end : (history : List TxnId) (seen : List LogEntry) (number : ℕ) (txn : TxnId) (commit : Bool) → has_ended seen txn ≡ false →
    (is_among txn history ≡ true) ⊎ (rest_to_undo seen txn ≡ []) → IsLawful history seen (record { number = number; content = End txn commit })
lawful_end history seen number txn commit running settled = record {
  unended = λ _. running;
  carries = λ place h. absurd (false≢true h);
  free = λ other place h. absurd (false≢true h);
  reversible = λ h. absurd (false≢true h);
  in_order = λ k h. absurd (false≢true h);
  settles = λ _. settled;
}

-- a compensation locks nothing, ends nothing and can not be undone
pub record IsCompensation (content : LogRec) : Type 0 where
  pub locks : (place : Place) → mode_at place content ≡ None
  pub no_end : is_end content ≡ false
  pub no_undo : can_be_undone content ≡ false

compensation_of : (content : LogRec) (number now : ℕ) → can_be_undone content ≡ true → IsCompensation (undo_of content number now)
compensation_of (Set txn table key before old new) number now h = record { locks = λ place. refl; no_end = refl; no_undo = refl }
compensation_of (Add txn table key before amount) number now h = record { locks = λ place. refl; no_end = refl; no_undo = refl }
compensation_of content number now h = absurd (false≢true h)

pub is_compensation : (seen : List LogEntry) (content : LogRec) → UndoesFirst seen content → IsCompensation content
is_compensation seen content first =
    let is = first_of_rest_is seen (txn_of content) first.first first.others first.is_first in
    let parts = and_parts _ _ is.left in
    subst IsCompensation (sym first.is_undo) (compensation_of first.first.content first.first.number (number_before content) (and_parts _ _ parts.1).0)

pub lawful_undo : (history : List TxnId) (seen : List LogEntry) (entry : LogEntry) → has_ended seen (txn_of entry.content) ≡ false → UndoesFirst seen entry.content → CarriesNumberBefore seen entry →
    IsLawful history seen entry
lawful_undo history seen entry running first carries =
    let is = is_compensation seen entry.content first in
    record {
      unended = λ _. running;
      carries = carries;
      free = λ other place h. absurd (no_conflict_with_none _ _ (is.locks place) h);
      reversible = λ h. absurd (both_ways _ is.no_undo h);
      in_order = λ k h. first;
      settles = λ h. absurd (both_ways _ is.no_end h);
    }

-- ---- the record of an operation

-- a record is at one place
IsAt-one : (content : LogRec) (place other : Place) → IsAt content place → IsAt content other → place ≡ other
IsAt-one (Touch txn table key mode) place other a b = sym a ∙ b
IsAt-one (Set txn table key before old new) place other a b = sym a ∙ b
IsAt-one (Add txn table key before amount) place other a b = sym a ∙ b
IsAt-one (Comp txn table key before undone form) place other a b = sym a ∙ b
IsAt-one (Prepared txn) place other a b = absurd a
IsAt-one (End txn commit) place other a b = absurd a
IsAt-one (Decide txn) place other a b = absurd a

pub locks_elsewhere : (content : LogRec) (place other : Place) → IsAt content place → place ≢ other → mode_at other content ≡ None
locks_elsewhere content place other there apart = mode_at-elsewhere other content (λ at. apart (IsAt-one content place other there at))

pub writes_elsewhere : (content : LogRec) (place other : Place) → IsAt content place → writes other content ≡ true → other ≡ place
writes_elsewhere content place other there h = sym (IsAt-one content place other there (writes-at other content h))

pub lawful_operation : (history : List TxnId) (seen : List LogEntry) (number : ℕ) (content : LogRec) (txn : TxnId) (place : Place) (op : Op) → HasNoConflict seen → has_ended seen txn ≡ false →
    (is_held (locks_of_log seen txn place) (mode_of op) ≡ false → (other : TxnId) → is_conflict (Some (mode_of op)) (locks_of_log seen other place) ≡ true → other ≡ txn) →
    Fits txn place op (store_of_log seen place).0 (store_of_log seen place).1 content → IsLawful history seen (record { number = number; content = content })
lawful_operation history seen number content txn place op apart running free fits = record {
  unended = λ _. ap (has_ended seen) fits.own ∙ running;
  carries = λ other h.
      let same = writes_elsewhere content place other fits.there h in
      ap (λ (p : Place). (store_of_log seen p).0) same ∙ fits.carries (ap (λ (p : Place). writes p content) (sym same) ∙ h);
  free = λ other p h. by_place other p (same_place place p) refl h ∙ sym fits.own;
  reversible = λ h p here.
      let same = writes_elsewhere content place p fits.there here in
      subst (λ (q : Place). undone_back q) (sym same) (fits.reversible h);
  in_order = λ k h. absurd (both_ways _ (fits.no_undo k) h);
  settles = λ h. absurd (both_ways _ fits.no_end h);
}
  where
    undone_back : Place → Type 0
    undone_back q = value_undone content (value_after content (store_of_log seen q).1) ≡ (store_of_log seen q).1

    holding : (other : TxnId) (held : Bool) → is_held (locks_of_log seen txn place) (mode_of op) ≡ held → is_conflict (Some (mode_of op)) (locks_of_log seen other place) ≡ true → other ≡ txn
    holding other true t c = sym (apart txn other place (conflict_with_held (locks_of_log seen txn place) (locks_of_log seen other place) (mode_of op) t c))
    holding other false f c = free f other c

    by_place : (other : TxnId) (p : Place) (b : Bool) → same_place place p ≡ b → is_conflict (mode_at p content) (locks_of_log seen other p) ≡ true → other ≡ txn
    by_place other p true t c =
        let same = same_place-true place p t in
        holding other (is_held (locks_of_log seen txn place) (mode_of op)) refl
        (ap (λ m. is_conflict m (locks_of_log seen other place)) (sym fits.locks) ∙ ap (λ (q : Place). is_conflict (mode_at q content) (locks_of_log seen other q)) same ∙ c)
    by_place other p false f c =
        absurd (no_conflict_with_none _ _ (locks_elsewhere content place p fits.there (λ e. both_ways _ f (ap (same_place place) (sym e) ∙ same_place-itself place))) c)

-- it locks where its transaction has the operation
pub locks_for_operation : (done : TxnId → List Operation) (number : ℕ) (content : LogRec) (txn : TxnId) (place : Place) (op : Op) (before : ℕ) (value : Option (List ℕ)) → Fits txn place op before value content →
    asks_at (done txn) place (mode_of op) ≡ true → LocksForOperation done (record { number = number; content = content })
locks_for_operation done number content txn place op before value fits has p mode locks =
    by_place (same_place place p) refl
  where
    by_place : (b : Bool) → same_place place p ≡ b → asks_at (done (txn_of content)) p mode ≡ true
    by_place true t =
        let here = same_place-true place p t in
        let asked : ◌≡◌ {A = Option Mode} (Some (mode_of op)) (Some mode) = sym fits.locks ∙ ap (λ (q : Place). mode_at q content) here ∙ locks in
        let same : mode_of op ≡ mode = cc in
        ap (λ t. asks_at (done t) p mode) fits.own ∙ ap (λ (q : Place). asks_at (done txn) q mode) (sym here) ∙ ap (asks_at (done txn) place) (sym same) ∙ has
    by_place false f =
        absurd (let e : ◌≡◌ {A = Option Mode} None (Some mode) = sym (locks_elsewhere content place p fits.there (λ e. both_ways _ f (ap (same_place place) (sym e) ∙ same_place-itself place))) ∙ locks in cc)
