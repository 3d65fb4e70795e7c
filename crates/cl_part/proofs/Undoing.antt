-- The compensation of a write.
use Rattle.std.proofs.Common.{◌≡◌, ℕ, true, false, List, [], ◌∷◌, Option, Some, None, refl, sym, ap, ◌∙◌, subst}
use Rattle.std.proofs.lemmas.Bool.{false≢true}
use Rattle.cl_types.specs.Places.{Place, Stored, same_place}
use Rattle.cl_types.proofs.Places.{same_place-true}
use Rattle.cl_log.specs.declared.records.LogRec.{LogRec}
use Rattle.cl_log.specs.declared.records.LogRec.TheVariants.{Set, Add}
use Rattle.cl_log.specs.Kind.{writes, number_before, can_be_undone}
use Rattle.cl_log.specs.Locks.{takes_lock}
use Rattle.cl_types.specs.declared.operations.TxnId.{TxnId}
use Rattle.cl_log.specs.declared.log.Log.{Log}
use Rattle.cl_log.specs.LogEntry.{LogEntry, content_at}
use Rattle.cl_log.specs.Log.{entries, first_kept}
use Rattle.cl_log.specs.Rest.{rest_to_undo, first_number, undo_of}
use Rattle.cl_log.proofs.LogWords.{IsNumberedFrom-entries}
use Rattle.cl_log.proofs.Rest.{heads_of_number}
use Rattle.cl_store.specs.Store.{stored as stored_in}
use Rattle.cl_part.specs.declared.part.Part.{Part}
use Rattle.cl_part.specs.Calls.{place_of, undo_now, first_undone, after_undo, is_any, has_rest}
use Rattle.cl_part.specs.Recorded.{HasRecorded}
use Rattle.cl_part.specs.State.{State, IsStateOf, after_record, after_optional}
use Rattle.cl_part.proofs.States.{IsStateOf-recorded}

-- it asks for no lock
pub takes_lock-undo_of : (content : LogRec) (number now : ℕ) → can_be_undone content ≡ true → takes_lock (undo_of content number now) ≡ false
takes_lock-undo_of (Set txn table key before old new) number now h = refl
takes_lock-undo_of (Add txn table key before amount) number now h = refl
takes_lock-undo_of content number now h = absurd (false≢true h)

-- it writes at the place of the write
pub writes-undone : (content : LogRec) (number now : ℕ) (place : Place) → can_be_undone content ≡ true → writes place (undo_of content number now) ≡ same_place (place_of content) place
writes-undone (Set txn table key before old new) number now place h = refl
writes-undone (Add txn table key before amount) number now place h = refl
writes-undone content number now place h = absurd (false≢true h)

-- it carries the state number that it was given
pub number_before-undo_of : (content : LogRec) (number now : ℕ) → can_be_undone content ≡ true → number_before (undo_of content number now) ≡ now
number_before-undo_of (Set txn table key before old new) number now h = refl
number_before-undo_of (Add txn table key before amount) number now h = refl
number_before-undo_of content number now h = absurd (false≢true h)

-- so it meets what stands there
pub undo-carries : (content : LogRec) (number now : ℕ) (stored : Place → Stored) → can_be_undone content ≡ true → (stored (place_of content)).0 ≡ now →
    (place : Place) → writes place (undo_of content number now) ≡ true → (stored place).0 ≡ number_before (undo_of content number now)
undo-carries content number now stored h is place write =
    let here : place_of content ≡ place = same_place-true (place_of content) place (sym (writes-undone content number now place h) ∙ write) in
    ap (λ p. (stored p).0) (sym here) ∙ is ∙ sym (number_before-undo_of content number now h)

-- ---- the first of the rest

-- the record of the number that the log gives is the first of the rest, and can be undone
pub record IsFirstLeft (entries : List LogEntry) (txn : TxnId) (number : ℕ) (content : LogRec) : Type 0 where
  pub others : List LogEntry
  pub rest : rest_to_undo entries txn ≡ record { number = number; content = content } ∷ others
  pub undoable : can_be_undone content ≡ true

pub IsFirstLeft-at : (log : Log) (txn : TxnId) (number : ℕ) (content : LogRec) → first_number (rest_to_undo (entries log) txn) ≡ Some number →
    content_at (entries log) number ≡ Some content → IsFirstLeft (entries log) txn number content
IsFirstLeft-at log txn number content left found =
    let heads = heads_of_number (first_kept log) (entries log) txn number (IsNumberedFrom-entries log) left in
    let first : LogEntry = heads.0 in
    let same : first.number ≡ number = heads.2 in
    let both : ◌≡◌ {A = Option LogRec} (Some first.content) (Some content) = sym (heads.3.content) ∙ ap (content_at (entries log)) same ∙ found in
    let is : first.content ≡ content = cc in
    record {
      others = heads.1;
      rest = heads.3.rest ∙ ap (λ n. record { number = n; content = first.content } ∷ heads.1) same ∙ ap (λ r. record { number = number; content = r } ∷ heads.1) is;
      undoable = ap can_be_undone (sym is) ∙ heads.3.undoable;
    }

-- a number that the log gives is one that it keeps
pub left-is-kept : (log : Log) (txn : TxnId) (number : ℕ) → first_number (rest_to_undo (entries log) txn) ≡ Some number → content_at (entries log) number ≡ None → ⊥
left-is-kept log txn number left none =
    let heads = heads_of_number (first_kept log) (entries log) txn number (IsNumberedFrom-entries log) left in
    let first : LogEntry = heads.0 in
    let same : first.number ≡ number = heads.2 in
    let both : ◌≡◌ {A = Option LogRec} (Some first.content) None = sym (heads.3.content) ∙ ap (content_at (entries log)) same ∙ none in
    cc

pub has_rest-first : (entries : List LogEntry) (txn : TxnId) (number : ℕ) (content : LogRec) → IsFirstLeft entries txn number content → has_rest entries txn ≡ true
unfolding has_rest
has_rest-first entries txn number content first = ap is_any first.rest

pub has_rest-none : (entries : List LogEntry) (txn : TxnId) → rest_to_undo entries txn ≡ [] → has_rest entries txn ≡ false
unfolding has_rest
has_rest-none entries txn none = ap is_any none

-- ---- the state after it

pub after_undo-none : (state : State) (txn : TxnId) → rest_to_undo state.log txn ≡ [] → after_undo state txn ≡ state
unfolding after_undo
after_undo-none state txn none = ap (λ es. after_optional state (first_undone state es)) none

pub after_undo-first : (state : State) (txn : TxnId) (first : LogEntry) (others : List LogEntry) → rest_to_undo state.log txn ≡ first ∷ others →
    after_undo state txn ≡ after_record state (undo_now state first)
unfolding after_undo
after_undo-first state txn first others rest = ap (λ es. after_optional state (first_undone state es)) rest

pub IsStateOf-nothing_left : (part : Part) (state : State) (txn : TxnId) → IsStateOf part state → rest_to_undo (entries part.log) txn ≡ [] → IsStateOf part (after_undo state txn)
IsStateOf-nothing_left part state txn is none =
    subst (IsStateOf part) (sym (after_undo-none state txn (ap (λ (es : List LogEntry). rest_to_undo es txn) (sym is.log) ∙ none))) is

pub IsStateOf-undone : (old new : Part) (state : State) (txn : TxnId) (number now : ℕ) (content undo : LogRec) → IsFirstLeft (entries old.log) txn number content →
    now ≡ (stored_in old.store (place_of content)).0 → undo ≡ undo_of content number now → HasRecorded old new undo → IsStateOf old state → IsStateOf new (after_undo state txn)
IsStateOf-undone old new state txn number now content undo first stands is_undo recorded is =
    let left : rest_to_undo state.log txn ≡ record { number = number; content = content } ∷ first.others = ap (λ (es : List LogEntry). rest_to_undo es txn) (sym is.log) ∙ first.rest in
    let undoes : undo ≡ undo_now state (record { number = number; content = content }) =
    is_undo ∙ ap (undo_of content number) (stands ∙ ap (λ (s : Stored). s.0) (is.store (place_of content))) in
    subst (IsStateOf new) (ap (after_record state) undoes ∙ sym (after_undo-first state txn (record { number = number; content = content }) first.others left))
    (IsStateOf-recorded old new state undo recorded is)
