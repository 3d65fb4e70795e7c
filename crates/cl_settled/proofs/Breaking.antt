-- Whether a log has a record that breaks a transaction, and how that grows with the log.
use Rattle.std.proofs.Common.{◌≡◌, ℕ, zero, suc, Bool, true, false, ◌&&◌, ◌⊎◌, inl, inr, List, [], ◌∷◌, ◌++◌, Option, Some, None, refl, sym, ◌∙◌, subst}
use Rattle.std.specs.List.{list_any}
use Rattle.std.proofs.lemmas.Bool.{or_left, or_right, or_cases, and_parts, and_from, false≢true}
use Rattle.std.proofs.lemmas.List.Folds.{list_any-append}
use Rattle.cl_types.specs.declared.operations.Mode.{Mode}
use Rattle.cl_types.specs.declared.operations.TxnId.{TxnId}
use Rattle.cl_types.specs.Places.{Place}
use Rattle.cl_types.specs.Transactions.{same_txn}
use Rattle.cl_types.proofs.Transactions.{same_txn-true, same_txn-itself}
use Rattle.cl_log.specs.declared.records.LogRec.{LogRec}
use Rattle.cl_log.specs.declared.records.LogRec.TheVariants.{Set, Add, Comp, End}
use Rattle.cl_log.specs.Kind.{txn_of, can_be_undone, is_of, is_end}
use Rattle.cl_log.specs.LogEntry.{LogEntry}
use Rattle.cl_log.specs.Locks.{mode_at}
use Rattle.cl_log.specs.Open.{has_ended}
use Rattle.cl_log.specs.Rest.{undo_of}
use Rattle.cl_log.proofs.Open.{list_any_push, has_ended_push}
use Rattle.cl_serial.specs.Serial.{StandsAt, IsIn}
use Rattle.cl_serial.proofs.Places.{IsIn-nil}
use Rattle.cl_settled.specs.Settled.{breaks, aborts, HasBroken}

-- some record of the log breaks the transaction
abbrev pub is_broken : List LogEntry → TxnId → Bool
is_broken log txn = list_any (λ entry. breaks txn entry.content) log

-- some record of the log undoes or aborts it
abbrev pub is_aborted : List LogEntry → TxnId → Bool
is_aborted log txn = list_any (λ entry. aborts txn entry.content) log

-- ---- records

-- what breaks a transaction is of it
pub breaks-own : (txn : TxnId) (content : LogRec) → breaks txn content ≡ true → txn ≡ txn_of content
breaks-own txn (Comp other table key before undone form) h = same_txn-true txn other h
breaks-own txn (End other commit) h = same_txn-true txn other h
breaks-own txn content h = absurd (false≢true h)

-- what aborts it breaks it
pub aborts-breaks : (txn : TxnId) (content : LogRec) → aborts txn content ≡ true → breaks txn content ≡ true
aborts-breaks txn (Comp other table key before undone form) h = h
aborts-breaks txn (End other true) h = absurd (false≢true h)
aborts-breaks txn (End other false) h = h
aborts-breaks txn content h = absurd (false≢true h)

-- what ends it breaks it
ending-breaks : (txn : TxnId) (content : LogRec) → (is_of txn content && is_end content) ≡ true → breaks txn content ≡ true
ending-breaks txn (End other commit) h = subst (λ t. same_txn txn t ≡ true) (sym (same_txn-true other txn (and_parts _ _ h).0)) (same_txn-itself txn)
ending-breaks txn content h = absurd (false≢true (and_parts (is_of txn content) (is_end content) h).1)

-- what takes a lock breaks nothing
pub locking-breaks : (txn : TxnId) (content : LogRec) (place : Place) (mode : Mode) → mode_at place content ≡ Some mode → breaks txn content ≡ false
locking-breaks txn (Comp other table key before undone form) place mode h = absurd (let e : ◌≡◌ {A = Option Mode} None (Some mode) = h in cc)
locking-breaks txn (End other commit) place mode h = absurd (let e : ◌≡◌ {A = Option Mode} None (Some mode) = h in cc)
locking-breaks txn content place mode h = refl

-- the undoing of a write breaks its transaction
pub undoing-breaks : (content : LogRec) (number now : ℕ) → can_be_undone content ≡ true →
    breaks (txn_of (undo_of content number now)) (undo_of content number now) ≡ true
undoing-breaks (Set txn table key before old new) number now h = same_txn-itself txn
undoing-breaks (Add txn table key before amount) number now h = same_txn-itself txn
undoing-breaks content number now h = absurd (false≢true h)

-- ---- logs

any_in : (p : LogEntry → Bool) (log : List LogEntry) (position : ℕ) (entry : LogEntry) → StandsAt log position entry → p entry ≡ true → list_any p log ≡ true
any_in p [] position entry stands passes = absurd (IsIn-nil entry (position, stands))
any_in p (first ∷ log) zero entry stands passes =
    let same : entry ≡ first = (let e : Some first ≡ Some entry = stands in cc) in
    or_left (p first) (list_any p log) (subst (λ x. p x ≡ true) same passes)
any_in p (first ∷ log) (suc position) entry stands passes = or_right (p first) (list_any p log) (any_in p log position entry stands passes)

-- an entry that passes shows that one does
pub broken_by : (log : List LogEntry) (txn : TxnId) → HasBroken log txn → is_broken log txn ≡ true
broken_by log txn (entry, is_in, passes) = any_in (λ e. breaks txn e.content) log is_in.0 entry is_in.1 passes

pub aborted_by : (log : List LogEntry) (txn : TxnId) (entry : LogEntry) → IsIn log entry → aborts txn entry.content ≡ true → is_aborted log txn ≡ true
aborted_by log txn entry is_in passes = any_in (λ e. aborts txn e.content) log is_in.0 entry is_in.1 passes

-- and where one does, there is an entry
pub broken_entry : (log : List LogEntry) (txn : TxnId) → is_broken log txn ≡ true → HasBroken log txn
broken_entry [] txn h = absurd (false≢true h)
broken_entry (first ∷ log) txn h = elim (or_cases (breaks txn first.content) (is_broken log txn) h) [
  | inl here ↦ (first, (0, refl), here)
  | inr later ↦ (let rest = broken_entry log txn later in (rest.0, (suc rest.1.0, rest.1.1), rest.2))
]

-- whoever has ended is broken
pub ended-broken : (log : List LogEntry) (txn : TxnId) → has_ended log txn ≡ true → is_broken log txn ≡ true
unfolding has_ended
ended-broken [] txn h = h
ended-broken (first ∷ log) txn h = elim (or_cases (is_of txn first.content && is_end first.content) (has_ended log txn) h) [
  | inl here ↦ or_left _ _ (ending-breaks txn first.content here)
  | inr later ↦ or_right _ _ (ended-broken log txn later)
]

-- ---- a log that grows

pub broken_grown : (log added : List LogEntry) (txn : TxnId) → is_broken log txn ≡ true → is_broken (log ++ added) txn ≡ true
broken_grown log added txn h = list_any-append (λ e. breaks txn e.content) log added ∙ or_left _ _ h

-- whoever is aborted in a log is so in a longer one
pub aborted_grown : (log added : List LogEntry) (txn : TxnId) → is_aborted log txn ≡ true → is_aborted (log ++ added) txn ≡ true
aborted_grown log added txn h = list_any-append (λ e. aborts txn e.content) log added ∙ or_left _ _ h

pub ended_grown : (log added : List LogEntry) (txn : TxnId) → has_ended log txn ≡ true → has_ended (log ++ added) txn ≡ true
unfolding has_ended
ended_grown log added txn h = list_any-append _ log added ∙ or_left _ _ h

pub broken_push : (log : List LogEntry) (entry : LogEntry) (txn : TxnId) → is_broken (log ++ entry ∷ []) txn ≡ true →
    (is_broken log txn ≡ true) ⊎ (breaks txn entry.content ≡ true)
broken_push log entry txn h = or_cases _ _ (sym (list_any_push (λ e. breaks txn e.content) log entry) ∙ h)

pub aborted_push : (log : List LogEntry) (entry : LogEntry) (txn : TxnId) → is_aborted (log ++ entry ∷ []) txn ≡ true →
    (is_aborted log txn ≡ true) ⊎ (aborts txn entry.content ≡ true)
aborted_push log entry txn h = or_cases _ _ (sym (list_any_push (λ e. aborts txn e.content) log entry) ∙ h)

pub push_broken : (log : List LogEntry) (entry : LogEntry) (txn : TxnId) → breaks txn entry.content ≡ true → is_broken (log ++ entry ∷ []) txn ≡ true
push_broken log entry txn h = list_any_push (λ e. breaks txn e.content) log entry ∙ or_right _ _ h

-- a record that aborts a transaction makes it aborted
pub push_aborted : (log : List LogEntry) (entry : LogEntry) (txn : TxnId) → aborts txn entry.content ≡ true → is_aborted (log ++ entry ∷ []) txn ≡ true
push_aborted log entry txn h = list_any_push (λ e. aborts txn e.content) log entry ∙ or_right _ _ h

pub push_ended : (log : List LogEntry) (number : ℕ) (txn : TxnId) (commit : Bool) →
    has_ended (log ++ record { number = number; content = End txn commit } ∷ []) txn ≡ true
push_ended log number txn commit =
    has_ended_push txn log (record { number = number; content = End txn commit }) ∙ or_right (has_ended log txn) _ (and_from _ _ (same_txn-itself txn) refl)
