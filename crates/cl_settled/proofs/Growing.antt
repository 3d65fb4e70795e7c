-- What each step of a ledger appends to its logs, and to its history.
use Rattle.std.proofs.Common.{◌≡◌, ℕ, ◌+◌, Bool, true, false, cond, ◌⊎◌, inl, inr, List, [], ◌∷◌, ◌++◌, length, Option, Some, None, refl, sym, ◌∙◌, ap, subst}
use Rattle.std.proofs.lemmas.Bool.{or_left, or_right, or_cases, and_parts, eq-eqb, both_ways, false_from_ne_true, false≢true}
use Rattle.std.proofs.lemmas.List.{append-nil, append_assoc}
use Rattle.std.proofs.lemmas.List.Folds.{list_any-append}
use Rattle.cl_types.specs.declared.operations.Mode.{Mode}
use Rattle.cl_types.specs.declared.operations.Op.{Op}
use Rattle.cl_types.specs.declared.operations.TxnId.{TxnId}
use Rattle.cl_types.specs.Places.{Place}
use Rattle.cl_types.specs.Transactions.{same_txn}
use Rattle.cl_types.proofs.Transactions.{same_txn-true, same_txn-itself}
use Rattle.cl_log.specs.declared.records.LogRec.{LogRec}
use Rattle.cl_log.specs.declared.records.LogRec.TheVariants.{Prepared, End, Decide}
use Rattle.cl_log.specs.Kind.{txn_of, can_be_undone, number_before}
use Rattle.cl_log.specs.LogEntry.{LogEntry}
use Rattle.cl_log.specs.Open.{has_ended, is_among}
use Rattle.cl_log.proofs.Rest.{first_of_rest_is}
use Rattle.cl_order.specs.Ledger.{Ledger, log_at, stored_at, lock_at, IsOrdered, IsWholeOn}
use Rattle.cl_order.specs.Operations.{mode_of}
use Rattle.cl_order.specs.Steps.{Step, carry_out, prepare, decide, join, undo, finish, cut, log_with, log_with_optional, logs_with, record_now, after_step, after_steps, IsEnabled, AreEnabled, IsSpared}
use Rattle.cl_order.proofs.Ledgers.{logs_with-each}
use Rattle.cl_order.proofs.LawLemmas.{steps_keep_order}
use Rattle.cl_order.proofs.Records.{Fitting, record_fits}
use Rattle.cl_settled.specs.Settled.{breaks, aborts}
use Rattle.cl_settled.proofs.Breaking.{is_broken, is_aborted, breaks-own, aborts-breaks, locking-breaks, undoing-breaks, broken_grown, aborted_grown, ended_grown, broken_push, aborted_push, push_broken, push_aborted, push_ended}

-- ---- what a step does

-- it is no cut
abbrev pub IsNoCut : Step → Type 0
IsNoCut (carry_out txn place op) = Unit {0}
IsNoCut (prepare v txn) = Unit {0}
IsNoCut (decide v txn) = Unit {0}
IsNoCut (join txn) = Unit {0}
IsNoCut (undo v content) = Unit {0}
IsNoCut (finish v txn commit) = Unit {0}
IsNoCut (cut v front) = ⊥

-- it appends a record to the log of the virtual node that breaks the transaction
abbrev pub Breaks : ℕ → TxnId → Step → Type 0
Breaks u txn (carry_out actor place op) = ⊥
Breaks u txn (prepare v actor) = ⊥
Breaks u txn (decide v actor) = ⊥
Breaks u txn (join actor) = ⊥
Breaks u txn (undo v content) = (u ≡ v) × (txn ≡ txn_of content)
Breaks u txn (finish v actor commit) = (u ≡ v) × (txn ≡ actor)
Breaks u txn (cut v front) = ⊥

-- or one that aborts it
abbrev pub Aborts : ℕ → TxnId → Step → Type 0
Aborts u txn (carry_out actor place op) = ⊥
Aborts u txn (prepare v actor) = ⊥
Aborts u txn (decide v actor) = ⊥
Aborts u txn (join actor) = ⊥
Aborts u txn (undo v content) = (u ≡ v) × (txn ≡ txn_of content)
Aborts u txn (finish v actor commit) = (u ≡ v) × ((txn ≡ actor) × (commit ≡ false))
Aborts u txn (cut v front) = ⊥

-- or one that ends it
abbrev pub Ends : ℕ → TxnId → Step → Type 0
Ends u txn (carry_out actor place op) = ⊥
Ends u txn (prepare v actor) = ⊥
Ends u txn (decide v actor) = ⊥
Ends u txn (join actor) = ⊥
Ends u txn (undo v content) = ⊥
Ends u txn (finish v actor commit) = (u ≡ v) × (txn ≡ actor)
Ends u txn (cut v front) = ⊥

-- the transaction joins the history
abbrev pub Joins : TxnId → Step → Type 0
Joins txn (carry_out actor place op) = ⊥
Joins txn (prepare v actor) = ⊥
Joins txn (decide v actor) = ⊥
Joins txn (join actor) = txn ≡ actor
Joins txn (undo v content) = ⊥
Joins txn (finish v actor commit) = ⊥
Joins txn (cut v front) = ⊥

-- each step is so
abbrev pub EachStep : (Step → Type 0) → List Step → Type 0
EachStep P [] = Unit {0}
EachStep P (step ∷ steps) = P step × EachStep P steps

-- some step is so
abbrev pub SomeStep : (Step → Type 0) → List Step → Type 0
SomeStep P [] = ⊥
SomeStep P (step ∷ steps) = P step ⊎ SomeStep P steps

-- the transaction is aborted in the log of the virtual node, or a member of the history
abbrev pub IsResolved : Ledger → ℕ → TxnId → Type 0
IsResolved ledger u txn = (is_aborted (ledger.logs u) txn ≡ true) ⊎ (is_among txn ledger.history ≡ true)

-- ---- one log

-- a log has grown: who is broken or aborted in it is so before, or by what was appended
pub record LogGrows (breaking aborting : TxnId → Type 0) (old new : List LogEntry) : Type 0 where
  pub added : List LogEntry
  pub whole : new ≡ old ++ added
  pub broken : (txn : TxnId) → is_broken new txn ≡ true → (is_broken old txn ≡ true) ⊎ breaking txn
  pub aborted : (txn : TxnId) → is_aborted new txn ≡ true → (is_aborted old txn ≡ true) ⊎ aborting txn

-- it is as before
log_same : (breaking aborting : TxnId → Type 0) (log : List LogEntry) → LogGrows breaking aborting log log
log_same breaking aborting log = record { added = []; whole = sym (append-nil log); broken = λ txn h. inl h; aborted = λ txn h. inl h }

-- it has one more record
log_pushed : (breaking aborting : TxnId → Type 0) (log : List LogEntry) (content : LogRec) → ((txn : TxnId) → breaks txn content ≡ true → breaking txn) →
    ((txn : TxnId) → aborts txn content ≡ true → aborting txn) → LogGrows breaking aborting log (log_with log content)
log_pushed breaking aborting log content by_break by_abort =
    let entry : LogEntry = record { number = length log + 1; content = content } in
    record {
      added = entry ∷ [];
      whole = refl;
      broken = λ txn h. elim (broken_push log entry txn h) [ inl old ↦ inl old | inr new ↦ inr (by_break txn new) ];
      aborted = λ txn h. elim (aborted_push log entry txn h) [ inl old ↦ inl old | inr new ↦ inr (by_abort txn new) ];
    }

-- it has the record of an operation, if there is one
log_worked : (breaking aborting : TxnId → Type 0) (log : List LogEntry) (txn : TxnId) (place : Place) (op : Op) (before : ℕ) (value : Option (List ℕ))
    (held : Option Mode) (left : Option LogRec) →
    Fitting txn place op before value held left → LogGrows breaking aborting log (log_with_optional log left)
log_worked breaking aborting log txn place op before value held None fits = log_same breaking aborting log
log_worked breaking aborting log txn place op before value held (Some content) fits =
    let mild : (other : TxnId) → breaks other content ≡ true → ⊥ = λ other h. both_ways _ (locking-breaks other content place (mode_of op) fits.locks) h in
    log_pushed breaking aborting log content (λ other h. absurd (mild other h)) (λ other h. absurd (mild other (aborts-breaks other content h)))

-- it has grown twice
log_twice : (b a c d : TxnId → Type 0) (old mid new : List LogEntry) → LogGrows b a old mid → LogGrows c d mid new →
    LogGrows (λ txn. b txn ⊎ c txn) (λ txn. a txn ⊎ d txn) old new
log_twice b a c d old mid new first second = record {
  added = first.added ++ second.added;
  whole = second.whole ∙ ap (λ log. log ++ second.added) first.whole ∙ append_assoc old first.added second.added;
  broken = λ txn h. elim (second.broken txn h) [
    | inl was ↦ elim (first.broken txn was) [ inl before ↦ inl before | inr now ↦ inr (inl now) ]
    | inr now ↦ inr (inr now)
  ];
  aborted = λ txn h. elim (second.aborted txn h) [
    | inl was ↦ elim (first.aborted txn was) [ inl before ↦ inl before | inr now ↦ inr (inl now) ]
    | inr now ↦ inr (inr now)
  ];
}

-- who has ended in it before has so after
pub ended_stays : (breaking aborting : TxnId → Type 0) (old new : List LogEntry) (txn : TxnId) → LogGrows breaking aborting old new →
    has_ended old txn ≡ true → has_ended new txn ≡ true
ended_stays breaking aborting old new txn grows h = ap (λ (log : List LogEntry). has_ended log txn) grows.whole ∙ ended_grown old grows.added txn h

-- ---- the logs after a step

module _ (ledger : Ledger) where
  -- the log of one virtual node is this one
  logs_pushed : (breaking aborting : ℕ → TxnId → Type 0) (v : ℕ) (log : List LogEntry) → LogGrows (breaking v) (aborting v) (ledger.logs v) log →
      (u : ℕ) → LogGrows (breaking u) (aborting u) (ledger.logs u) (logs_with ledger.logs v log u)
  logs_pushed breaking aborting v log grows = logs_with-each (λ u new. LogGrows (breaking u) (aborting u) (ledger.logs u) new) ledger.logs v log grows
      (λ u. log_same (breaking u) (aborting u) (ledger.logs u))

  -- each log has grown
  pub step_grows : (step : Step) → IsNoCut step → (u : ℕ) →
      LogGrows (λ txn. Breaks u txn step) (λ txn. Aborts u txn step) (ledger.logs u) ((after_step ledger step).logs u)
  step_grows (carry_out txn place op) no_cut = logs_pushed (λ u other. ⊥) (λ u other. ⊥) (ledger.on place)
      (log_with_optional (log_at ledger place) (record_now ledger txn place op))
      (log_worked (λ other. ⊥) (λ other. ⊥) (log_at ledger place) txn place op (stored_at ledger place).0 (stored_at ledger place).1
      (lock_at ledger txn place) (record_now ledger txn place op)
      (record_fits txn place op (stored_at ledger place).0 (stored_at ledger place).1 (lock_at ledger txn place)))
  step_grows (prepare v txn) no_cut = logs_pushed (λ u other. ⊥) (λ u other. ⊥) v (log_with (ledger.logs v) (Prepared txn))
      (log_pushed (λ other. ⊥) (λ other. ⊥) (ledger.logs v) (Prepared txn) (λ other h. false≢true h) (λ other h. false≢true h))
  step_grows (decide v txn) no_cut = logs_pushed (λ u other. ⊥) (λ u other. ⊥) v (log_with (ledger.logs v) (Decide txn))
      (log_pushed (λ other. ⊥) (λ other. ⊥) (ledger.logs v) (Decide txn) (λ other h. false≢true h) (λ other h. false≢true h))
  step_grows (join txn) no_cut = λ u. log_same (λ other. ⊥) (λ other. ⊥) (ledger.logs u)
  step_grows (undo v content) no_cut = logs_pushed (λ u other. (u ≡ v) × (other ≡ txn_of content)) (λ u other. (u ≡ v) × (other ≡ txn_of content)) v
      (log_with (ledger.logs v) content)
      (log_pushed (λ other. (v ≡ v) × (other ≡ txn_of content)) (λ other. (v ≡ v) × (other ≡ txn_of content)) (ledger.logs v) content
      (λ other h. (refl, breaks-own other content h))
      (λ other h. (refl, breaks-own other content (aborts-breaks other content h))))
  step_grows (finish v txn commit) no_cut = logs_pushed (λ u other. (u ≡ v) × (other ≡ txn)) (λ u other. (u ≡ v) × ((other ≡ txn) × (commit ≡ false))) v
      (log_with (ledger.logs v) (End txn commit))
      (log_pushed (λ other. (v ≡ v) × (other ≡ txn)) (λ other. (v ≡ v) × ((other ≡ txn) × (commit ≡ false))) (ledger.logs v) (End txn commit)
      (λ other h. (refl, breaks-own other (End txn commit) h))
      (λ other h. (refl, aborting other commit h)))
    where
      aborting : (other : TxnId) (commit : Bool) → aborts other (End txn commit) ≡ true → (other ≡ txn) × (commit ≡ false)
      aborting other true h = absurd (false≢true h)
      aborting other false h = (same_txn-true other txn h, refl)
  step_grows (cut v front) no_cut = absurd no_cut

  -- the log of the virtual node itself
  log_here : (v : ℕ) (log : List LogEntry) → logs_with ledger.logs v log v ≡ log
  log_here v log = ap (λ b. cond b log (ledger.logs v)) (eq-eqb v v refl)

  -- whoever it breaks is broken after
  pub step_breaks : (step : Step) → IsEnabled ledger step → (u : ℕ) (txn : TxnId) → Breaks u txn step → is_broken ((after_step ledger step).logs u) txn ≡ true
  step_breaks (undo v content) may u txn (here, same) =
      let parts = first_of_rest_is (ledger.logs v) (txn_of content) may.first.first may.first.others may.first.is_first in
      let undoable : can_be_undone may.first.first.content ≡ true = (and_parts _ _ (and_parts _ _ parts.left).1).0 in
      let own : breaks (txn_of content) content ≡ true
      = subst (λ c. breaks (txn_of c) c ≡ true) (sym may.first.is_undo)
      (undoing-breaks may.first.first.content may.first.first.number (number_before content) undoable) in
      let there : is_broken (logs_with ledger.logs v (log_with (ledger.logs v) content) v) (txn_of content) ≡ true
      = ap (λ (log : List LogEntry). is_broken log (txn_of content)) (log_here v (log_with (ledger.logs v) content))
      ∙ push_broken (ledger.logs v) _ (txn_of content) own in
      subst (λ w. is_broken (logs_with ledger.logs v (log_with (ledger.logs v) content) w) txn ≡ true) (sym here)
      (subst (λ t. is_broken (logs_with ledger.logs v (log_with (ledger.logs v) content) v) t ≡ true) (sym same) there)
  step_breaks (finish v actor commit) may u txn (here, same) =
      let there : is_broken (logs_with ledger.logs v (log_with (ledger.logs v) (End actor commit)) v) actor ≡ true
      = ap (λ (log : List LogEntry). is_broken log actor) (log_here v (log_with (ledger.logs v) (End actor commit)))
      ∙ push_broken (ledger.logs v) _ actor (same_txn-itself actor) in
      subst (λ w. is_broken (logs_with ledger.logs v (log_with (ledger.logs v) (End actor commit)) w) txn ≡ true) (sym here)
      (subst (λ t. is_broken (logs_with ledger.logs v (log_with (ledger.logs v) (End actor commit)) v) t ≡ true) (sym same) there)
  step_breaks (carry_out actor place op) may u txn none = absurd none
  step_breaks (prepare v actor) may u txn none = absurd none
  step_breaks (decide v actor) may u txn none = absurd none
  step_breaks (join actor) may u txn none = absurd none
  step_breaks (cut v front) may u txn none = absurd none

  -- whoever it ends has ended after
  pub step_ends : (step : Step) (u : ℕ) (txn : TxnId) → Ends u txn step → has_ended ((after_step ledger step).logs u) txn ≡ true
  step_ends (finish v actor commit) u txn (here, same) =
      let there : has_ended (logs_with ledger.logs v (log_with (ledger.logs v) (End actor commit)) v) actor ≡ true
      = ap (λ (log : List LogEntry). has_ended log actor) (log_here v (log_with (ledger.logs v) (End actor commit)))
      ∙ push_ended (ledger.logs v) (length (ledger.logs v) + 1) actor commit in
      subst (λ w. has_ended (logs_with ledger.logs v (log_with (ledger.logs v) (End actor commit)) w) txn ≡ true) (sym here)
      (subst (λ t. has_ended (logs_with ledger.logs v (log_with (ledger.logs v) (End actor commit)) v) t ≡ true) (sym same) there)
  step_ends (carry_out actor place op) u txn none = absurd none
  step_ends (prepare v actor) u txn none = absurd none
  step_ends (decide v actor) u txn none = absurd none
  step_ends (join actor) u txn none = absurd none
  step_ends (undo v content) u txn none = absurd none
  step_ends (cut v front) u txn none = absurd none

  -- and is resolved after
  step_resolves : (step : Step) → IsEnabled ledger step → (u : ℕ) (txn : TxnId) → Ends u txn step → IsResolved (after_step ledger step) u txn
  step_resolves (finish v actor true) may u txn (here, same) = inr (ap (λ t. is_among t ledger.history) same ∙ may.member)
  step_resolves (finish v actor false) may u txn (here, same) =
      let there : is_aborted (logs_with ledger.logs v (log_with (ledger.logs v) (End actor false)) v) actor ≡ true
      = ap (λ (log : List LogEntry). is_aborted log actor) (log_here v (log_with (ledger.logs v) (End actor false)))
      ∙ push_aborted (ledger.logs v) _ actor (same_txn-itself actor) in
      inl (subst (λ w. is_aborted (logs_with ledger.logs v (log_with (ledger.logs v) (End actor false)) w) txn ≡ true) (sym here)
      (subst (λ t. is_aborted (logs_with ledger.logs v (log_with (ledger.logs v) (End actor false)) v) t ≡ true) (sym same) there))
  step_resolves (carry_out actor place op) may u txn none = absurd none
  step_resolves (prepare v actor) may u txn none = absurd none
  step_resolves (decide v actor) may u txn none = absurd none
  step_resolves (join actor) may u txn none = absurd none
  step_resolves (undo v content) may u txn none = absurd none
  step_resolves (cut v front) may u txn none = absurd none

-- ---- the history after a step

-- a history has grown: who is a member is one before, or joins
pub record HistoryGrows (joining : TxnId → Type 0) (old new : List TxnId) : Type 0 where
  pub added : List TxnId
  pub whole : new ≡ old ++ added
  pub members : (txn : TxnId) → is_among txn new ≡ true → (is_among txn old ≡ true) ⊎ joining txn

history_same : (joining : TxnId → Type 0) (history : List TxnId) → HistoryGrows joining history history
history_same joining history = record { added = []; whole = sym (append-nil history); members = λ txn h. inl h }

history_twice : (j k : TxnId → Type 0) (old mid new : List TxnId) → HistoryGrows j old mid → HistoryGrows k mid new → HistoryGrows (λ txn. j txn ⊎ k txn) old new
history_twice j k old mid new first second = record {
  added = first.added ++ second.added;
  whole = second.whole ∙ ap (λ names. names ++ second.added) first.whole ∙ append_assoc old first.added second.added;
  members = λ txn h. elim (second.members txn h) [
    | inl was ↦ elim (first.members txn was) [ inl before ↦ inl before | inr now ↦ inr (inl now) ]
    | inr now ↦ inr (inr now)
  ];
}

-- who is a member before is one after
pub member_stays : (joining : TxnId → Type 0) (old new : List TxnId) (txn : TxnId) → HistoryGrows joining old new → is_among txn old ≡ true → is_among txn new ≡ true
member_stays joining old new txn grows h = ap (is_among txn) grows.whole ∙ list_any-append (same_txn txn) old grows.added ∙ or_left _ _ h

pub step_history : (ledger : Ledger) (step : Step) → HistoryGrows (λ txn. Joins txn step) ledger.history (after_step ledger step).history
step_history ledger (join actor) = record {
  added = actor ∷ [];
  whole = refl;
  members = λ txn h. elim (or_cases (is_among txn ledger.history) (is_among txn (actor ∷ []))
      (sym (list_any-append (same_txn txn) ledger.history (actor ∷ [])) ∙ h)) [
        | inl old ↦ inl old
        | inr new ↦ elim (or_cases (same_txn txn actor) false new) [ inl same ↦ inr (same_txn-true txn actor same) | inr none ↦ absurd (false≢true none) ]
      ];
}
step_history ledger (carry_out actor place op) = history_same _ ledger.history
step_history ledger (prepare v actor) = history_same _ ledger.history
step_history ledger (decide v actor) = history_same _ ledger.history
step_history ledger (undo v content) = history_same _ ledger.history
step_history ledger (finish v actor commit) = history_same _ ledger.history
step_history ledger (cut v front) = history_same _ ledger.history

-- ---- steps, one after another

pub steps_grow : (steps : List Step) (ledger : Ledger) → EachStep IsNoCut steps → (u : ℕ) →
    LogGrows (λ txn. SomeStep (Breaks u txn) steps) (λ txn. SomeStep (Aborts u txn) steps) (ledger.logs u) ((after_steps ledger steps).logs u)
steps_grow [] ledger no_cut u = log_same (λ txn. ⊥) (λ txn. ⊥) (ledger.logs u)
steps_grow (step ∷ steps) ledger no_cut u =
    log_twice (λ txn. Breaks u txn step) (λ txn. Aborts u txn step) (λ txn. SomeStep (Breaks u txn) steps) (λ txn. SomeStep (Aborts u txn) steps)
    (ledger.logs u) ((after_step ledger step).logs u) ((after_steps (after_step ledger step) steps).logs u)
    (step_grows ledger step no_cut.0 u) (steps_grow steps (after_step ledger step) no_cut.1 u)

pub steps_history : (steps : List Step) (ledger : Ledger) → HistoryGrows (λ txn. SomeStep (Joins txn) steps) ledger.history (after_steps ledger steps).history
steps_history [] ledger = history_same (λ txn. ⊥) ledger.history
steps_history (step ∷ steps) ledger =
    history_twice (λ txn. Joins txn step) (λ txn. SomeStep (Joins txn) steps) ledger.history (after_step ledger step).history
    (after_steps (after_step ledger step) steps).history
    (step_history ledger step) (steps_history steps (after_step ledger step))

pub steps_end : (steps : List Step) (ledger : Ledger) → EachStep IsNoCut steps → (u : ℕ) (txn : TxnId) → SomeStep (Ends u txn) steps →
    has_ended ((after_steps ledger steps).logs u) txn ≡ true
steps_end [] ledger no_cut u txn none = absurd none
steps_end (step ∷ steps) ledger no_cut u txn (inl here) =
    ended_stays (λ other. SomeStep (Breaks u other) steps) (λ other. SomeStep (Aborts u other) steps) ((after_step ledger step).logs u) _ txn
    (steps_grow steps (after_step ledger step) no_cut.1 u) (step_ends ledger step u txn here)
steps_end (step ∷ steps) ledger no_cut u txn (inr later) = steps_end steps (after_step ledger step) no_cut.1 u txn later

-- whoever is resolved stays so
pub resolved_stays : (steps : List Step) (ledger : Ledger) → EachStep IsNoCut steps → (u : ℕ) (txn : TxnId) → IsResolved ledger u txn →
    IsResolved (after_steps ledger steps) u txn
resolved_stays steps ledger no_cut u txn resolved = elim resolved [
  | inl aborted ↦ inl (let grows = steps_grow steps ledger no_cut u in
      ap (λ (log : List LogEntry). is_aborted log txn) grows.whole ∙ aborted_grown (ledger.logs u) grows.added txn aborted)
  | inr member ↦ inr (member_stays _ _ _ txn (steps_history steps ledger) member)
]

-- whoever steps end is resolved
pub steps_resolve : (steps : List Step) (ledger : Ledger) → EachStep IsNoCut steps → AreEnabled ledger steps → (u : ℕ) (txn : TxnId) →
    SomeStep (Ends u txn) steps → IsResolved (after_steps ledger steps) u txn
steps_resolve [] ledger no_cut may u txn none = absurd none
steps_resolve (step ∷ steps) ledger no_cut may u txn (inl here) =
    resolved_stays steps (after_step ledger step) no_cut.1 u txn (step_resolves ledger step may.0 u txn here)
steps_resolve (step ∷ steps) ledger no_cut may u txn (inr later) = steps_resolve steps (after_step ledger step) no_cut.1 may.1 u txn later

-- ---- who is whole

-- each transaction outside the history that nothing breaks at a virtual node is whole there
abbrev pub UnbrokenWhole : Ledger → Type 0
UnbrokenWhole ledger = (v : ℕ) (txn : TxnId) → is_among txn ledger.history ≡ false → is_broken (ledger.logs v) txn ≡ false → IsWholeOn ledger txn v

-- a step spares whoever stays outside and unbroken
spares : (ledger : Ledger) (step : Step) → IsNoCut step → IsEnabled ledger step → (v : ℕ) (txn : TxnId) → is_among txn (after_step ledger step).history ≡ false →
    is_broken ((after_step ledger step).logs v) txn ≡ false → IsSpared ledger step txn v
spares ledger (carry_out actor place op) no_cut may v txn outside unbroken = tt
spares ledger (prepare u actor) no_cut may v txn outside unbroken = tt
spares ledger (decide u actor) no_cut may v txn outside unbroken = tt
spares ledger (join actor) no_cut may v txn outside unbroken =
    λ same. both_ways _ outside (list_any-append (same_txn txn) ledger.history (actor ∷ [])
    ∙ or_right _ _ (or_left _ _ (subst (λ t. same_txn t actor ≡ true) (sym same) (same_txn-itself actor))))
spares ledger (undo u content) no_cut may v txn outside unbroken = λ here same. both_ways _ unbroken (step_breaks ledger (undo u content) may v txn (here, same))
spares ledger (finish u actor commit) no_cut may v txn outside unbroken = λ here same. both_ways _ unbroken
    (step_breaks ledger (finish u actor commit) may v txn (here, same))
spares ledger (cut u front) no_cut may v txn outside unbroken = absurd no_cut

pub steps_whole : (steps : List Step) (ledger : Ledger) → EachStep IsNoCut steps → IsOrdered ledger → AreEnabled ledger steps → UnbrokenWhole ledger →
    UnbrokenWhole (after_steps ledger steps)
steps_whole [] ledger no_cut ordered may whole = whole
steps_whole (step ∷ steps) ledger no_cut ordered may whole =
    let stays = steps_keep_order ledger step ordered may.0 in
    steps_whole steps (after_step ledger step) no_cut.1 stays.ordered may.1 (λ v txn outside unbroken.
    let grows = step_grows ledger step no_cut.0 v in
    let before_outside : is_among txn ledger.history ≡ false
    = false_from_ne_true _ (λ member. both_ways _ outside (member_stays _ _ _ txn (step_history ledger step) member)) in
    let before_unbroken : is_broken (ledger.logs v) txn ≡ false = false_from_ne_true _ (λ broken. both_ways _ unbroken
    (ap (λ (log : List LogEntry). is_broken log txn) grows.whole ∙ broken_grown (ledger.logs v) grows.added txn broken)) in
    stays.whole txn v (spares ledger step no_cut.0 may.0 v txn outside unbroken) (whole v txn before_outside before_unbroken))
