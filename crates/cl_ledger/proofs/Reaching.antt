-- What the steps of a participant make of a ledger.
use Rattle.std.proofs.Common.{◌≡◌, ◌≢◌, ℕ, true, false, cond, ◌⊎◌, inl, inr, List, [], ◌∷◌, ◌++◌, Option, Some, None, refl, ◌∙◌, ap}
use Rattle.std.proofs.lemmas.Bool.{ne_eqb, cond_both}
use Rattle.cl_types.specs.declared.operations.Op.{Op}
use Rattle.cl_types.specs.declared.operations.TxnId.{TxnId}
use Rattle.cl_types.specs.Places.{Place}
use Rattle.cl_types.specs.Transactions.{same_txn}
use Rattle.cl_types.proofs.Transactions.{same_txn-true}
use Rattle.cl_log.specs.LogEntry.{LogEntry}
use Rattle.cl_log.specs.Open.{has_ended, is_among}
use Rattle.cl_serial.specs.PlainMap.{Operation}
use Rattle.cl_order.specs.Ledger.{Ledger, IsOrdered, IsWholeOn}
use Rattle.cl_order.specs.Steps.{Step, carry_out, prepare as append_prepared, decide as append_decide, finish, logs_with, after_step, after_steps, IsEnabled}
use Rattle.cl_order.specs.Steps.{AreEnabled, MayFinish, IsSpared, operation_now}
use Rattle.cl_order.proofs.LawLemmas.{steps_keep_order}
use Rattle.cl_part.specs.Calls.{ask_op, prepare, decide, end, refusing, after_op, after_prepare, after_decide, after_end}
use Rattle.cl_part.specs.Laws.{MayWork, step_asked, steps_of}
use Rattle.cl_part.specs.State.{State}
use Rattle.cl_ledger.specs.Ledgers.{decision_steps}
use Rattle.cl_ledger.proofs.Keeping.{KeepsLog, calls_keep_log}

-- a ledger has become the next one, and the participant of the virtual node is this one; who is apart is as whole as before
pub record Reaches (ledger next : Ledger) (v : ℕ) (new : State) (apart : TxnId → Type 0) : Type 0 where
  pub on : (place : Place) → next.on place ≡ ledger.on place
  pub at : KeepsLog next v new
  pub elsewhere : (u : ℕ) → u ≢ v → next.logs u ≡ ledger.logs u
  pub ordered : IsOrdered next
  pub whole : (txn : TxnId) (u : ℕ) → apart txn → IsWholeOn ledger txn u → IsWholeOn next txn u

-- a transaction has done the same, or it is one that works, and has done one operation more on the virtual node
abbrev pub HasDone : (Place → ℕ) → ℕ → Type 0 → List Operation → List Operation → Type 0
HasDone on v works old new = (new ≡ old) ⊎ (works × ((operation : Operation) × ((new ≡ old ++ operation ∷ []) × (on operation.place ≡ v))))

-- steps at a virtual node are enabled, and leave the history; these transactions are apart, and these may have done one operation more
pub record Follows (ledger : Ledger) (v : ℕ) (new : State) (apart works : TxnId → Type 0) (steps : List Step) : Type 0 where
  pub enabled : AreEnabled ledger steps
  pub reaches : Reaches ledger (after_steps ledger steps) v new apart
  pub history : (after_steps ledger steps).history ≡ ledger.history
  pub done : (txn : TxnId) → HasDone ledger.on v (works txn) (ledger.done txn) ((after_steps ledger steps).done txn)

-- all transactions
abbrev pub anyone : TxnId → Type 0
anyone txn = Unit {0}

-- none
abbrev pub no_one : TxnId → Type 0
no_one txn = ⊥

-- all but this one
abbrev pub others_than : TxnId → TxnId → Type 0
others_than actor txn = txn ≢ actor

-- the log of another virtual node stays
pub logs_with-elsewhere : (logs : ℕ → List LogEntry) (v : ℕ) (log : List LogEntry) (u : ℕ) → u ≢ v → logs_with logs v log u ≡ logs u
logs_with-elsewhere logs v log u apart = ap (λ b. cond b log (logs u)) (ne_eqb u v apart)

-- nothing is done
pub follows_idle : (ledger : Ledger) (v : ℕ) (state : State) → KeepsLog ledger v state → IsOrdered ledger → Follows ledger v state anyone no_one []
follows_idle ledger v state at ordered = record {
  enabled = tt;
  reaches = record { on = λ place. refl; at = at; elsewhere = λ u apart. refl; ordered = ordered; whole = λ txn u any is. is };
  history = refl;
  done = λ txn. inl refl;
}

-- one step that appends to the log of the virtual node
pub reach_step : (ledger : Ledger) (v : ℕ) (new : State) (step : Step) (apart : TxnId → Type 0) → IsOrdered ledger → IsEnabled ledger step → KeepsLog (after_step ledger step) v new →
    ((place : Place) → (after_step ledger step).on place ≡ ledger.on place) → ((u : ℕ) → u ≢ v → (after_step ledger step).logs u ≡ ledger.logs u) →
    ((txn : TxnId) (u : ℕ) → apart txn → IsSpared ledger step txn u) → Reaches ledger (after_step ledger step) v new apart
reach_step ledger v new step apart ordered enabled at on elsewhere spared =
    let stays = steps_keep_order ledger step ordered enabled in
    record { on = on; at = at; elsewhere = elsewhere; ordered = stays.ordered; whole = λ txn u is. stays.whole txn u (spared txn u is) }

-- ---- an operation

module _ (ledger : Ledger) (v : ℕ) (state : State) (at : KeepsLog ledger v state) (ordered : IsOrdered ledger) where
  -- it is done, or refused
  by_refusal : (txn : TxnId) (place : Place) (op : Op) (new : State) (refused : Option TxnId) → ledger.on place ≡ v → AreEnabled ledger (step_asked refused (carry_out txn place op)) →
      KeepsLog (after_steps ledger (step_asked refused (carry_out txn place op))) v new →
      Follows ledger v new anyone (λ other. other ≡ txn) (step_asked refused (carry_out txn place op))
  by_refusal txn place op new None here enabled after = record {
    enabled = enabled;
    reaches = reach_step ledger v new (carry_out txn place op) anyone ordered enabled.0 after (λ p. refl)
        (λ u apart. logs_with-elsewhere ledger.logs (ledger.on place) _ u (λ same. apart (same ∙ here))) (λ other u any. tt);
    history = refl;
    done = λ other. cond_both (same_txn other txn) (ledger.done other ++ operation_now ledger place op ∷ []) (ledger.done other) (HasDone ledger.on v (other ≡ txn) (ledger.done other))
        (λ own. inr (same_txn-true other txn own, (operation_now ledger place op, (refl, here)))) (λ another. inl refl);
  }
  by_refusal txn place op new (Some holder) here enabled after = record {
    enabled = tt;
    reaches = record { on = λ p. refl; at = after; elsewhere = λ u apart. refl; ordered = ordered; whole = λ other u any is. is };
    history = refl;
    done = λ other. inl refl;
  }

  pub follows_asked : (txn : TxnId) (place : Place) (op : Op) → ledger.on place ≡ v → MayWork ledger v txn →
      Follows ledger v (after_op state txn place op) anyone (λ other. other ≡ txn) (steps_of v state (ask_op txn place op))
  follows_asked txn place op here may =
      let follows = calls_keep_log ledger v state (ask_op txn place op) at (here, may) in
      by_refusal txn place op (after_op state txn place op) (refusing state txn place op) here follows.enabled follows.after

  -- ---- a vote

  pub follows_prepared : (txn : TxnId) → has_ended (ledger.logs v) txn ≡ false →
      Follows ledger v (after_prepare state txn) anyone no_one (steps_of v state (prepare txn))
  follows_prepared txn unended =
      let follows = calls_keep_log ledger v state (prepare txn) at unended in
      record {
        enabled = follows.enabled;
        reaches = reach_step ledger v (after_prepare state txn) (append_prepared v txn) anyone ordered unended follows.after (λ p. refl) (logs_with-elsewhere ledger.logs v _) (λ other u any. tt);
        history = refl;
        done = λ other. inl refl;
      }

  -- ---- a decision

  -- the Decide is appended
  pub follows_decided : (txn : TxnId) → Follows ledger v (after_decide state txn) anyone no_one (decision_steps v txn)
  follows_decided txn =
      let follows = calls_keep_log ledger v state (decide txn) at tt in
      record {
        enabled = follows.enabled;
        reaches = reach_step ledger v (after_decide state txn) (append_decide v txn) anyone ordered tt follows.after (λ p. refl)
            (logs_with-elsewhere ledger.logs v _) (λ other u any. tt);
        history = refl;
        done = λ other. inl refl;
      }

  -- ---- an end with commit

  pub follows_finished : (txn : TxnId) → is_among txn ledger.history ≡ true → has_ended (ledger.logs v) txn ≡ false →
      Follows ledger v (after_end state txn true) (others_than txn) no_one (finish v txn true ∷ [])
  follows_finished txn member unended =
      let may : MayFinish ledger v txn true = record { member = member; unended = unended; undone = λ false_is. absurd (let e : true ≡ false = false_is in cc) } in
      let follows = calls_keep_log ledger v state (end txn true) at may in
      record {
        enabled = follows.enabled;
        reaches = reach_step ledger v (after_end state txn true) (finish v txn true) (others_than txn) ordered follows.enabled.0 follows.after (λ p. refl) (logs_with-elsewhere ledger.logs v _)
            (λ other u apart here. apart);
        history = refl;
        done = λ other. inl refl;
      }
