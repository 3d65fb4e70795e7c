-- What holds of a ledger between two events, and what the steps of an event keep.
use Rattle.std.proofs.Common.{◌≡◌, ℕ, ◌<◌, true, false, inl, inr, List, [], ◌++◌, sym, ◌∙◌, ap}
use Rattle.std.proofs.lemmas.Bool.{both_ways, false_from_ne_true}
use Rattle.std.proofs.lemmas.List.{append-nil, append_assoc}
use Rattle.cl_types.specs.declared.operations.TxnId.{TxnId}
use Rattle.cl_log.specs.LogEntry.{LogEntry}
use Rattle.cl_log.specs.Open.{has_ended, is_among}
use Rattle.cl_order.specs.Ledger.{Ledger, IsOrdered}
use Rattle.cl_order.specs.Steps.{Step, after_steps, AreEnabled}
use Rattle.cl_settled.proofs.Breaking.{is_broken, is_aborted, ended-broken, ended_grown}
use Rattle.cl_settled.proofs.Growing.{IsNoCut, Breaks, Aborts, Ends, Joins, IsResolved, EachStep, SomeStep, UnbrokenWhole, ended_stays, steps_grow, steps_history, steps_end, resolved_stays, steps_resolve, steps_whole}

-- what the steps of an event are, where these transactions are lost for good
pub record IsTurn (nodes : ℕ) (Lost : TxnId → Type 0) (ledger : Ledger) (steps : List Step) : Type 0 where
  pub no_cut : EachStep IsNoCut steps
  -- whom they break they end
  pub ends : (u : ℕ) (txn : TxnId) → SomeStep (Breaks u txn) steps → SomeStep (Ends u txn) steps
  -- whom they abort is lost
  pub lost : (u : ℕ) (txn : TxnId) → SomeStep (Aborts u txn) steps → Lost txn
  -- who joins has not ended anywhere
  pub unended : (txn : TxnId) → SomeStep (Joins txn) steps → (u : ℕ) → u < nodes → has_ended (ledger.logs u) txn ≡ false

-- what holds between two events
pub record IsSettling (nodes : ℕ) (Lost : TxnId → Type 0) (ledger : Ledger) : Type 0 where
  -- whoever is broken has ended
  pub ended : (u : ℕ) → u < nodes → (txn : TxnId) → is_broken (ledger.logs u) txn ≡ true → has_ended (ledger.logs u) txn ≡ true
  -- and is aborted, or a member
  pub resolved : (u : ℕ) → u < nodes → (txn : TxnId) → is_broken (ledger.logs u) txn ≡ true → IsResolved ledger u txn
  -- whoever is aborted is lost
  pub lost : (u : ℕ) → u < nodes → (txn : TxnId) → is_aborted (ledger.logs u) txn ≡ true → Lost txn
  -- who is neither a member nor broken is whole
  pub whole : UnbrokenWhole ledger

-- an event leaves it so, where whoever was lost stays lost
pub turn_settles : (nodes : ℕ) (Before After : TxnId → Type 0) (ledger : Ledger) (steps : List Step) → IsOrdered ledger → AreEnabled ledger steps →
    IsTurn nodes Before ledger steps → ((txn : TxnId) → Before txn → After txn) → IsSettling nodes Before ledger →
    IsSettling nodes After (after_steps ledger steps)
turn_settles nodes Before After ledger steps ordered enabled turn stays settling = record {
  ended = λ u below txn broken. elim ((steps_grow steps ledger turn.no_cut u).broken txn broken) [
    | inl was ↦ ended_stays _ _ _ _ txn (steps_grow steps ledger turn.no_cut u) (settling.ended u below txn was)
    | inr now ↦ steps_end steps ledger turn.no_cut u txn (turn.ends u txn now)
  ];
  resolved = λ u below txn broken. elim ((steps_grow steps ledger turn.no_cut u).broken txn broken) [
    | inl was ↦ resolved_stays steps ledger turn.no_cut u txn (settling.resolved u below txn was)
    | inr now ↦ steps_resolve steps ledger turn.no_cut enabled u txn (turn.ends u txn now)
  ];
  lost = λ u below txn aborted. stays txn (elim ((steps_grow steps ledger turn.no_cut u).aborted txn aborted) [
    | inl was ↦ settling.lost u below txn was
    | inr now ↦ turn.lost u txn now
  ]);
  whole = steps_whole steps ledger turn.no_cut ordered enabled settling.whole;
}

-- whoever is neither a member nor lost has not ended anywhere
pub outside_unended : (nodes : ℕ) (Lost : TxnId → Type 0) (ledger : Ledger) → IsSettling nodes Lost ledger → (txn : TxnId) →
    is_among txn ledger.history ≡ false → (Lost txn → ⊥) → (u : ℕ) → u < nodes → has_ended (ledger.logs u) txn ≡ false
outside_unended nodes Lost ledger settling txn outside found u below = false_from_ne_true _ (λ ended.
    elim (settling.resolved u below txn (ended-broken (ledger.logs u) txn ended)) [
      | inl aborted ↦ found (settling.lost u below txn aborted)
      | inr member ↦ both_ways _ outside member
    ])

-- ---- from one ledger to a later one

-- logs and history go on, and who is out and has ended stays out
pub record GoesOn (nodes : ℕ) (before after : Ledger) : Type 0 where
  pub logs : (u : ℕ) → (added : List LogEntry) × (after.logs u ≡ before.logs u ++ added)
  pub history : (added : List TxnId) × (after.history ≡ before.history ++ added)
  pub stays_out : (u : ℕ) (txn : TxnId) → u < nodes → has_ended (before.logs u) txn ≡ true → is_among txn before.history ≡ false → is_among txn after.history ≡ false

pub goes_nowhere : (nodes : ℕ) (ledger : Ledger) → GoesOn nodes ledger ledger
goes_nowhere nodes ledger = record {
  logs = λ u. ([], sym (append-nil (ledger.logs u)));
  history = ([], sym (append-nil ledger.history));
  stays_out = λ u txn below ended out. out;
}

pub turn_goes_on : (nodes : ℕ) (Lost : TxnId → Type 0) (ledger : Ledger) (steps : List Step) → IsTurn nodes Lost ledger steps →
    GoesOn nodes ledger (after_steps ledger steps)
turn_goes_on nodes Lost ledger steps turn = record {
  logs = λ u. let grows = steps_grow steps ledger turn.no_cut u in (grows.added, grows.whole);
  history = (let grows = steps_history steps ledger in (grows.added, grows.whole));
  stays_out = λ u txn below ended out. false_from_ne_true _ (λ member. elim ((steps_history steps ledger).members txn member) [
    | inl old ↦ both_ways _ out old
    | inr joins ↦ both_ways _ (turn.unended txn joins u below) ended
  ]);
}

pub goes_twice : (nodes : ℕ) (before middle after : Ledger) → GoesOn nodes before middle → GoesOn nodes middle after → GoesOn nodes before after
goes_twice nodes before middle after first second = record {
  logs = λ u. (
    (first.logs u).0 ++ (second.logs u).0,
    (second.logs u).1 ∙ ap (λ log. log ++ (second.logs u).0) (first.logs u).1 ∙ append_assoc (before.logs u) (first.logs u).0 (second.logs u).0,
  );
  history = (
    first.history.0 ++ second.history.0,
    second.history.1 ∙ ap (λ names. names ++ second.history.0) first.history.1 ∙ append_assoc before.history first.history.0 second.history.0,
  );
  stays_out = λ u txn below ended out.
      second.stays_out u txn below (ap (λ (log : List LogEntry). has_ended log txn) (first.logs u).1
      ∙ ended_grown (before.logs u) (first.logs u).0 txn ended) (first.stays_out u txn below ended out);
}
