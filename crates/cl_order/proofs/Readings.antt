-- What can be read off an ordered ledger.
use Rattle.std.proofs.Common.{◌≡◌, ℕ, ◌<◌, get_or, refl, ap, inl, inr, true, false, subst, List, [], ◌∷◌, ◌++◌, sym, ◌∙◌}
use Rattle.std.specs.List.{IsDistinct, flat_map}
use Rattle.std.proofs.lemmas.Bool.{both_ways, cases_order, or_left, or_right}
use Rattle.std.proofs.lemmas.Map.Keys.{apart_from_distinct}
use Rattle.std.proofs.lemmas.Option.{get_or_from_slice_get, slice_get_within}
use Rattle.std.specs.Prelude.{slice_index_or}
use Rattle.std.proofs.lemmas.List.Sums.{fold-append}
use Rattle.std.proofs.lemmas.List.Elements.{All-weaker}
use Rattle.cl_types.specs.declared.operations.TxnId.{TxnId}
use Rattle.cl_types.specs.Transactions.{same_txn}
use Rattle.cl_types.proofs.Transactions.{same_txn-itself}
use Rattle.cl_log.specs.Locks.{strongest_mode}
use Rattle.cl_log.specs.Open.{has_ended, is_among}
use Rattle.cl_log.proofs.Beginnings.{settled-beginning}
use Rattle.cl_log.proofs.Settled.{settled_at-free}
use Rattle.cl_serial.specs.PlainMap.{Operation, operations, no_values, after_operations, RepliesAgree}
use Rattle.cl_serial.specs.Serial.{StandsAt, operations_of}
use Rattle.cl_serial.specs.Transactions.{commands_of}
use Rattle.cl_order.specs.Ledger.{Ledger, log_at, lock_at, member_operations, values_of}
use Rattle.cl_order.specs.Laws.{SparedStayWhole, StepsGoOn, MembersStandOnce, HistoryReplays, WholeReplays, WholeOnEach, WholeWithoutOperations, MembersHoldLocks, HoldersAsked, StoreIsMap, BeginningsSettleAlike}
use Rattle.cl_order.specs.Operations.{mode_of, is_held}
use Rattle.cl_order.specs.Steps.{Step, after_step, after_steps, AreEnabled}
use Rattle.cl_order.proofs.Ledgers.{asked_where_locked, ordered_on, whole_from, whole_without, whole_everywhere, locked_where_strongest}
use Rattle.cl_order.proofs.LawLemmas.{steps_keep_order}
use Rattle.cl_order.proofs.OneWhole.{IsWholeAt}
use Rattle.cl_order.proofs.Replays.{agree_from_each}

pub whole_replays : WholeReplays
whole_replays ledger txn ordered whole =
    agree_from_each (values_of ledger) (ledger.done txn) (λ place. (whole_everywhere ledger txn ordered whole place).agree)

pub whole_on_each : WholeOnEach
whole_on_each ledger txn ordered = (
  λ whole v. whole_from ledger txn v (λ place here.
      subst (λ u. IsWholeAt (ledger.logs u) txn place (values_of ledger place) (ledger.done txn)) here (whole_everywhere ledger txn ordered whole place)),
  λ each k d below. each (ledger.on (slice_index_or (ledger.done txn) k d).place),
)

pub whole_without_operations : WholeWithoutOperations
whole_without_operations ledger txn v ordered none =
    whole_from ledger txn v (λ place here. whole_without ledger.done txn place (values_of ledger place) (ledger.logs v) (none place here) (ordered.for_operations v))

pub members_hold_locks : MembersHoldLocks
members_hold_locks ledger txn ordered member =
    All-weaker
    (λ (o : Operation). is_held (strongest_mode (log_at ledger o.place) txn o.place) (mode_of o.op) ≡ true)
    (λ (o : Operation). has_ended (log_at ledger o.place) txn ≡ false → is_held (lock_at ledger txn o.place) (mode_of o.op) ≡ true)
    (λ o held running. locked_where_strongest (log_at ledger o.place) txn o.place (mode_of o.op) held running) (ledger.done txn) (ordered.locked txn member)

pub store_is_map : StoreIsMap
store_is_map ledger place ordered members =
    sym (settled_at-free (log_at ledger place) ledger.history place members) ∙ ordered.settles place

pub beginnings_settle_alike : BeginningsSettleAlike
beginnings_settle_alike ledger v front ordered may place here =
    settled-beginning ledger.history (ledger.logs v) front may.lost 1 (ordered.numbered v) (ordered.lawful v) may.whole may.ends place
    ∙ (ordered_on ledger ordered v).settles place here

pub holders_asked : HoldersAsked
holders_asked ledger txn place mode ordered holds = asked_where_locked ledger.done txn place (log_at ledger place) (ordered.for_operations (ledger.on place)) mode holds

pub spared_stay_whole : SparedStayWhole
spared_stay_whole ledger step txn ordered enabled spared whole =
    let stays = steps_keep_order ledger step ordered enabled in
    (whole_on_each (after_step ledger step) txn stays.ordered).1 (λ v. stays.whole txn v (spared v) ((whole_on_each ledger txn ordered).0 whole v))

enabled_on : (ledger : Ledger) (steps more : List Step) → AreEnabled ledger steps → AreEnabled (after_steps ledger steps) more → AreEnabled ledger (steps ++ more)
enabled_on ledger [] more h k = k
enabled_on ledger (step ∷ steps) more h k = (h.0, enabled_on (after_step ledger step) steps more h.1 k)

pub steps_go_on : StepsGoOn
steps_go_on ledger steps more h k = (enabled_on ledger steps more h k, fold-append after_step ledger steps more)

-- two positions of one name are one
stands_once : (history : List TxnId) (i j : ℕ) (name : TxnId) → IsDistinct same_txn history → StandsAt history i name → StandsAt history j name → i < j → ⊥
stands_once history i j name distinct at_i at_j before =
    both_ways _ (apart_from_distinct same_txn history i j name distinct before (slice_get_within history j name at_j))
    (ap (λ x. same_txn x (get_or history j name)) (get_or_from_slice_get history i name name at_i)
    ∙ ap (same_txn name) (get_or_from_slice_get history j name name at_j)
    ∙ same_txn-itself name)

pub members_stand_once : MembersStandOnce
members_stand_once ledger ordered i j name at_i at_j =
    elim (cases_order i j) [
      | inl same ↦ same
      | inr (inl before) ↦ absurd (stands_once ledger.history i j name ordered.distinct at_i at_j before)
      | inr (inr after) ↦ absurd (stands_once ledger.history j i name ordered.distinct at_j at_i after)
    ]

-- what two functions agree on for each name they make of all
flat_map-agree : (f g : TxnId → List Operation) (names : List TxnId) → ((name : TxnId) → is_among name names ≡ true → f name ≡ g name) → flat_map f names ≡ flat_map g names
flat_map-agree f g [] agree = refl
flat_map-agree f g (name ∷ names) agree =
    ap (λ list. list ++ flat_map f names) (agree name (or_left _ _ (same_txn-itself name)))
    ∙ ap (λ list. g name ++ list) (flat_map-agree f g names (λ other among. agree other (or_right _ _ among)))

pub history_replays : HistoryReplays
history_replays ledger transcript ordered told =
    let same : member_operations ledger ≡ operations_of transcript ledger.history =
    flat_map-agree ledger.done (λ name. operations (commands_of transcript name)) ledger.history told in (
      subst (RepliesAgree no_values) same ordered.replies,
      (λ place. ordered.settles place ∙ ap (λ list. after_operations no_values list place) same),
    )
