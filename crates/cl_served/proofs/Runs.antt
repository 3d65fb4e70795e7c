-- Every firm run, by induction over its events: its ledger is what its transcript shows, and what the transcript shows of ends is true.
use Rattle.std.proofs.Common.{◌≡◌, ℕ, ◌≤◌, true, List, [], ◌∷◌, All, Option, Some, None, inl, inr, refl, sym, ◌∙◌, subst, arith}
use Rattle.std.specs.List.{fold}
use Rattle.std.proofs.lemmas.Bool.{cases_eq, false≢true}
use Rattle.std.proofs.lemmas.List.Elements.{All-nil}
use Rattle.cl_commit.proofs.Events.{whole_at_first, events_keep_whole, event-kept}
use Rattle.cl_commit.proofs.Reordering.{reorder_keeps_whole}
use Rattle.cl_commit.specs.Life.{CommitsWhole, Life, to_come, open_as, committed, aborted, IsSoFar}
use Rattle.cl_exchange.proofs.Events.{session_between, stage_of}
use Rattle.cl_exchange.proofs.Reordering.{reorder_keeps_sound}
use Rattle.cl_exchange.proofs.Runs.{sound_at_first, events_fit, events_keep_sound}
use Rattle.cl_exchange.specs.Laws.{IsSoundWorld}
use Rattle.cl_ledger.proofs.Events.{ledger_at_first, events_are_steps}
use Rattle.cl_ledger.specs.Ledgers.{firm_steps, Ledgered, after_both, first_both, both_after, IsLedgerOf, place_on}
use Rattle.cl_log.specs.Open.{is_among as is_member}
use Rattle.cl_roster.specs.Roster.{IsClusterSize}
use Rattle.cl_runs.specs.World.{Shape, EachMayHappen}
use Rattle.cl_serial.specs.Exchanges.{outcome_of}
use Rattle.cl_system.specs.Firm.{FirmEvent, happens, reorder, join, MayFirm, with_order, after_firm_event, first_firm_world, IsFirmRun}
use Rattle.cl_system.specs.Replicas.{ReplicaWorld, after_replica_event}
use Rattle.cl_system.specs.Roles.{IsOfSession}
use Rattle.cl_told.proofs.Events.{told_at_first, events_keep_told}
use Rattle.cl_told.proofs.Runs.{reorder_keeps_told}
use Rattle.cl_told.specs.Told.{told_session, pending, SessionsAreTold}
use Rattle.cl_types.specs.declared.operations.TxnId.{TxnId}
use Rattle.cl_served.proofs.Changes.{grown_same, history_changes, event_change}
use Rattle.cl_served.proofs.Events.{event_served, reorder_served, served_first}
use Rattle.cl_served.proofs.Evidence.{IsEvident, IsTrueAnswer, reorder_settled, evident_after, evident_joined}
use Rattle.cl_served.proofs.Members.{HasCommitted, member_stands}
use Rattle.cl_served.proofs.Serving.{IsServed, nothing_told}

-- what holds of the system and its ledger between two events
pub record IsServedWell (shape : Shape) (both : Ledgered) : Type 0 where
  pub sound : IsSoundWorld shape both.state.world
  pub told : SessionsAreTold shape both.state.world
  pub whole : CommitsWhole shape both.state.world
  pub ledger : IsLedgerOf shape both.state both.ledger
  pub served : (name : TxnId) → IsOfSession name → IsServed both.state.world both.ledger.done name
  pub evident : IsEvident shape both.state

-- who was decided has committed
life_committed : (nodes : ℕ) (world : ReplicaWorld) (name : TxnId) (life : Life) → IsSoFar nodes world name life → is_member name world.history ≡ true →
    IsSoFar nodes world name committed
life_committed nodes world name to_come is member = absurd (false≢true (sym is.2 ∙ member))
life_committed nodes world name (open_as entry) is member = absurd (false≢true (sym is.2 ∙ member))
life_committed nodes world name committed is member = is
life_committed nodes world name aborted is member = absurd (false≢true (sym is.2 ∙ member))

module _ (shape : Shape) (size : IsClusterSize shape.nodes shape.spares) (both : Ledgered) (well : IsServedWell shape both) where
  some_number : (name : TxnId) → is_member name both.state.world.history ≡ true → 1 ≤ name.number
  some_number name member = elim (cases_eq name.number 0) [
    | inl zero_is ↦ absurd (false≢true (sym (well.evident.numbered name zero_is).2 ∙ member))
    | inr apart ↦ omega (arith, apart)
  ]

  pub members_stand : (name : TxnId) → is_member name both.state.world.history ≡ true →
      HasCommitted (pending name.session both.state.world.front.transcript) (told_session name.session both.state.world.front.transcript) name.number
  members_stand name member =
      let own : IsOfSession name = well.evident.members name member in
      let between = session_between name own in
      let lives = well.whole.lives name own in
      member_stands shape size.counted both.state.world well.whole name (well.told name.session between.0 between.1)
      (life_committed shape.nodes both.state.world name lives.life lives.so_far member) (some_number name member)
      (stage_of shape size.counted both.state.world well.sound name own)

-- nothing is told at the start
first_evident : (shape : Shape) → IsEvident shape (first_firm_world shape)
first_evident shape = record {
  answers = λ name own. subst (All (λ exchange. IsTrueAnswer shape (first_firm_world shape) name (outcome_of exchange))) (sym (nothing_told name))
      (All-nil (λ exchange. IsTrueAnswer shape (first_firm_world shape) name (outcome_of exchange)));
  members = λ name member. absurd (false≢true member);
  numbered = λ name zero_is. (record { begun = (let e = zero_is in omega (arith, e)); heard = refl }, refl, refl);
  in_time = λ i j x y exchange transaction at at_i. absurd (let none : ◌≡◌ {A = Option TxnId} None (Some x) = at_i in cc);
}

-- each event that may happen keeps it so
next_well : (shape : Shape) → IsClusterSize shape.nodes shape.spares → (both : Ledgered) → IsServedWell shape both → (event : FirmEvent) →
    MayFirm both.state event → IsServedWell shape (after_both shape both event)
unfolding after_firm_event firm_steps
next_well shape size both well (happens event) may = record {
  sound = events_keep_sound shape both.state.world event size well.sound may.0;
  told = events_keep_told shape both.state.world event size well.sound well.told may.0;
  whole = events_keep_whole shape both.state.world event size well.sound well.whole may.0;
  ledger = (events_are_steps events_fit shape both.state both.ledger (happens event) size well.sound well.whole well.ledger may).after;
  served = λ name own. event_served shape size both.state both.ledger well.sound well.told well.whole well.ledger name own (well.served name own) event may.0;
  evident = evident_after shape both.state (after_replica_event shape both.state.world event)
      (event-kept shape size both.state.world well.sound well.whole event may.0).settled
      (event_change shape size.counted both.state well.sound well.told well.whole event may.0 may.1) well.evident well.ledger.decided
      (members_stand shape size both well);
}
next_well shape size both well (reorder mail) may = record {
  sound = reorder_keeps_sound shape both.state.world mail size well.sound may;
  told = reorder_keeps_told shape both.state.world mail size well.sound well.told may;
  whole = reorder_keeps_whole shape both.state.world mail size well.whole may;
  ledger = (events_are_steps events_fit shape both.state both.ledger (reorder mail) size well.sound well.whole well.ledger may).after;
  served = λ name own. reorder_served both.state.world mail both.ledger.done name may (well.served name own);
  evident = evident_after shape both.state (with_order both.state.world mail) (reorder_settled shape.nodes both.state.world mail may)
      (history_changes refl (grown_same refl)) well.evident well.ledger.decided (members_stand shape size both well);
}
next_well shape size both well (join txn) may = record {
  sound = well.sound;
  told = well.told;
  whole = well.whole;
  ledger = (events_are_steps events_fit shape both.state both.ledger (join txn) size well.sound well.whole well.ledger may).after;
  served = well.served;
  evident = evident_joined shape both.state txn may.0 may.1 well.evident;
}

-- it is so at the start
first_well : (shape : Shape) → IsClusterSize shape.nodes shape.spares → IsServedWell shape (first_both shape)
first_well shape size = record {
  sound = sound_at_first shape size;
  told = told_at_first shape size;
  whole = whole_at_first shape size;
  ledger = ledger_at_first shape size;
  served = λ name own. served_first shape (place_on shape.nodes) name;
  evident = first_evident shape;
}

-- so after each event
served_fold : (shape : Shape) → IsClusterSize shape.nodes shape.spares → (events : List FirmEvent) (both : Ledgered) → IsServedWell shape both →
    EachMayHappen MayFirm (after_firm_event shape) events both.state → IsServedWell shape (fold (after_both shape) both events)
served_fold shape size [] both well may = well
served_fold shape size (event ∷ events) both well may =
    served_fold shape size events (after_both shape both event) (next_well shape size both well event may.0) may.1

-- after every firm run it is so
pub runs_are_served : (shape : Shape) (events : List FirmEvent) → IsClusterSize shape.nodes shape.spares → IsFirmRun shape events →
    IsServedWell shape (both_after shape events)
unfolding both_after IsFirmRun
runs_are_served shape events size may = served_fold shape size events (first_both shape) (first_well shape size) may
