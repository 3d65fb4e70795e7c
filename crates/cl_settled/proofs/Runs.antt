-- Every firm run, by induction over its events: what holds of its ledger, and how the ledger of a longer run goes on.
use Rattle.std.proofs.Common.{◌≡◌, ℕ, List, [], ◌∷◌, ◌++◌, refl, sym, ◌∙◌, subst}
use Rattle.std.specs.List.{fold}
use Rattle.std.proofs.lemmas.Bool.{false≢true}
use Rattle.std.proofs.lemmas.List.Sums.{fold-append}
use Rattle.cl_types.specs.declared.operations.TxnId.{TxnId}
use Rattle.cl_types.specs.Places.{Place}
use Rattle.cl_commit.proofs.Events.{whole_at_first, events_keep_whole, aborted_stay_out}
use Rattle.cl_commit.proofs.Reordering.{reorder_keeps_whole}
use Rattle.cl_commit.specs.Life.{is_begin_of, CommitsWhole}
use Rattle.cl_exchange.proofs.Reordering.{reorder_keeps_sound}
use Rattle.cl_exchange.proofs.Runs.{sound_at_first, events_fit, events_keep_sound}
use Rattle.cl_exchange.specs.Laws.{IsSoundWorld}
use Rattle.cl_ledger.proofs.Events.{ledger_at_first, events_are_steps}
use Rattle.cl_ledger.specs.Ledgers.{Ledgered, firm_steps, after_both, first_both, both_after, IsLedgerOf}
use Rattle.cl_node.specs.Addressing.{home_in}
use Rattle.cl_order.specs.Steps.{new_ledger}
use Rattle.cl_order.proofs.LawLemmas.{new_ordered}
use Rattle.cl_order.proofs.Readings.{whole_without_operations}
use Rattle.cl_roster.specs.Roster.{IsClusterSize}
use Rattle.cl_runs.specs.World.{Shape, EachMayHappen}
use Rattle.cl_steps.specs.declared.actors.TheConstants.{FRONT}
use Rattle.cl_system.proofs.Reordering.{reordered_any}
use Rattle.cl_system.specs.Firm.{FirmWorld, FirmEvent, happens, reorder, join, MayFirm, after_firm_event, first_firm_world, firm_world_after, IsFirmRun}
use Rattle.cl_system.specs.Replicas.{ReplicaWorld}
use Rattle.cl_settled.proofs.Going.{IsTurn, IsSettling, GoesOn, turn_settles, goes_nowhere, turn_goes_on, goes_twice}
use Rattle.cl_settled.proofs.Turning.{IsLost, event_turn}

-- ---- longer runs

-- the events of a longer run may happen, the first ones and then the others
may_both : {W E : Type 0} (May : W → E → Type 0) (next : W → E → W) (xs ys : List E) (state : W) → EachMayHappen May next (xs ++ ys) state →
    EachMayHappen May next xs state × EachMayHappen May next ys (fold next state xs)
may_both May next [] ys state may = (tt, may)
may_both May next (event ∷ xs) ys state may = let rest = may_both May next xs ys (next state event) may.1 in ((may.0, rest.0), rest.1)

-- the state beside the ledger is the system after the events
states_go_along : (shape : Shape) (events : List FirmEvent) (both : Ledgered) →
    fold (after_firm_event shape) both.state events ≡ (fold (after_both shape) both events).state
states_go_along shape [] both = refl
states_go_along shape (event ∷ events) both = states_go_along shape events (after_both shape both event)

-- what a longer firm run begins with is one
pub firm_before : (shape : Shape) (events more : List FirmEvent) → IsFirmRun shape (events ++ more) → IsFirmRun shape events
unfolding IsFirmRun
firm_before shape events more firm = (may_both MayFirm (after_firm_event shape) events more (first_firm_world shape) firm).0

-- ---- the start

-- nothing is broken, and nobody is a member
first_settles : (nodes : ℕ) (Lost : TxnId → Type 0) (on : Place → ℕ) → IsSettling nodes Lost (new_ledger on)
first_settles nodes Lost on = record {
  ended = λ u below txn broken. absurd (false≢true broken);
  resolved = λ u below txn broken. absurd (false≢true broken);
  lost = λ u below txn aborted. absurd (false≢true aborted);
  whole = λ v txn outside unbroken. whole_without_operations (new_ledger on) txn v (new_ordered on) (λ place here. refl);
}

-- ---- the system after an event

-- it is sound, its commits are whole, and whoever was lost is lost
record KeepsSystem (shape : Shape) (before after : ReplicaWorld) : Type 0 where
  sound : IsSoundWorld shape after
  whole : CommitsWhole shape after
  lost : (txn : TxnId) → IsLost shape.nodes before txn → IsLost shape.nodes after txn

-- each event that may happen keeps it so
event_keeps_system : (shape : Shape) (state : FirmWorld) (event : FirmEvent) → IsClusterSize shape.nodes shape.spares → IsSoundWorld shape state.world →
    CommitsWhole shape state.world → MayFirm state event → KeepsSystem shape state.world (after_firm_event shape state event).world
unfolding after_firm_event
event_keeps_system shape state (happens event) size sound whole may = record {
  sound = events_keep_sound shape state.world event size sound may.0;
  whole = events_keep_whole shape state.world event size sound whole may.0;
  lost = λ txn lost. aborted_stay_out shape state.world event txn size sound whole may.0 lost;
}
event_keeps_system shape state (reorder mail) size sound whole may = record {
  sound = reorder_keeps_sound shape state.world mail size sound may;
  whole = reorder_keeps_whole shape state.world mail size whole may;
  lost = λ txn lost. (
    record { begun = lost.0.begun; heard = reordered_any state.world.mail mail may (is_begin_of txn) FRONT (home_in shape.nodes txn) ∙ lost.0.heard },
    lost.1,
    lost.2,
  );
}
event_keeps_system shape state (join txn) size sound whole may = record { sound = sound; whole = whole; lost = λ other lost. lost }

-- ---- events

-- what holds of the firm system and its ledger
record AreSettled (shape : Shape) (both : Ledgered) : Type 0 where
  sound : IsSoundWorld shape both.state.world
  whole : CommitsWhole shape both.state.world
  ledger : IsLedgerOf shape both.state both.ledger
  settling : IsSettling shape.nodes (IsLost shape.nodes both.state.world) both.ledger

-- it holds after each event, and the ledger goes on
settled_event : (shape : Shape) → IsClusterSize shape.nodes shape.spares → (both : Ledgered) (event : FirmEvent) → AreSettled shape both →
    MayFirm both.state event → AreSettled shape (after_both shape both event) × GoesOn shape.nodes both.ledger (after_both shape both event).ledger
settled_event shape size both event settled may =
    let keeps = event_keeps_system shape both.state event size settled.sound settled.whole may in
    let follows = events_are_steps events_fit shape both.state both.ledger event size settled.sound settled.whole settled.ledger may in
    let turn : IsTurn shape.nodes (IsLost shape.nodes both.state.world) both.ledger (firm_steps both.state event)
    = event_turn shape both.state both.ledger event size settled.sound settled.whole settled.ledger settled.settling may in (
      record {
        sound = keeps.sound;
        whole = keeps.whole;
        ledger = follows.after;
        settling = turn_settles shape.nodes (IsLost shape.nodes both.state.world) (IsLost shape.nodes (after_firm_event shape both.state event).world)
            both.ledger (firm_steps both.state event) settled.ledger.ordered follows.enabled turn keeps.lost settled.settling;
      },
      turn_goes_on shape.nodes (IsLost shape.nodes both.state.world) both.ledger (firm_steps both.state event) turn,
    )

-- and after all of them
settled_fold : (shape : Shape) → IsClusterSize shape.nodes shape.spares → (events : List FirmEvent) (both : Ledgered) → AreSettled shape both →
    EachMayHappen MayFirm (after_firm_event shape) events both.state →
    AreSettled shape (fold (after_both shape) both events) × GoesOn shape.nodes both.ledger (fold (after_both shape) both events).ledger
settled_fold shape size [] both settled may = (settled, goes_nowhere shape.nodes both.ledger)
settled_fold shape size (event ∷ events) both settled may =
    let first = settled_event shape size both event settled may.0 in
    let rest = settled_fold shape size events (after_both shape both event) first.0 may.1 in (
      rest.0,
      goes_twice shape.nodes both.ledger (after_both shape both event).ledger
          (fold (after_both shape) (after_both shape both event) events).ledger first.1 rest.1,
    )

-- it holds at the start
first_settled : (shape : Shape) → IsClusterSize shape.nodes shape.spares → AreSettled shape (first_both shape)
first_settled shape size = record {
  sound = sound_at_first shape size;
  whole = whole_at_first shape size;
  ledger = ledger_at_first shape size;
  settling = first_settles shape.nodes (IsLost shape.nodes (first_firm_world shape).world) _;
}

-- ---- every firm run

-- the ledger of a firm run is that of the system after it, and settles
pub run_ledger : (shape : Shape) (events : List FirmEvent) → IsClusterSize shape.nodes shape.spares → IsFirmRun shape events →
    IsLedgerOf shape (firm_world_after shape events) (both_after shape events).ledger
    × IsSettling shape.nodes (IsLost shape.nodes (firm_world_after shape events).world) (both_after shape events).ledger
unfolding both_after firm_world_after IsFirmRun
run_ledger shape events size firm =
    let settled = (settled_fold shape size events (first_both shape) (first_settled shape size) firm).0 in
    subst (λ (state : FirmWorld). IsLedgerOf shape state (both_after shape events).ledger
    × IsSettling shape.nodes (IsLost shape.nodes state.world) (both_after shape events).ledger)
    (sym (states_go_along shape events (first_both shape))) (settled.ledger, settled.settling)

-- and the ledger of a longer run goes on from it
pub run_goes_on : (shape : Shape) (events more : List FirmEvent) → IsClusterSize shape.nodes shape.spares → IsFirmRun shape (events ++ more) →
    GoesOn shape.nodes (both_after shape events).ledger (both_after shape (events ++ more)).ledger
unfolding both_after IsFirmRun
run_goes_on shape events more size firm =
    let parts = may_both MayFirm (after_firm_event shape) events more (first_firm_world shape) firm in
    let middle : Ledgered = fold (after_both shape) (first_both shape) events in
    let front = settled_fold shape size events (first_both shape) (first_settled shape size) parts.0 in
    let back = settled_fold shape size more middle front.0
    (subst (EachMayHappen MayFirm (after_firm_event shape) more) (states_go_along shape events (first_both shape)) parts.1) in
    subst (λ (both : Ledgered). GoesOn shape.nodes middle.ledger both.ledger) (sym (fold-append (after_both shape) (first_both shape) events more)) back.1
