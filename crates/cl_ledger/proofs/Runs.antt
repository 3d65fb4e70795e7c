-- Every firm run, by induction over its events.
use Rattle.std.proofs.Common.{◌≡◌, List, [], ◌∷◌, refl, subst}
use Rattle.std.specs.List.{fold}
use Rattle.cl_commit.proofs.Events.{whole_at_first, events_keep_whole}
use Rattle.cl_commit.specs.Laws.{ReorderKeepsWhole}
use Rattle.cl_commit.specs.Life.{CommitsWhole}
use Rattle.cl_exchange.proofs.Runs.{sound_at_first, events_fit, events_keep_sound}
use Rattle.cl_exchange.specs.Laws.{IsSoundWorld, ReorderKeepsSound}
use Rattle.cl_ledger.proofs.Events.{ledger_at_first, events_are_steps}
use Rattle.cl_ledger.specs.Laws.{FirmRunsKeepOneOrder}
use Rattle.cl_ledger.specs.Ledgers.{Ledgered, after_both, first_both, both_after, IsLedgerOf}
use Rattle.cl_roster.specs.Roster.{IsClusterSize}
use Rattle.cl_runs.specs.World.{Shape, EachMayHappen}
use Rattle.cl_system.specs.Firm.{FirmWorld, FirmEvent, happens, reorder, join, MayFirm, after_firm_event, firm_world_after, IsFirmRun}

-- what holds of the system and of its ledger
record AreOrdered (shape : Shape) (both : Ledgered) : Type 0 where
  sound : IsSoundWorld shape both.state.world
  whole : CommitsWhole shape both.state.world
  ledger : IsLedgerOf shape both.state both.ledger

module _ (reorder_sound : ReorderKeepsSound) (reorder_whole : ReorderKeepsWhole) (shape : Shape) (size : IsClusterSize shape.nodes shape.spares) where
  -- an event keeps sessions and controllers in agreement
  sound_after : (state : FirmWorld) (event : FirmEvent) → IsSoundWorld shape state.world → MayFirm state event →
      IsSoundWorld shape (after_firm_event shape state event).world
  unfolding after_firm_event
  sound_after state (happens event) sound may = events_keep_sound shape state.world event size sound may.0
  sound_after state (reorder mail) sound may = reorder_sound shape state.world mail size sound may
  sound_after state (join txn) sound may = sound

  -- and commits whole
  whole_after : (state : FirmWorld) (event : FirmEvent) → IsSoundWorld shape state.world → CommitsWhole shape state.world → MayFirm state event →
      CommitsWhole shape (after_firm_event shape state event).world
  unfolding after_firm_event
  whole_after state (happens event) sound whole may = events_keep_whole shape state.world event size sound whole may.0
  whole_after state (reorder mail) sound whole may = reorder_whole shape state.world mail size whole may
  whole_after state (join txn) sound whole may = whole

  ordered_fold : (events : List FirmEvent) (both : Ledgered) → AreOrdered shape both → EachMayHappen MayFirm (after_firm_event shape) events both.state →
      AreOrdered shape (fold (after_both shape) both events)
  ordered_fold [] both ordered may = ordered
  ordered_fold (event ∷ events) both ordered may =
      ordered_fold events (after_both shape both event) (record {
        sound = sound_after both.state event ordered.sound may.0;
        whole = whole_after both.state event ordered.sound ordered.whole may.0;
        ledger = (events_are_steps events_fit shape both.state both.ledger event size ordered.sound ordered.whole ordered.ledger may.0).after;
      }) may.1

-- the ledger grows beside the system
state_fold : (shape : Shape) (events : List FirmEvent) (both : Ledgered) →
    (fold (after_both shape) both events).state ≡ fold (after_firm_event shape) both.state events
state_fold shape [] both = refl
state_fold shape (event ∷ events) both = state_fold shape events (after_both shape both event)

pub firm_runs_keep_one_order : ReorderKeepsSound → ReorderKeepsWhole → FirmRunsKeepOneOrder
unfolding both_after firm_world_after IsFirmRun
firm_runs_keep_one_order reorder_sound reorder_whole shape events size run =
    let ordered = ordered_fold reorder_sound reorder_whole shape size events (first_both shape)
    (record { sound = sound_at_first shape size; whole = whole_at_first shape size; ledger = ledger_at_first shape size }) run in
    let beside : (both_after shape events).state ≡ firm_world_after shape events = state_fold shape events (first_both shape) in
    record {
      beside = beside;
      sound = subst (λ (state : FirmWorld). IsSoundWorld shape state.world) beside ordered.sound;
      commits = subst (λ (state : FirmWorld). CommitsWhole shape state.world) beside ordered.whole;
      ledger = subst (λ (state : FirmWorld). IsLedgerOf shape state (both_after shape events).ledger) beside ordered.ledger;
    }
