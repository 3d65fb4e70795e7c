-- After each firm run of which no step is spent all is in range, by induction over its events.
use Rattle.std.proofs.Common.{List, [], ◌∷◌}
use Rattle.std.specs.List.{fold}
use Rattle.cl_exchange.proofs.Firm.{firm_event_sound}
use Rattle.cl_exchange.proofs.Runs.{sound_at_first}
use Rattle.cl_exchange.specs.Laws.{IsSoundWorld}
use Rattle.cl_ranges.proofs.Events.{in_range_at_first, events_keep_range}
use Rattle.cl_ranges.specs.Laws.{IsUnspentEvent, FirmRunsAreInRange}
use Rattle.cl_ranges.specs.Ranges.{IsWorldInRange}
use Rattle.cl_roster.specs.Roster.{IsClusterSize}
use Rattle.cl_runs.specs.World.{Shape, EachMayHappen}
use Rattle.cl_system.proofs.Reordering.{reordered_all}
use Rattle.cl_system.specs.Firm.{FirmWorld, FirmEvent, happens, reorder, join, MayFirm, after_firm_event, first_firm_world, firm_world_after, IsFirmRun}
use Rattle.cl_wire.specs.Range.{IsContent}

module _ (shape : Shape) (size : IsClusterSize shape.nodes shape.spares) where
  -- an event that may happen, and is not spent, keeps all in range
  pub firm_event_keeps_range : (state : FirmWorld) (event : FirmEvent) → IsSoundWorld shape state.world → IsWorldInRange state.world → MayFirm state event →
      IsUnspentEvent shape state event → IsWorldInRange (after_firm_event shape state event).world
  unfolding after_firm_event
  firm_event_keeps_range state (happens event) sound are may unspent = events_keep_range shape state event size sound are may.0 unspent
  firm_event_keeps_range state (reorder mail) sound are may unspent = record {
    sessions = are.sessions;
    replicas = are.replicas;
    mail = λ from to. reordered_all state.world.mail mail may IsContent from to (are.mail from to);
  }
  firm_event_keeps_range state (join txn) sound are may unspent = are

  -- so do events, which may happen in their turn, and are not spent
  range_fold : (events : List FirmEvent) (state : FirmWorld) → IsSoundWorld shape state.world → IsWorldInRange state.world →
      EachMayHappen MayFirm (after_firm_event shape) events state →
      EachMayHappen (IsUnspentEvent shape) (after_firm_event shape) events state → IsWorldInRange (fold (after_firm_event shape) state events).world
  range_fold [] state sound are may unspent = are
  range_fold (event ∷ events) state sound are may unspent =
      range_fold events (after_firm_event shape state event) (firm_event_sound shape size state event sound may.0)
      (firm_event_keeps_range state event sound are may.0 unspent.0) may.1 unspent.1

-- after each firm run of which no step is spent all is in range
pub firm_runs_are_in_range : FirmRunsAreInRange
unfolding firm_world_after IsFirmRun
firm_runs_are_in_range shape events size may unspent =
    range_fold shape size events (first_firm_world shape) (sound_at_first shape size) (in_range_at_first shape) may unspent
