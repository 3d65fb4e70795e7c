-- Every firm run, by induction over its events: all stays sound, and whatever else each event keeps while all is sound.
use Rattle.std.proofs.Common.{List, [], ◌∷◌}
use Rattle.std.specs.List.{fold}
use Rattle.cl_exchange.proofs.Reordering.{reorder_keeps_sound}
use Rattle.cl_exchange.proofs.Runs.{sound_at_first, events_keep_sound}
use Rattle.cl_exchange.specs.Laws.{IsSoundWorld, FirmRunsAreSound}
use Rattle.cl_roster.specs.Roster.{IsClusterSize}
use Rattle.cl_runs.specs.World.{Shape, EachMayHappen}
use Rattle.cl_system.specs.Firm.{FirmWorld, FirmEvent, happens, reorder, join, MayFirm, after_firm_event, first_firm_world, firm_world_after, IsFirmRun}

module _ (shape : Shape) (size : IsClusterSize shape.nodes shape.spares) where
  -- an event that may happen keeps all sound
  pub firm_event_sound : (state : FirmWorld) (event : FirmEvent) → IsSoundWorld shape state.world → MayFirm state event →
      IsSoundWorld shape (after_firm_event shape state event).world
  unfolding after_firm_event
  firm_event_sound state (happens event) sound may = events_keep_sound shape state.world event size sound may.0
  firm_event_sound state (reorder mail) sound may = reorder_keeps_sound shape state.world mail size sound may
  firm_event_sound state (join txn) sound may = sound

  module _ (Holds : FirmWorld → Type 0)
      (keeps : (state : FirmWorld) (event : FirmEvent) → IsSoundWorld shape state.world → Holds state → MayFirm state event →
      Holds (after_firm_event shape state event)) where
    -- after events, which may happen in their turn
    firm_fold : (events : List FirmEvent) (state : FirmWorld) → IsSoundWorld shape state.world → Holds state →
        EachMayHappen MayFirm (after_firm_event shape) events state →
        IsSoundWorld shape (fold (after_firm_event shape) state events).world × Holds (fold (after_firm_event shape) state events)
    firm_fold [] state sound holds may = (sound, holds)
    firm_fold (event ∷ events) state sound holds may =
        firm_fold events (after_firm_event shape state event) (firm_event_sound state event sound may.0) (keeps state event sound holds may.0) may.1

    -- what holds at the start, and is kept by each event while all is sound, holds after a firm run, and all is sound
    pub firm_runs_keep : Holds (first_firm_world shape) → (events : List FirmEvent) → IsFirmRun shape events →
        IsSoundWorld shape (firm_world_after shape events).world × Holds (firm_world_after shape events)
    unfolding firm_world_after IsFirmRun
    firm_runs_keep first events may = firm_fold events (first_firm_world shape) (sound_at_first shape size) first may

pub firm_runs_are_sound : FirmRunsAreSound
firm_runs_are_sound shape events size may = (firm_runs_keep shape size (λ state. Unit {0}) (λ state event sound holds here. tt) tt events may).0
