-- Another order of what is on its way, and every firm run.
use Rattle.cl_exchange.proofs.Firm.{firm_runs_keep}
use Rattle.cl_exchange.proofs.Reordering.{reordered_view}
use Rattle.cl_exchange.specs.Laws.{IsSoundWorld}
use Rattle.cl_roster.specs.Roster.{IsClusterSize}
use Rattle.cl_runs.specs.World.{Shape}
use Rattle.cl_system.specs.Firm.{with_order, FirmWorld, FirmEvent, happens, reorder, join, MayFirm, after_firm_event}
use Rattle.cl_told.proofs.Events.{told_at_first, events_keep_told}
use Rattle.cl_told.proofs.Fronts.{view_from, told_from, same_told}
use Rattle.cl_told.specs.Laws.{ReorderKeepsTold, FirmRunsAreTold}
use Rattle.cl_told.specs.Told.{SessionsAreTold}

pub reorder_keeps_told : ReorderKeepsTold
reorder_keeps_told shape world mail size sound told are s one most =
    told_from shape (with_order world mail) s (same_told shape.nodes s world.front.transcript
    (reordered_view shape.nodes world mail s (sound.stages s one most) are) (view_from shape world s (told s one most)))

-- an event that may happen keeps it so
pub firm_event_told : (shape : Shape) → IsClusterSize shape.nodes shape.spares → (state : FirmWorld) (event : FirmEvent) → IsSoundWorld shape state.world →
    SessionsAreTold shape state.world → MayFirm state event → SessionsAreTold shape (after_firm_event shape state event).world
unfolding after_firm_event
firm_event_told shape size state (happens event) sound told may = events_keep_told shape state.world event size sound told may.0
firm_event_told shape size state (reorder mail) sound told may = reorder_keeps_told shape state.world mail size sound told may
firm_event_told shape size state (join txn) sound told may = told

pub firm_runs_are_told : FirmRunsAreTold
firm_runs_are_told shape events size may =
    (firm_runs_keep shape size (λ state. SessionsAreTold shape state.world) (firm_event_told shape size) (told_at_first shape size) events may).1
