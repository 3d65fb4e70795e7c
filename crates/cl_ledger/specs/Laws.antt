-- What holds of the ledger of the firm system: one serial order.
use Rattle.std.specs.Prelude.{◌≡◌, List}
use Rattle.cl_commit.specs.Life.{CommitsWhole}
use Rattle.cl_exchange.specs.Laws.{IsSoundWorld}
use Rattle.cl_log.specs.Settled.{settled}
use Rattle.cl_order.specs.Ledger.{Ledger, values_of}
use Rattle.cl_order.specs.Steps.{AreEnabled, after_steps}
use Rattle.cl_roster.specs.Roster.{IsClusterSize}
use Rattle.cl_runs.specs.World.{Shape}
use Rattle.cl_system.specs.Firm.{FirmWorld, FirmEvent, MayFirm, after_firm_event, first_firm_world, firm_world_after, OfFirmRuns}
use Rattle.cl_types.specs.Places.{Place}
use Rattle.cl_ledger.specs.Ledgers.{firm_steps, first_both, both_after, place_on, IsLedgerOf}

-- at the start the ledger is empty
abbrev pub LedgerAtFirst : Type 0
LedgerAtFirst = (shape : Shape) → IsClusterSize shape.nodes shape.spares → IsLedgerOf shape (first_firm_world shape) (first_both shape).ledger

-- an event is steps that are enabled, and the ledger after them is that of the system after it
pub record FollowsEvent (shape : Shape) (state : FirmWorld) (ledger : Ledger) (event : FirmEvent) : Type 0 where
  pub enabled : AreEnabled ledger (firm_steps state event)
  pub after : IsLedgerOf shape (after_firm_event shape state event) (after_steps ledger (firm_steps state event))

-- so is each event that may happen
abbrev pub EventsAreSteps : Type 0
EventsAreSteps = (shape : Shape) (state : FirmWorld) (ledger : Ledger) (event : FirmEvent) → IsClusterSize shape.nodes shape.spares →
    IsSoundWorld shape state.world → CommitsWhole shape state.world → IsLedgerOf shape state ledger → MayFirm state event → FollowsEvent shape state ledger event

-- the log of each virtual node settles to the map of the history
abbrev pub LogsSettle : Type 0
LogsSettle = (shape : Shape) (state : FirmWorld) (ledger : Ledger) (place : Place) → IsClusterSize shape.nodes shape.spares → IsLedgerOf shape state ledger →
    settled (state.world.replicas (place_on shape.nodes place)).part.log state.firm place ≡ values_of ledger place

-- a firm run has a ledger, its commits are whole, and the ledger is in one serial order
pub record IsOrderedRun (shape : Shape) (events : List FirmEvent) : Type 0 where
  -- the ledger grows beside the system
  pub beside : (both_after shape events).state ≡ firm_world_after shape events
  -- sessions and controllers agree
  pub sound : IsSoundWorld shape (firm_world_after shape events).world
  -- each transaction lives, and stands at each virtual node accordingly
  pub commits : CommitsWhole shape (firm_world_after shape events).world
  -- the ledger is that of the system
  pub ledger : IsLedgerOf shape (firm_world_after shape events) (both_after shape events).ledger

-- so is each firm run
abbrev pub FirmRunsKeepOneOrder : Type 0
FirmRunsKeepOneOrder = OfFirmRuns IsOrderedRun
