-- What holds of the system between two events: each input fits.
use Rattle.std.specs.Prelude.{◌≡◌, ℕ, ◌≤◌, length}
use Rattle.cl_roster.specs.Roster.{IsClusterSize}
use Rattle.cl_runs.specs.Queues.{QueueEvent}
use Rattle.cl_runs.specs.World.{Shape}
use Rattle.cl_types.specs.declared.limits.TheConstants.{SESSIONS_MAX}
use Rattle.cl_system.specs.Firm.{AreReordered, with_order, OfFirmRuns, firm_world_after}
use Rattle.cl_system.specs.Replicas.{Mail, ReplicaWorld, after_replica_event, first_replica_world, MayReplicas, EventFits}
use Rattle.cl_system.specs.Roles.{AreInPlace}
use Rattle.cl_exchange.specs.Stage.{Stage, IsAt, view_of}

-- each session is at one stage
abbrev pub AreAtStages : Shape → ReplicaWorld → Type 0
AreAtStages shape world = (s : ℕ) → 1 ≤ s → s ≤ SESSIONS_MAX → (stage : Stage) × IsAt shape.nodes s (view_of shape.nodes world s) stage

-- what holds between two events
pub record IsSoundWorld (shape : Shape) (world : ReplicaWorld) : Type 0 where
  pub places : AreInPlace shape world
  pub stages : AreAtStages shape world
  pub sessions : length world.front.sessions ≡ SESSIONS_MAX

-- it holds at the start
abbrev pub SoundAtFirst : Type 0
SoundAtFirst = (shape : Shape) → IsClusterSize shape.nodes shape.spares → IsSoundWorld shape (first_replica_world shape)

-- each event that may happen fits
abbrev pub EventsFit : Type 0
EventsFit = (shape : Shape) (world : ReplicaWorld) (event : QueueEvent) → IsClusterSize shape.nodes shape.spares → IsSoundWorld shape world → MayReplicas world event → EventFits shape world event

-- and keeps it so
abbrev pub EventsKeepSound : Type 0
EventsKeepSound = (shape : Shape) (world : ReplicaWorld) (event : QueueEvent) → IsClusterSize shape.nodes shape.spares → IsSoundWorld shape world → MayReplicas world event →
    IsSoundWorld shape (after_replica_event shape world event)

-- another order of what is on its way keeps it so
abbrev pub ReorderKeepsSound : Type 0
ReorderKeepsSound = (shape : Shape) (world : ReplicaWorld) (mail : Mail) → IsClusterSize shape.nodes shape.spares → IsSoundWorld shape world → AreReordered world.mail mail →
    IsSoundWorld shape (with_order world mail)

-- so it holds after every firm run
abbrev pub FirmRunsAreSound : Type 0
FirmRunsAreSound = OfFirmRuns (λ shape events. IsSoundWorld shape (firm_world_after shape events).world)
