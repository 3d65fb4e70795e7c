-- The laws of what the transcript shows.
use Rattle.cl_exchange.specs.Laws.{IsSoundWorld}
use Rattle.cl_roster.specs.Roster.{IsClusterSize}
use Rattle.cl_runs.specs.Queues.{QueueEvent}
use Rattle.cl_runs.specs.World.{Shape}
use Rattle.cl_system.specs.Firm.{AreReordered, with_order, OfFirmRuns, firm_world_after}
use Rattle.cl_system.specs.Replicas.{Mail, ReplicaWorld, after_replica_event, first_replica_world, MayReplicas}
use Rattle.cl_told.specs.Told.{SessionsAreTold}

-- so it is at the start
abbrev pub ToldAtFirst : Type 0
ToldAtFirst = (shape : Shape) → IsClusterSize shape.nodes shape.spares → SessionsAreTold shape (first_replica_world shape)

-- and after each event that may happen
abbrev pub EventsKeepTold : Type 0
EventsKeepTold = (shape : Shape) (world : ReplicaWorld) (event : QueueEvent) → IsClusterSize shape.nodes shape.spares → IsSoundWorld shape world → SessionsAreTold shape world → MayReplicas world event →
    SessionsAreTold shape (after_replica_event shape world event)

-- and after another order of what is on its way
abbrev pub ReorderKeepsTold : Type 0
ReorderKeepsTold = (shape : Shape) (world : ReplicaWorld) (mail : Mail) → IsClusterSize shape.nodes shape.spares → IsSoundWorld shape world → SessionsAreTold shape world → AreReordered world.mail mail →
    SessionsAreTold shape (with_order world mail)

-- so it is after every firm run
abbrev pub FirmRunsAreTold : Type 0
FirmRunsAreTold = OfFirmRuns (λ shape events. SessionsAreTold shape (firm_world_after shape events).world)
