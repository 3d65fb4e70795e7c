-- What holds of the system and of its replicas.
use Rattle.cl_roster.specs.Roster.{IsClusterSize}
use Rattle.cl_runs.specs.Queues.{QueueEvent}
use Rattle.cl_runs.specs.World.{Shape}
use Rattle.cl_system.specs.Replicas.{ReplicaWorld, after_replica_event, first_replica_world, MayReplicas, EventFits}
use Rattle.cl_system.specs.Roles.{AreInPlace}

-- at the start all is in its place
abbrev pub InPlaceAtFirst : Type 0
InPlaceAtFirst = (shape : Shape) → IsClusterSize shape.nodes shape.spares → AreInPlace shape (first_replica_world shape)

-- an event that may happen and fits leaves all in its place
abbrev pub EventsKeepPlaces : Type 0
EventsKeepPlaces = (shape : Shape) (world : ReplicaWorld) (event : QueueEvent) → IsClusterSize shape.nodes shape.spares →
    AreInPlace shape world → MayReplicas world event → EventFits shape world event → AreInPlace shape (after_replica_event shape world event)
