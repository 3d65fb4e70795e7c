-- The laws of two-phase commit.
use Rattle.cl_roster.specs.Roster.{IsClusterSize}
use Rattle.cl_runs.specs.Queues.{QueueEvent}
use Rattle.cl_runs.specs.World.{Shape}
use Rattle.cl_system.specs.Firm.{AreReordered, with_order, OfFirmRuns, firm_world_after}
use Rattle.cl_system.specs.Replicas.{Mail, ReplicaWorld, after_replica_event, first_replica_world, MayReplicas}
use Rattle.cl_types.specs.declared.operations.TxnId.{TxnId}
use Rattle.cl_exchange.specs.Laws.{IsSoundWorld}
use Rattle.cl_commit.specs.Life.{CommitsWhole, aborted, IsSoFar}

-- it holds at the start
abbrev pub WholeAtFirst : Type 0
WholeAtFirst = (shape : Shape) → IsClusterSize shape.nodes shape.spares → CommitsWhole shape (first_replica_world shape)

-- each event that may happen keeps it so
abbrev pub EventsKeepWhole : Type 0
EventsKeepWhole = (shape : Shape) (world : ReplicaWorld) (event : QueueEvent) → IsClusterSize shape.nodes shape.spares → IsSoundWorld shape world → CommitsWhole shape world → MayReplicas world event →
    CommitsWhole shape (after_replica_event shape world event)

-- each such event leaves a transaction that was aborted so, and no member
abbrev pub AbortedStayOut : Type 0
AbortedStayOut = (shape : Shape) (world : ReplicaWorld) (event : QueueEvent) (txn : TxnId) → IsClusterSize shape.nodes shape.spares → IsSoundWorld shape world → CommitsWhole shape world → MayReplicas world event →
    IsSoFar shape.nodes world txn aborted → IsSoFar shape.nodes (after_replica_event shape world event) txn aborted

-- another order of what is on its way keeps it so
abbrev pub ReorderKeepsWhole : Type 0
ReorderKeepsWhole = (shape : Shape) (world : ReplicaWorld) (mail : Mail) → IsClusterSize shape.nodes shape.spares → CommitsWhole shape world → AreReordered world.mail mail →
    CommitsWhole shape (with_order world mail)

-- so it holds after every firm run
abbrev pub FirmRunsAreWhole : Type 0
FirmRunsAreWhole = OfFirmRuns (λ shape events. CommitsWhole shape (firm_world_after shape events).world)
