-- What holds of every run of the cluster: it is one of pairs, and each input fits.
use Rattle.std.specs.Prelude.{ℕ, All}
use Rattle.cl_pairs.specs.Pairs.{PairWorld, after_pair_event, first_pair_world, MayPairs, IsPairRun}
use Rattle.cl_roster.specs.Roster.{IsClusterSize}
use Rattle.cl_runs.specs.Queues.{QueueWorld, QueueEvent, watched_after, queue_world_of, after_queue_event, IsQueueEnabled, first_queue_world}
use Rattle.cl_runs.specs.World.{Shape, Happening, Run, world_after, IsEnabledWidely, IsWideRun}
use Rattle.cl_seen.specs.Ways.{IsPairAddressed}
use Rattle.cl_system.specs.System.{Core, system}
use Rattle.cl_cluster.specs.Alike.{AreAlike, pair_events_of, pairs_after}
use Rattle.cl_cluster.specs.Fitting.{HappeningFits}

-- cores and pairs are alike at the start
abbrev pub AlikeAtFirst : Type 0
AlikeAtFirst = (shape : Shape) → IsClusterSize shape.nodes shape.spares → AreAlike shape (first_queue_world (system shape.nodes)) (first_pair_world shape)

-- an event that may happen leaves them alike, where each message goes between the actors that its kind names
abbrev pub EventsKeepAlike : Type 0
EventsKeepAlike = (shape : Shape) (cores : QueueWorld Core) (pairs : PairWorld) (event : QueueEvent) → IsClusterSize shape.nodes shape.spares →
    AreAlike shape cores pairs → ((from to : ℕ) → All (IsPairAddressed shape.nodes from to) (pairs.mail from to)) → IsQueueEnabled shape cores event →
    AreAlike shape (after_queue_event (system shape.nodes) shape cores event) (after_pair_event shape pairs event)

-- what may happen to cores and queues may happen to pairs
abbrev pub AlikeMay : Type 0
AlikeMay = (shape : Shape) (cores : QueueWorld Core) (pairs : PairWorld) (event : QueueEvent) → AreAlike shape cores pairs → IsQueueEnabled shape cores event → MayPairs pairs event

-- a run of the cluster is one of pairs
pub record IsPairRunOf (shape : Shape) (run : Run) : Type 0 where
  pub is : IsPairRun shape (pair_events_of shape run)
  pub alike : AreAlike shape (queue_world_of (watched_after (system shape.nodes) shape run)) (pairs_after shape run)

-- so is each wide run
abbrev pub RunsArePairRuns : Type 0
RunsArePairRuns = (shape : Shape) (run : Run) → IsClusterSize shape.nodes shape.spares → IsWideRun (system shape.nodes) shape run → IsPairRunOf shape run

-- in each wide run what may happen fits
abbrev pub EveryInputFits : Type 0
EveryInputFits = (shape : Shape) (run : Run) (happening : Happening) → IsClusterSize shape.nodes shape.spares → IsWideRun (system shape.nodes) shape run →
    IsEnabledWidely shape (world_after (system shape.nodes) shape run) happening → HappeningFits (world_after (system shape.nodes) shape run) happening
