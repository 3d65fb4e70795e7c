-- Every run, with packets, with queues, and as pairs: what the crates below prove of it.
use Rattle.cl_cluster.proofs.EveryRun.{runs_are_pair_runs}
use Rattle.cl_cluster.specs.Alike.{pair_events_of, pairs_after}
use Rattle.cl_ranges.proofs.Steps.{AreTogether}
use Rattle.cl_roster.specs.Roster.{IsClusterSize}
use Rattle.cl_runs.proofs.Runs.{sound_run}
use Rattle.cl_runs.specs.Queues.{watched_after}
use Rattle.cl_runs.specs.World.{Shape, Run, IsWideRun}
use Rattle.cl_seen.proofs.EveryRun.{pair_messages_are_addressed}
use Rattle.cl_system.specs.System.{system}

-- the three after a wide run
pub together_after : (shape : Shape) (run : Run) → IsClusterSize shape.nodes shape.spares → IsWideRun (system shape.nodes) shape run →
    AreTogether shape (watched_after (system shape.nodes) shape run) (pairs_after shape run)
together_after shape run size wide =
    let pairs = runs_are_pair_runs shape run size wide in
    record {
      links = sound_run (system shape.nodes) shape run size wide;
      alike = pairs.alike;
      addressed = pair_messages_are_addressed shape (pair_events_of shape run) size pairs.is;
    }
