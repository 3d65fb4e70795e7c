-- What the events of a run of the cluster are for the firm system.
use Rattle.std.specs.Prelude.{List}
use Rattle.cl_cluster.specs.Alike.{pair_events_of}
use Rattle.cl_runs.specs.World.{Shape, Run}
use Rattle.cl_seen.specs.Seen.{seen_events}
use Rattle.cl_system.specs.Firm.{FirmEvent}

-- what a run is for the firm system
abbrev pub firm_events_of : Shape → Run → List FirmEvent
firm_events_of shape run = seen_events shape (pair_events_of shape run)
