use Rattle.cl_runs.proofs.NeverStops.{nobody_stops}
use Rattle.cl_runs.proofs.laws.nobody_stops.Goals as goal

pub returns : goal.returns
returns g c = nobody_stops
