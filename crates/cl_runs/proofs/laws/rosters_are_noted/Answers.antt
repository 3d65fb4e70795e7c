use Rattle.cl_runs.proofs.Runs.{rosters_are_noted}
use Rattle.cl_runs.proofs.laws.rosters_are_noted.Goals as goal

pub returns : goal.returns
returns g c = rosters_are_noted
