use Rattle.cl_runs.proofs.Runs.{quiet_empties_queues}
use Rattle.cl_runs.proofs.laws.quiet_empties_queues.Goals as goal

pub returns : goal.returns
returns g c = quiet_empties_queues
