use Rattle.cl_served.proofs.EveryRun.{ledgers_are_shown}
use Rattle.cl_served.proofs.laws.ledgers_are_shown.Goals as goal
use Rattle.cl_shown.proofs.Runs.{session_has_outstanding, firm_runs_are_well_shown}

pub returns : goal.returns
returns c = ledgers_are_shown session_has_outstanding firm_runs_are_well_shown
