use Rattle.cl_served.proofs.EveryRun.{firm_runs_are_serializable}
use Rattle.cl_served.proofs.laws.firm_runs_are_serializable.Goals as goal
use Rattle.cl_shown.proofs.Runs.{session_has_outstanding, firm_runs_are_well_shown}

pub returns : goal.returns
returns c = firm_runs_are_serializable session_has_outstanding firm_runs_are_well_shown
