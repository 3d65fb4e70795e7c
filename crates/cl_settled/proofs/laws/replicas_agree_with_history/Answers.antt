use Rattle.cl_served.proofs.EveryRun.{ledgers_are_shown}
use Rattle.cl_shown.proofs.Runs.{session_has_outstanding, firm_runs_are_well_shown}
use Rattle.cl_settled.proofs.Agreeing.{replicas_agree}
use Rattle.cl_settled.proofs.laws.replicas_agree_with_history.Goals as goal

pub returns : goal.returns
returns c = replicas_agree (ledgers_are_shown session_has_outstanding firm_runs_are_well_shown)
