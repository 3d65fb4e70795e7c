use Rattle.cl_served.proofs.EveryRun.{ledgers_are_shown}
use Rattle.cl_shown.proofs.Runs.{session_has_outstanding, firm_runs_are_well_shown}
use Rattle.cl_settled.proofs.Agreeing.{unbroken_replay, broken_stay_out}
use Rattle.cl_settled.proofs.laws.transactions_are_whole.Goals as goal

pub returns-clause-unbroken : goal.returns-clause-unbroken
returns-clause-unbroken c = unbroken_replay (ledgers_are_shown session_has_outstanding firm_runs_are_well_shown)

pub returns-clause-broken : goal.returns-clause-broken
returns-clause-broken c = broken_stay_out
