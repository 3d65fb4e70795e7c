use Rattle.cl_members.proofs.Longer.{events_go_on}
use Rattle.cl_members.proofs.Runs.{runs_are_firm_runs}
use Rattle.cl_members.proofs.laws.runs_are_firm_runs.Goals as goal

pub returns-clause-firm : goal.returns-clause-firm
returns-clause-firm c = runs_are_firm_runs

pub returns-clause-goes_on : goal.returns-clause-goes_on
returns-clause-goes_on c = events_go_on
