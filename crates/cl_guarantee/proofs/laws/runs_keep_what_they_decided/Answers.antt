use Rattle.cl_guarantee.proofs.EveryRun.{histories_go_on, logs_go_on}
use Rattle.cl_guarantee.proofs.laws.runs_keep_what_they_decided.Goals as goal

pub returns-clause-histories : goal.returns-clause-histories
returns-clause-histories c = histories_go_on

pub returns-clause-logs : goal.returns-clause-logs
returns-clause-logs c = logs_go_on
