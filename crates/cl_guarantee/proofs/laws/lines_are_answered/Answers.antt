use Rattle.cl_guarantee.proofs.EveryRun.{lines_are_fed, rest_answers_all}
use Rattle.cl_guarantee.proofs.laws.lines_are_answered.Goals as goal

pub returns-clause-fed : goal.returns-clause-fed
returns-clause-fed c = lines_are_fed

pub returns-clause-rest : goal.returns-clause-rest
returns-clause-rest c = rest_answers_all
