use Rattle.cl_shown.proofs.Runs.{firm_lines_are_fed, firm_rest_answers_all}
use Rattle.cl_shown.proofs.laws.lines_are_answered.Goals as goal

pub returns-clause-fed : goal.returns-clause-fed
returns-clause-fed c = firm_lines_are_fed

pub returns-clause-rest : goal.returns-clause-rest
returns-clause-rest c = firm_rest_answers_all
