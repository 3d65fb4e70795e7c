use Rattle.cl_order.proofs.LawLemmas.{steps_keep_order, steps_make_order}
use Rattle.cl_order.proofs.Readings.{spared_stay_whole, steps_go_on}
use Rattle.cl_order.proofs.laws.steps_make_order.Goals as goal

pub returns-clause-each : goal.returns-clause-each
returns-clause-each c = steps_keep_order

pub returns-clause-spared : goal.returns-clause-spared
returns-clause-spared c = spared_stay_whole

pub returns-clause-all : goal.returns-clause-all
returns-clause-all c = steps_make_order

pub returns-clause-more : goal.returns-clause-more
returns-clause-more c = steps_go_on
