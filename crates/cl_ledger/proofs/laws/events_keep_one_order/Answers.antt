use Rattle.cl_exchange.proofs.Runs.{events_fit}
use Rattle.cl_ledger.proofs.Events.{ledger_at_first, events_are_steps, logs_settle}
use Rattle.cl_ledger.proofs.laws.events_keep_one_order.Goals as goal

pub returns-clause-first : goal.returns-clause-first
returns-clause-first c = ledger_at_first

pub returns-clause-steps : goal.returns-clause-steps
returns-clause-steps c = events_are_steps events_fit

pub returns-clause-settle : goal.returns-clause-settle
returns-clause-settle c = logs_settle
