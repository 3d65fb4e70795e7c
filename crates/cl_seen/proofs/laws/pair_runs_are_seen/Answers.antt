use Rattle.cl_seen.proofs.EveryRun.{pair_runs_are_seen, pair_inputs_fit, pair_messages_are_addressed}
use Rattle.cl_seen.proofs.laws.pair_runs_are_seen.Goals as goal

pub returns-clause-seen : goal.returns-clause-seen
returns-clause-seen c = pair_runs_are_seen

pub returns-clause-fits : goal.returns-clause-fits
returns-clause-fits c = pair_inputs_fit

pub returns-clause-addressed : goal.returns-clause-addressed
returns-clause-addressed c = pair_messages_are_addressed
