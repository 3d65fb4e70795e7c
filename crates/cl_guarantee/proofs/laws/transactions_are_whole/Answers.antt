use Rattle.cl_guarantee.proofs.EveryRun.{runs_keep_broken_out, runs_replay_unbroken}
use Rattle.cl_guarantee.proofs.laws.transactions_are_whole.Goals as goal

pub returns-clause-unbroken : goal.returns-clause-unbroken
returns-clause-unbroken c = runs_replay_unbroken

pub returns-clause-broken : goal.returns-clause-broken
returns-clause-broken c = runs_keep_broken_out
