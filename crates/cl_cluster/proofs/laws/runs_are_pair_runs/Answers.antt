use Rattle.cl_cluster.proofs.Alike.{alike_at_first, events_keep_alike, alike_may}
use Rattle.cl_cluster.proofs.EveryRun.{runs_are_pair_runs}
use Rattle.cl_cluster.proofs.laws.runs_are_pair_runs.Goals as goal

pub returns-clause-first : goal.returns-clause-first
returns-clause-first c = alike_at_first

pub returns-clause-keeps : goal.returns-clause-keeps
returns-clause-keeps c = events_keep_alike

pub returns-clause-may : goal.returns-clause-may
returns-clause-may c = alike_may

pub returns-clause-runs : goal.returns-clause-runs
returns-clause-runs c = runs_are_pair_runs
