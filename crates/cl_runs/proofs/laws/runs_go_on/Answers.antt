use Rattle.cl_runs.proofs.Runs.{runs_are_wide, runs_go_on, watching_leaves_world}
use Rattle.cl_runs.proofs.laws.runs_go_on.Goals as goal

pub returns-clause-wide : goal.returns-clause-wide
returns-clause-wide g c = runs_are_wide

pub returns-clause-more : goal.returns-clause-more
returns-clause-more g c = runs_go_on

pub returns-clause-watched : goal.returns-clause-watched
returns-clause-watched g c = watching_leaves_world
