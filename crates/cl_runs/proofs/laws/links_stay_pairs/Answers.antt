use Rattle.cl_runs.proofs.Runs.{actors_are_linked, endpoints_are_shaped}
use Rattle.cl_runs.proofs.laws.links_stay_pairs.Goals as goal

pub returns-clause-linked : goal.returns-clause-linked
returns-clause-linked g c = actors_are_linked

pub returns-clause-shaped : goal.returns-clause-shaped
returns-clause-shaped g c = endpoints_are_shaped
