use Rattle.cl_actor.proofs.Primaries.{primary_is_actor}
use Rattle.cl_actor.proofs.laws.primaries_are_actors.Goals as goal

pub returns : goal.returns
returns c = primary_is_actor
