use Rattle.cl_log.proofs.Settled.{settled_at-free}
use Rattle.cl_log.proofs.laws.free_places_are_settled.Goals as goal

pub returns : goal.returns
returns c = settled_at-free
