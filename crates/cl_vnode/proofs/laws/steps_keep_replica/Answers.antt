use Rattle.cl_vnode.proofs.Keeping.{steps_keep_replica}
use Rattle.cl_vnode.proofs.laws.steps_keep_replica.Goals as goal

pub returns : goal.returns
returns c = steps_keep_replica
