use Rattle.cl_vnode.proofs.States.{every_replica_has_state}
use Rattle.cl_vnode.proofs.laws.every_replica_has_state.Goals as goal

pub returns : goal.returns
returns c = every_replica_has_state
