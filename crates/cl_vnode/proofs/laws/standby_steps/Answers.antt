use Rattle.cl_vnode.proofs.Keeping.{standby_steps_keep_replica}
use Rattle.cl_vnode.proofs.Receivers.{standby_steps_send_back}
use Rattle.cl_vnode.proofs.laws.standby_steps.Goals as goal

pub returns-clause-replica : goal.returns-clause-replica
returns-clause-replica c = standby_steps_keep_replica

pub returns-clause-receivers : goal.returns-clause-receivers
returns-clause-receivers c = standby_steps_send_back
