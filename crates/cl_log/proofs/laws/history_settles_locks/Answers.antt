use Rattle.cl_log.proofs.Settled.{settled_with-elsewhere, settled_at-member}
use Rattle.cl_log.proofs.laws.history_settles_locks.Goals as goal

pub returns : goal.returns
returns c = λ entries history txn place. (settled_with-elsewhere entries history txn place, settled_at-member entries history txn place)
