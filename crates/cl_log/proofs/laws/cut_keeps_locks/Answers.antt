use Rattle.cl_log.proofs.Cut.{locks_of_cut}
use Rattle.cl_log.proofs.laws.cut_keeps_locks.Goals as goal

pub returns : goal.returns
returns c = locks_of_cut
