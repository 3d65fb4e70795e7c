use Rattle.cl_log.proofs.Locks.{locks_of_log_push}
use Rattle.cl_log.proofs.laws.locks_follow_records.Goals as goal

pub returns : goal.returns
returns c = locks_of_log_push
