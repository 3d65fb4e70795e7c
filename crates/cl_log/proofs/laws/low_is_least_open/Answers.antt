use Rattle.cl_log.proofs.Low.{low_is_least_open}
use Rattle.cl_log.proofs.laws.low_is_least_open.Goals as goal

pub returns : goal.returns
returns c = low_is_least_open
