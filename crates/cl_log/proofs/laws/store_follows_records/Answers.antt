use Rattle.cl_log.proofs.Store.{store_of_log_push}
use Rattle.cl_log.proofs.laws.store_follows_records.Goals as goal

pub returns : goal.returns
returns c = store_of_log_push
