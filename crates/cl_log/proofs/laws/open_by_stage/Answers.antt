use Rattle.cl_log.proofs.Open.{is_open-stage}
use Rattle.cl_log.proofs.laws.open_by_stage.Goals as goal

pub returns : goal.returns
returns c = is_open-stage
