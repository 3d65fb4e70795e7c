use Rattle.cl_paired.proofs.laws.acknowledgements_tell.Goals as goal
use Rattle.cl_paired.proofs.Acknowledging.{acks_tell}

pub returns : goal.returns
returns c = acks_tell
