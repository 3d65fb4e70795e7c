use Rattle.cl_guarantee.proofs.EveryRun.{replicas_agree}
use Rattle.cl_guarantee.proofs.laws.replicas_agree_with_history.Goals as goal

pub returns : goal.returns
returns c = replicas_agree
