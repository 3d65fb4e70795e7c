use Rattle.cl_guarantee.proofs.EveryRun.{runs_name_true_causes}
use Rattle.cl_guarantee.proofs.laws.causes_are_true.Goals as goal

pub returns : goal.returns
returns c = runs_name_true_causes
