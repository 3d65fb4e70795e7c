use Rattle.cl_guarantee.proofs.EveryRun.{runs_are_serializable}
use Rattle.cl_guarantee.proofs.laws.runs_are_serializable.Goals as goal

pub returns : goal.returns
returns c = runs_are_serializable
