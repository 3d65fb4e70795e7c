use Rattle.cl_control.proofs.Decides.{nothing_aborts_after_decide}
use Rattle.cl_control.proofs.laws.nothing_aborts_after_decide.Goals as goal

pub returns : goal.returns
returns c = nothing_aborts_after_decide
