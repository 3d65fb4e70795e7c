use Rattle.cl_control.proofs.GivenActs.{committed_when_safe}
use Rattle.cl_control.proofs.laws.committed_is_said_when_safe.Goals as goal

pub returns : goal.returns
returns c = committed_when_safe
