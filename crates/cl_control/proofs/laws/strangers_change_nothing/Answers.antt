use Rattle.cl_control.proofs.GivenActs.{strangers_change_nothing}
use Rattle.cl_control.proofs.laws.strangers_change_nothing.Goals as goal

pub returns : goal.returns
returns c = strangers_change_nothing
