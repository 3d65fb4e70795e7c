use Rattle.cl_runs.proofs.Runs.{packets_are_faithful}
use Rattle.cl_runs.proofs.laws.packets_say_what_is_so.Goals as goal

pub returns : goal.returns
returns g c = packets_are_faithful
