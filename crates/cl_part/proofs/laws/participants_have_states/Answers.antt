use Rattle.cl_part.proofs.States.{every_part_has_state}
use Rattle.cl_part.proofs.laws.participants_have_states.Goals as goal

pub returns : goal.returns
returns c = every_part_has_state
