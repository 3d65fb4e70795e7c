use Rattle.cl_front.proofs.Sends.{line_goes, message_goes}
use Rattle.cl_front.proofs.laws.fronts_send_to_actors.Goals as goal

pub returns : goal.returns
returns c = record {
  on_line = λ noted state line text said is. line_goes noted is state line text said;
  on_message = λ noted state from content mark is. message_goes noted is state from content mark;
}
