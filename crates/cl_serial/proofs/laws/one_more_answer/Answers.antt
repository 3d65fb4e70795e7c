use Rattle.cl_serial.proofs.Steps.{exchanges-answered, session_state-answered}
use Rattle.cl_serial.proofs.laws.one_more_answer.Goals as goal

pub returns : goal.returns
returns c = record { exchange = exchanges-answered; session = session_state-answered }
