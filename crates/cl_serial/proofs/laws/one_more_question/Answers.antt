use Rattle.cl_serial.proofs.Steps.{exchanges-asked, session_state-asked}
use Rattle.cl_serial.proofs.laws.one_more_question.Goals as goal

pub returns : goal.returns
returns c = record { exchange = exchanges-asked; session = session_state-asked }
