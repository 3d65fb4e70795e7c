use Rattle.cl_serial.specs.Transcript.{fed_line, asked_in, answered_in, faulty_in, refused_in}
use Rattle.cl_serial.proofs.Gathered.{gather-push}
use Rattle.cl_serial.proofs.Steps.{exchanges-other, full_text-push}
use Rattle.cl_serial.proofs.laws.one_more_entry.Goals as goal

pub returns : goal.returns
returns c = record {
  question = λ session. gather-push (asked_in session);
  answer = λ session. gather-push (answered_in session);
  line = gather-push fed_line;
  fault = gather-push faulty_in;
  refusal = gather-push refused_in;
  text = full_text-push;
  neither = exchanges-other;
}
