use Rattle.cl_serial.proofs.Replayed.{RepliesAgree-append, RepliesAgree-front, RepliesAgree-back}
use Rattle.cl_serial.proofs.Steps.{operations_of-append, values_after-append}
use Rattle.cl_serial.proofs.laws.replays_join.Goals as goal

pub returns : goal.returns
returns c = record {
  operations = operations_of-append;
  values = values_after-append;
  replies = λ values front back.
      (λ h. (RepliesAgree-front values front back h, RepliesAgree-back values front back h), λ h. RepliesAgree-append values front back h.0 h.1);
}
