use Rattle.cl_serial.specs.Transactions.{commands_of}
use Rattle.cl_serial.proofs.Verdicts.{one_verdict, same_says_replay, fit_is_same}
use Rattle.cl_serial.proofs.WrittenAnswers.{difference_stands}
use Rattle.cl_serial.proofs.laws.there_is_one_verdict.Goals as goal

pub returns : goal.returns
returns c = record {
  one = λ transcript history verdict other h g. one_verdict (commands_of transcript) history verdict other h g;
  same = same_says_replay;
  fits = fit_is_same;
  stands = λ transcript history place told replayed h. difference_stands transcript history place told replayed h.1;
}
