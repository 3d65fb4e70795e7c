use Rattle.cl_front.proofs.Numbers.{numbers-first, numbers-fed, numbers-delivered, numbers-line_fits, numbers-outcome_fits}
use Rattle.cl_front.proofs.laws.numbers_grow_by_one.Goals as goal

pub returns : goal.returns
returns c = record {
  at_first = numbers-first;
  after_line = numbers-fed;
  after_message = numbers-delivered;
  line_fits = numbers-line_fits;
  outcome_fits = numbers-outcome_fits;
}
