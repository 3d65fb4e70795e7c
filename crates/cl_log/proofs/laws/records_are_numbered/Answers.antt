use Rattle.cl_log.proofs.LogWords.{IsNumberedFrom-entries, first_kept-length, one-le-first_kept}
use Rattle.cl_log.proofs.laws.records_are_numbered.Goals as goal

pub returns : goal.returns
returns c = record {
  positive = one-le-first_kept c.args.log.now;
  numbers = IsNumberedFrom-entries c.args.log.now;
  next = first_kept-length c.args.log.now;
}
