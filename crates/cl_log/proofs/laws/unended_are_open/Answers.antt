use Rattle.cl_log.proofs.Unended.{IsDistinct-unended_of, is_among-unended_of}
use Rattle.cl_log.proofs.UnendedOrder.{unended_by_first_number}
use Rattle.cl_log.proofs.laws.unended_are_open.Goals as goal

pub returns-clause-open : goal.returns-clause-open
returns-clause-open c = λ entries. (IsDistinct-unended_of entries, is_among-unended_of entries)

pub returns-clause-order : goal.returns-clause-order
returns-clause-order c = unended_by_first_number
