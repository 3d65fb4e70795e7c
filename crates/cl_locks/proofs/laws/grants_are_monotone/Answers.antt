use Rattle.cl_locks.proofs.Monotone.{are_compatible-beginning, first_conflict-weaker}
use Rattle.cl_locks.proofs.laws.grants_are_monotone.Goals as goal

pub returns : goal.returns
returns c = record { beginning = are_compatible-beginning; weaker = first_conflict-weaker }
