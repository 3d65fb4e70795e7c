use Rattle.cl_redo.proofs.InTurn.{taken_from_first, taken_locks_from_none}
use Rattle.cl_redo.proofs.laws.taking_gives_store_and_locks.Goals as goal

pub returns-clause-whole : goal.returns-clause-whole
returns-clause-whole c = taken_from_first

pub returns-clause-locks : goal.returns-clause-locks
returns-clause-locks c = taken_locks_from_none
