use Rattle.cl_redo.proofs.InTurn.{taken_on_copy, taken_meets_writes}
use Rattle.cl_redo.proofs.laws.taking_on_a_copy.Goals as goal

pub returns-clause-later : goal.returns-clause-later
returns-clause-later c = taken_on_copy

pub returns-clause-meets : goal.returns-clause-meets
returns-clause-meets c = taken_meets_writes
