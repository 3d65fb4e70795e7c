use Rattle.cl_part.proofs.Rollback.{undo_takes_first, undo_keeps_map}
use Rattle.cl_part.proofs.laws.rollback_continues.Goals as goal

pub returns-clause-first : goal.returns-clause-first
returns-clause-first c = undo_takes_first

pub returns-clause-map : goal.returns-clause-map
returns-clause-map c = undo_keeps_map
