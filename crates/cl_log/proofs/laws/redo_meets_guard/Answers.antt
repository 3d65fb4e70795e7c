use Rattle.cl_log.proofs.Store.{redone_meets_guard}
use Rattle.cl_log.proofs.laws.redo_meets_guard.Goals as goal

pub returns : goal.returns
returns c = redone_meets_guard
