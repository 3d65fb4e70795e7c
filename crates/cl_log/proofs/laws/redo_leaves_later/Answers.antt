use Rattle.cl_log.proofs.Store.{redone_leaves_later}
use Rattle.cl_log.proofs.laws.redo_leaves_later.Goals as goal

pub returns : goal.returns
returns c = redone_leaves_later
