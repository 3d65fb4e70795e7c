use Rattle.cl_log.proofs.Conflicts.{is_undone-next}
use Rattle.cl_log.proofs.laws.next_is_not_undone.Goals as goal

pub returns : goal.returns
returns c entries n number = is_undone-next n entries number
