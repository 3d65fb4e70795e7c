use Rattle.cl_log.proofs.Lawful.{times_undone-le_one}
use Rattle.cl_log.proofs.laws.writes_undone_once.Goals as goal

pub returns : goal.returns
returns c = times_undone-le_one
