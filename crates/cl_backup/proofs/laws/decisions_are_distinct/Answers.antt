use Rattle.cl_backup.proofs.Distinct.{decisions_are_distinct}
use Rattle.cl_backup.proofs.laws.decisions_are_distinct.Goals as goal

pub returns : goal.returns
returns c = decisions_are_distinct
