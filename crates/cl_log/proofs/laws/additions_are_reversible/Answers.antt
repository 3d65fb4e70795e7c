use Rattle.cl_log.proofs.Reversible.{IsReversible-add}
use Rattle.cl_log.proofs.laws.additions_are_reversible.Goals as goal

pub returns : goal.returns
returns c = IsReversible-add
