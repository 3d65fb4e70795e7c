use Rattle.cl_held.proofs.EveryRun.{pairs_hold}
use Rattle.cl_held.proofs.laws.pairs_hold.Goals as goal

pub returns : goal.returns
returns c = pairs_hold
