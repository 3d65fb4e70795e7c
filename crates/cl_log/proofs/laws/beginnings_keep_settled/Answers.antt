use Rattle.cl_log.proofs.Beginnings.{settled-beginning}
use Rattle.cl_log.proofs.laws.beginnings_keep_settled.Goals as goal

pub returns : goal.returns
returns c entries front lost n history = settled-beginning history entries front lost n
