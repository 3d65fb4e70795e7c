use Rattle.cl_cluster.proofs.EveryRun.{every_input_fits}
use Rattle.cl_cluster.proofs.laws.every_input_fits.Goals as goal

pub returns : goal.returns
returns c = every_input_fits
