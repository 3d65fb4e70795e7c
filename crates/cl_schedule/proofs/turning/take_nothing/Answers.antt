use Rattle.cl_schedule.proofs.Turned.{nothing_turned}
use Rattle.cl_schedule.proofs.turning.take_nothing.Goals as goal

pub returns : goal.returns
returns c = λ shape setting fates lines course may. nothing_turned shape setting c.args.world.now c.args.progress.now lines course may fates
