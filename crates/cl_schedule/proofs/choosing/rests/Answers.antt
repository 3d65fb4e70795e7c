use Rattle.cl_world.specs.World.{moment_after}
use Rattle.cl_world.proofs.Stops.{nobody_has_stopped}
use Rattle.cl_schedule.proofs.Resting.{quiet_is}
use Rattle.cl_schedule.proofs.choosing.rests.Goals as goal

pub returns : goal.returns
returns c = λ shape run sound. quiet_is shape (moment_after shape run) (nobody_has_stopped shape _ run sound.is) c.quiet.result
    (c.quiet.ensures shape run sound.is sound.whole)
