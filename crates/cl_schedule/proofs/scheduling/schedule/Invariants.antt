use Rattle.std.proofs.Common.{◌-◌}
use Rattle.cl_runs.specs.World.{Shape, Run}
use Rattle.cl_world.specs.World.{IsWorldOf, IsWhole}
use Rattle.cl_schedule.specs.Making.{texts_of}
use Rattle.cl_schedule.proofs.Scheduled.{IsTurning}
use Rattle.cl_schedule.proofs.scheduling.schedule.Given as goal

abbrev pub invariant-turns : goal.invariant-turns
invariant-turns g l = (shape : Shape) (run : Run) → IsWorldOf shape l.fn.world run → IsWhole shape l.fn.world →
    IsTurning shape l.setting (g.F.Fates.fates l.fates) l.fn.world l.world l.progress (texts_of l.lines) run

abbrev pub decreases-turns : goal.decreases-turns
decreases-turns g l = l.setting.turns - l.progress.turns
