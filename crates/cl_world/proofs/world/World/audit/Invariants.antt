use Rattle.std.proofs.Common.{◌*◌, ◌^◌, ◌≤◌}
use Rattle.cl_runs.specs.World.{Shape, Run}
use Rattle.cl_world.specs.World.{IsWorldOf, IsWhole, moment_after}
use Rattle.cl_world.proofs.Audits.{AreCounted}
use Rattle.cl_world.proofs.world.World.audit.Given as goal

abbrev pub invariant-loop-v : goal.invariant-loop-v
invariant-loop-v l = record {
  few : l.live ≤ l.v * 2 ^ 60;
  counted : (shape : Shape) (run : Run) → IsWorldOf shape l.self run → IsWhole shape l.self → AreCounted (moment_after shape run) l.v l.live;
}
