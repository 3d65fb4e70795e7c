-- In the run of a world nobody stops.
use Rattle.std.proofs.Common.{refl}
use Rattle.cl_runs.proofs.NeverStops.{nobody_stops}
use Rattle.cl_runs.proofs.Runs.{runs_are_wide}
use Rattle.cl_runs.specs.Laws.{IsWithoutStops}
use Rattle.cl_runs.specs.World.{Shape, Run}
use Rattle.cl_system.specs.System.{system}
use Rattle.cl_world.specs.World.{IsWorldOf, moment_after}
use Rattle.cl_world.specs.declared.world.World.{World}

pub nobody_has_stopped : (shape : Shape) (made : World) (run : Run) → IsWorldOf shape made run → IsWithoutStops (moment_after shape run)
nobody_has_stopped shape made run is =
    nobody_stops (system shape.nodes) shape run is.now.size (runs_are_wide (system shape.nodes) shape run is.is_run) (λ known state n. refl)
