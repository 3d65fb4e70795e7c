use Rattle.std.proofs.Common.{drop}
use Rattle.cl_runs.specs.World.{Shape, Run}
use Rattle.cl_world.specs.Running.{MayRun}
use Rattle.cl_world.proofs.Follows.{IsRunning}
use Rattle.cl_world.proofs.world.World.run_events.Given as goal

abbrev pub invariant-loop-event : goal.invariant-loop-event
invariant-loop-event l = (shape : Shape) (run : Run) → MayRun shape l.initial.self run l.events → IsRunning shape l.initial.self l.self run l.events (drop l.event-index l.events)
