use Rattle.std.proofs.Common.{◌≡◌, ◌∷◌}
use Rattle.std.specs.List.{filter, range_with_len}
use Rattle.cl_endpoint.specs.Endpoint.{is_waiting}
use Rattle.cl_runs.specs.World.{Shape, Run}
use Rattle.cl_steps.specs.declared.actors.TheConstants.{FRONT}
use Rattle.cl_world.specs.World.{moment_after}
use Rattle.cl_schedule.specs.Making.{IsSound}
use Rattle.cl_schedule.proofs.choosing.waiting_actors.Given as goal

abbrev pub invariant-loop-index : goal.invariant-loop-index
invariant-loop-index l = (shape : Shape) (run : Run) → IsSound shape l.world run →
    l.actors.items ≡ filter (λ actor. is_waiting ((moment_after shape run).actors actor).endpoint) (FRONT ∷ range_with_len 0 l.index)
