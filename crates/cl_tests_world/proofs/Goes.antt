-- One event of a world that is ready.
use Rattle.std.proofs.Common.{List, Result, Ok, Err, OnOk, ◌++◌}
use Rattle.cl_post.specs.declared.event.Event.{Event}
use Rattle.cl_runs.specs.World.{Shape, Run}
use Rattle.cl_types.specs.declared.answers.Refused.{Refused}
use Rattle.cl_world.specs.Running.{IsRunOn}
use Rattle.cl_world.specs.declared.world.World.{World}
use Rattle.cl_tests_world.specs.Ready.{IsReady}

-- a world that has made events is ready for the next
pub still_ready : (shape : Shape) (before after : World) (run : Run) (events : List Event) (result : Result (Unit {0}) Refused) → IsRunOn shape before after run events result → OnOk result (IsReady after)
still_ready shape before after run events (Ok done) has = record { shape = shape; run = run ++ has.more; is = has.is; whole = has.whole }
still_ready shape before after run events (Err refused) stopped = tt
