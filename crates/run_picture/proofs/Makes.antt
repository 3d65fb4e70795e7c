-- What may be made of a world, and what it then is.
use Rattle.std.proofs.Common.{◌≡◌, ◌↔◌, Bool, true, IsTrue, List, [], ◌∷◌, ◌++◌}
use Rattle.cl_post.specs.declared.event.Event.{Event}
use Rattle.cl_runs.specs.World.{Shape, Run, IsEnabled}
use Rattle.cl_system.specs.System.{system}
use Rattle.cl_world.specs.Happenings.{happening_of}
use Rattle.cl_world.specs.Mail.{IsStillKept}
use Rattle.cl_world.specs.Running.{HasRun, MayRun}
use Rattle.cl_world.specs.World.{IsWorldOf, IsWhole, moment_after}
use Rattle.cl_world.specs.declared.world.World.{World}
use Rattle.cl_world.proofs.Follows.{may_run_one}
use Rattle.run_picture.specs.Ready.{IsReady}

-- an event that is enabled may be made
pub may_make : (made : World) (event : Event) (enabled : Bool) → IsReady made →
    ((shape : Shape) (run : Run) → IsWorldOf shape made run → IsWhole shape made
    → IsTrue enabled ↔ (IsEnabled (system shape.nodes) shape (moment_after shape run) (happening_of event) × IsStillKept made.mail event)) →
    enabled ≡ true → (shape : Shape) × (run : Run) × MayRun shape made run (event ∷ [])
may_make made event enabled ready told is =
    let may = (told ready.0 ready.1 ready.2 ready.3).0 is in
    (ready.0, ready.1, may_run_one ready.0 made ready.1 event ready.2 ready.3 may.0 may.1)

-- a world of which events were made is ready
pub made_ready : (before after : World) (events : List Event) → (shape : Shape) × (run : Run) × MayRun shape before run events →
    ((shape : Shape) (run : Run) → MayRun shape before run events → HasRun shape before after run events) → IsReady after
made_ready before after events may made =
    let done = made may.0 may.1 may.2 in
    (may.0, may.1 ++ done.more, done.is, done.whole)
