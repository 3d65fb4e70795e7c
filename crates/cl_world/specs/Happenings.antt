-- Events and traces as the definitions of runs see them.
use Rattle.std.specs.Prelude.{Bool, List, map}
use Rattle.cl_post.specs.declared.event.Event.{Event}
use Rattle.cl_post.specs.declared.event.Event.TheVariants.{Handle, Tick, Feed, Quiet}
use Rattle.cl_runs.specs.World.{Happening, handle, tick, feed, quiet, Run}
use Rattle.cl_types.specs.GrowingList.{items}

-- what happened in an event
abbrev pub happening_of : Event → Happening
happening_of (Handle actor id) = handle actor id
happening_of (Tick actor) = tick actor
happening_of (Feed number text said) = feed number (items text) (items said)
happening_of Quiet = quiet

-- an event with its mark
abbrev pub marked_of : Event × Bool → Happening × Bool
marked_of event = (happening_of event.0, event.1)

-- the run of which this is the trace
abbrev pub run_of : List (Event × Bool) → Run
run_of trace = map marked_of trace
