-- What a list of events makes of a world.
use Rattle.std.specs.Prelude.{◌≡◌, Bool, true, false, List, [], ◌∷◌, ◌++◌, map, Result, Ok, Err}
use Rattle.std.specs.List.{All}
use Rattle.cl_post.specs.declared.event.Event.{Event}
use Rattle.cl_ranges.specs.Spent.{IsUnspentRun}
use Rattle.cl_runs.specs.World.{Shape, Run, Happening, IsRun, IsEnabled}
use Rattle.cl_system.specs.System.{system}
use Rattle.cl_types.specs.AppendOnlyList.{entries}
use Rattle.cl_types.specs.declared.answers.Refused.{Refused}
use Rattle.cl_types.specs.declared.answers.Refused.TheVariants.{Spent}
use Rattle.cl_world.specs.Actors.{AreAllThere, AreOthersThere}
use Rattle.cl_world.specs.Happenings.{happening_of, run_of}
use Rattle.cl_world.specs.Mail.{IsNotForgotten}
use Rattle.cl_world.specs.Taking.{IsLeftAt, KeepsEmitted, actor_of, is_event_spent, moment_with}
use Rattle.cl_world.specs.World.{Moment, IsWorldOf, IsWhole, living_in, moment_after}
use Rattle.cl_world.specs.declared.world.World.{World}

-- the events may be made in turn from this moment on, whatever marks they have
unfoldable pub MayFollow : Shape → Moment → List Event → Type 0
MayFollow shape moment [] = Unit {0}
MayFollow shape moment (event ∷ events) =
    IsEnabled (system shape.nodes) shape moment (happening_of event) × ((mark : Bool) → MayFollow shape (moment_with shape moment event mark) events)

-- a world that has made this run may make these events: none of their packets is forgotten
pub record MayRun (shape : Shape) (made : World) (run : Run) (events : List Event) : Type 0 where
  pub is : IsWorldOf shape made run
  pub whole : IsWhole shape made
  pub follow : MayFollow shape (moment_after shape run) events
  pub kept : All (IsNotForgotten (living_in shape) made.mail (moment_after shape run).packets) events

-- what happened, without marks
abbrev pub happened : Run → List Happening
happened run = map (λ event. event.0) run

-- the world has made these events, each with some mark, and keeps what they emitted
pub record HasRun (shape : Shape) (before after : World) (run : Run) (events : List Event) : Type 0 where
  pub more : Run
  pub made : happened more ≡ map happening_of events
  pub is : IsWorldOf shape after (run ++ more)
  pub whole : IsWhole shape after
  pub keeps : KeepsEmitted shape before after (moment_after shape run) (moment_after shape (run ++ more))

-- what is left of a world that has made this run
pub record IsLeftOf (shape : Shape) (made : World) (run : Run) : Type 0 where
  pub is_run : IsRun (system shape.nodes) shape run
  pub unspent : IsUnspentRun shape run
  pub trace : run_of (entries made.trace) ≡ run
  pub left : IsLeftAt shape made (moment_after shape run)

-- each actor is there but that of the next event
abbrev pub AreOthersOf : Shape → World → List Event → Type 0
AreOthersOf shape made [] = AreAllThere shape made.actors
AreOthersOf shape made (event ∷ rest) = AreOthersThere shape made.actors (actor_of event)

-- the next event, with no mark, needs a number above its limit
abbrev pub IsNextSpent : Moment → List Event → Type 0
IsNextSpent moment [] = ⊥
IsNextSpent moment (event ∷ rest) = is_event_spent moment event false ≡ true

-- the world has made the first of these events, and not the rest
pub record HasStopped (shape : Shape) (after : World) (run : Run) (events : List Event) (refused : Refused) : Type 0 where
  pub more : Run
  pub rest : List Event
  pub made : happened more ++ map happening_of rest ≡ map happening_of events
  pub left : IsLeftOf shape after (run ++ more)
  pub others : AreOthersOf shape after rest
  pub spent : refused ≡ Spent → IsNextSpent (moment_after shape (run ++ more)) rest

-- what a list of events makes of a world
abbrev pub IsRunOn : Shape → World → World → Run → List Event → Result (Unit {0}) Refused → Type 0
IsRunOn shape before after run events (Ok done) = HasRun shape before after run events
IsRunOn shape before after run events (Err refused) = HasStopped shape after run events refused
