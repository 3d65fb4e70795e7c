-- What one event more makes of a world.
use Rattle.std.specs.Prelude.{◌≡◌, ◌⊎◌, ℕ, Bool, true, false, List, [], ◌∷◌, ◌++◌, map, Option, Some, None, Result, Ok, Err}
use Rattle.cl_cluster.specs.Fitting.{HappeningFits}
use Rattle.cl_post.specs.declared.event.Event.{Event}
use Rattle.cl_post.specs.declared.event.Event.TheVariants as events
use Rattle.cl_post.specs.Steps.{Input}
use Rattle.cl_post.specs.Steps as inputs
use Rattle.cl_ranges.specs.Spent.{is_spent}
use Rattle.cl_runs.specs.World.{Shape, Happening, handle, tick, feed, packet_at, after, IsEnabled}
use Rattle.cl_steps.specs.declared.actors.TheConstants.{FRONT}
use Rattle.cl_system.specs.System.{system}
use Rattle.cl_types.specs.AppendOnlyList.{entries}
use Rattle.cl_types.specs.GrowingList.{items}
use Rattle.cl_types.specs.declared.no_memory.NoMemory.{NoMemory as OutOfMemory}
use Rattle.cl_types.specs.declared.answers.Refused.{Refused}
use Rattle.cl_types.specs.declared.answers.Refused.TheVariants.{NoMemory, Spent}
use Rattle.cl_wire.specs.Message.{Message}
use Rattle.cl_world.specs.Actors.{AreActors, AreOthersThere}
use Rattle.cl_world.specs.FirmRoom.{firm_in}
use Rattle.cl_world.specs.Happenings.{happening_of, run_of}
use Rattle.cl_world.specs.Mail.{messages_in, to_living, IsStillKept}
use Rattle.cl_world.specs.World.{Moment, IsAt, IsFirstRoster, IsWhole, living_in}
use Rattle.cl_world.specs.declared.world.World.{World}

-- the actor whose step an event is
abbrev pub actor_of : Event → ℕ
actor_of (events.Handle actor id) = actor
actor_of (events.Tick actor) = actor
actor_of (events.Feed number text said) = FRONT
actor_of events.Quiet = FRONT

-- the event is the step of an actor
abbrev pub IsStepEvent : Event → Type 0
IsStepEvent (events.Handle actor id) = Unit {0}
IsStepEvent (events.Tick actor) = Unit {0}
IsStepEvent (events.Feed number text said) = Unit {0}
IsStepEvent events.Quiet = ⊥

-- the event writes nothing of its own
abbrev pub IsSilent : Event → Type 0
IsSilent (events.Handle actor id) = Unit {0}
IsSilent (events.Tick actor) = Unit {0}
IsSilent (events.Feed number text said) = items said ≡ []
IsSilent events.Quiet = Unit {0}

-- how many lines were fed after an event, where so many were before
abbrev pub lines_with : ℕ → Event → ℕ
lines_with lines (events.Handle actor id) = lines
lines_with lines (events.Tick actor) = lines
lines_with lines (events.Feed number text said) = number
lines_with lines events.Quiet = lines

-- what a packet gives its receiver, if there is one
abbrev pub packet_input : Option Message → Input
packet_input None = inputs.tick
packet_input (Some m) = inputs.handle m

-- what an event gives its actor; no program makes an event of another kind than these
abbrev pub input_at : Moment → Happening → Input
input_at moment (handle actor id) = packet_input (packet_at moment id)
input_at moment (tick actor) = inputs.tick
input_at moment (feed number text said) = inputs.feed number text said
input_at moment other = inputs.quiet

-- the event with this mark needs a number above its limit
abbrev pub is_event_spent : Moment → Event → Bool → Bool
is_event_spent moment event mark = is_spent moment (happening_of event) mark

-- the system after an event with its mark
abbrev pub moment_with : Shape → Moment → Event → Bool → Moment
moment_with shape moment event mark = after (system shape.nodes) moment (happening_of event) mark

-- want of memory, as a refusal
abbrev pub refused_of : Result (Unit {0}) OutOfMemory → Result (Unit {0}) Refused
refused_of (Ok done) = Ok done
refused_of (Err error) = Err NoMemory

-- the event may be made: no actor is missing, it may happen, it fits, and the packet that it handles is kept
pub record MayTake (shape : Shape) (made : World) (moment : Moment) (event : Event) : Type 0 where
  pub whole : IsWhole shape made
  pub enabled : IsEnabled (system shape.nodes) shape moment (happening_of event)
  pub fits : HappeningFits moment (happening_of event)
  pub kept : IsStillKept made.mail event

-- what was emitted between two moments is kept
pub record KeepsEmitted (shape : Shape) (before after : World) (from to : Moment) : Type 0 where
  pub more : List Message
  pub emitted : to.packets ≡ from.packets ++ more
  pub kept : messages_in after.mail ≡ messages_in before.mail ++ map (to_living (living_in shape)) more

-- the event was made
pub record HasTaken (shape : Shape) (before after : World) (moment : Moment) (event : Event) : Type 0 where
  pub mark : Bool
  pub unspent : is_event_spent moment event mark ≡ false
  pub now : IsAt shape after (moment_with shape moment event mark)
  pub whole : IsWhole shape after
  pub trace : run_of (entries after.trace) ≡ run_of (entries before.trace) ++ (happening_of event, mark) ∷ []
  pub keeps : KeepsEmitted shape before after moment (moment_with shape moment event mark)

-- what is left of a world after a refusal: the actors that are there, the front's transcript, the history, the roster
pub record IsLeftAt (shape : Shape) (made : World) (moment : Moment) : Type 0 where
  pub actors : AreActors shape made.actors moment.actors
  pub history : firm_in made.firm ≡ moment.history
  pub roster : IsFirstRoster shape made.roster

-- the event was not made: its actor may be gone, and it is refused as spent only where its step with no mark is spent
pub record HasLost (shape : Shape) (before after : World) (moment : Moment) (event : Event) (refused : Refused) : Type 0 where
  pub left : IsLeftAt shape after moment
  pub others : AreOthersThere shape after.actors (actor_of event)
  pub trace : run_of (entries after.trace) ≡ run_of (entries before.trace)
  pub spent : refused ≡ Spent → is_event_spent moment event false ≡ true

-- the event was made, but not all that it emitted could be kept
pub record HasDropped (shape : Shape) (before after : World) (moment : Moment) (event : Event) (refused : Refused) : Type 0 where
  pub mark : Bool
  pub unspent : is_event_spent moment event mark ≡ false
  pub left : IsLeftAt shape after (moment_with shape moment event mark)
  pub whole : IsWhole shape after
  pub trace : run_of (entries after.trace) ≡ run_of (entries before.trace) ++ (happening_of event, mark) ∷ []
  pub short : refused ≡ NoMemory

-- what one event makes of a world
abbrev pub IsTaken : Shape → World → World → Moment → Event → Result (Unit {0}) Refused → Type 0
IsTaken shape before after moment event (Ok done) = HasTaken shape before after moment event
IsTaken shape before after moment event (Err refused) = HasLost shape before after moment event refused ⊎ HasDropped shape before after moment event refused
