-- One turn after another: the rule by which a run is made.
use Rattle.std.specs.Prelude.{◌≡◌, ℕ, zero, suc, ◌+◌, ◌-◌, ◌<◌, ◌%◌, ◌^◌, ◌==◌, Bool, true, false, ◌&&◌, if◌then◌else◌, min, List, [], ◌∷◌, ◌++◌, length, map, drop, Option, Some, None, slice_get, slice_set}
use Rattle.cl_io.specs.declared.fates.Fate.{Fate}
use Rattle.cl_io.specs.declared.fates.Fate.TheVariants.{Deliver, Lose, Repeat, Late}
use Rattle.cl_runs.specs.World.{Shape, Run, Happening, handle, tick, feed, quiet, with_at}
use Rattle.cl_types.specs.Draws.{mixed}
use Rattle.cl_wire.specs.Message.{Message}
use Rattle.cl_world.specs.Mail.{to_living}
use Rattle.cl_world.specs.Running.{happened}
use Rattle.cl_world.specs.World.{living_in, moment_after}
use Rattle.cl_schedule.specs.Course.{Course, Candidate, packet, line, time, is_quiet, must_wait, candidates}
use Rattle.cl_schedule.specs.declared.setting.Setting.{Setting}

-- the place of the candidate that the turn of a number takes, of so many: the first where the seed is 0
abbrev pub place_in : ℕ → ℕ → ℕ → ℕ
place_in seed turn count = if seed == 0 then 0 else mixed ((mixed ((seed + 1) % 2 ^ 64) + turn) % 2 ^ 64) % count

-- what the next turn takes, if anything; turns are numbered from 1
abbrev pub taken : Shape → Setting → Course → Option Candidate
taken shape setting course = slice_get (candidates shape setting course) (place_in setting.seed (course.turns + 1) (length (candidates shape setting course)))

-- whether a packet of this fate is handled
abbrev pub is_handled : Fate → Bool
is_handled Deliver = true
is_handled Lose = false
is_handled Repeat = true
is_handled Late = false

-- whether a packet of this fate is no longer on its way
abbrev pub is_gone : Fate → Bool
is_gone Deliver = true
is_gone Lose = true
is_gone Repeat = false
is_gone Late = false

-- the fate of each packet whose fate was asked so many times
abbrev pub FatesOf : Type 0
FatesOf = ℕ → ℕ → Fate

-- what happens in a turn that takes this: a line that waits for a quiet moment is fed right after that moment is noted
abbrev pub events_of : Bool → FatesOf → Course → ℕ → Option Candidate → List Happening
events_of step fates course lines None = []
events_of step fates course lines (Some (packet id to)) = if is_handled (fates id (course.asked id)) then handle to id ∷ [] else []
events_of step fates course lines (Some (line text)) = if must_wait step text then quiet ∷ feed (lines + 1) text [] ∷ [] else feed (lines + 1) text [] ∷ []
events_of step fates course lines (Some (time actor)) = tick actor ∷ []

-- the packets on their way without one that is gone
abbrev pub slots_without : FatesOf → Course → Option Candidate → List (Option Message)
slots_without fates course (Some (packet id to)) = if is_gone (fates id (course.asked id)) then slice_set course.slots (id - 1) None else course.slots
slots_without fates course other = course.slots

-- how often fates were asked after a turn that takes this, counted up to the last number of 32 bits
abbrev pub asked_after : Course → Option Candidate → ℕ → ℕ
asked_after course (Some (packet id to)) = with_at course.asked id (min (course.asked id + 1) (2 ^ 32 - 1))
asked_after course other = course.asked

-- the lines that are left after a turn that takes this
abbrev pub left_after : Course → Option Candidate → List (List ℕ)
left_after course (Some (line text)) = drop 1 course.left
left_after course other = course.left

-- how many lines were fed in a run
abbrev pub lines_in : Shape → Run → ℕ
lines_in shape run = (moment_after shape run).lines

-- what happens in the next turn
abbrev pub next_events : Shape → Setting → FatesOf → Course → List Happening
next_events shape setting fates course = events_of setting.step fates course (lines_in shape course.run) (taken shape setting course)

-- a turn: what it takes happens, with some mark, and what that emits to living actors is on its way
pub record IsTurn (shape : Shape) (setting : Setting) (fates : FatesOf) (before after : Course) : Type 0 where
  pub made : Run
  pub emitted : List Message
  pub happens : happened made ≡ next_events shape setting fates before
  pub run : after.run ≡ before.run ++ made
  pub emits : (moment_after shape after.run).packets ≡ (moment_after shape before.run).packets ++ emitted
  pub slots : after.slots ≡ slots_without fates before (taken shape setting before) ++ map (to_living (living_in shape)) emitted
  pub asked : (id : ℕ) → after.asked id ≡ asked_after before (taken shape setting before) id
  pub left : after.left ≡ left_after before (taken shape setting before)
  pub turns : after.turns ≡ before.turns + 1

-- the run is over: each line was fed, and the moment is quiet
abbrev pub is_over : Shape → Course → Bool
is_over shape course = (length course.left == 0) && is_quiet shape (moment_after shape course.run)

-- a turn is made only where the run is not over, and there are turns left
pub record MayTurn (shape : Shape) (setting : Setting) (course : Course) : Type 0 where
  pub goes_on : is_over shape course ≡ false
  pub within : course.turns < setting.turns

-- so many turns, one after another
unfoldable pub AreTurns : Shape → Setting → FatesOf → ℕ → Course → Course → Type 0
AreTurns shape setting fates zero first last = first ≡ last
AreTurns shape setting fates (suc n) first last =
    (before : Course) × AreTurns shape setting fates n first before × MayTurn shape setting before × IsTurn shape setting fates before last

-- before the first turn: after this run, with these packets on their way and these lines to feed
abbrev pub first_course : Run → List (Option Message) → List (List ℕ) → Course
first_course run slots left = record { run = run; slots = slots; asked = λ id. 0; left = left; turns = 0 }
