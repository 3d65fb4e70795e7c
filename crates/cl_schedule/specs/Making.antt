-- How the code makes turns. Of this module the public clauses cite `texts_of` alone.
use Rattle.std.specs.Prelude.{◌≡◌, ℕ, ◌+◌, ◌-◌, ◌≤◌, Bool, true, if◌then◌else◌, List, [], ◌∷◌, ◌++◌, drop, length, map, Option, Some, None, Result, Ok, Err, IsSome, slice_set}
use Rattle.std.specs.Borrow.{Bor}
use Rattle.std.specs.Option.{option_map}
use Rattle.cl_ranked.specs.Slots.{kept, slot_at}
use Rattle.cl_runs.specs.World.{Shape, Run, Happening, MayHandle, quiet}
use Rattle.cl_types.specs.GrowingList.{items}
use Rattle.cl_types.specs.declared.answers.Refused.{Refused}
use Rattle.cl_types.specs.declared.answers.Refused.TheVariants.{Spent}
use Rattle.cl_types.specs.declared.growing_list.GrowingList.{GrowingList}
use Rattle.cl_wire.specs.Message.{Message}
use Rattle.cl_wire.specs.declared.packet.Packet.{Packet}
use Rattle.cl_world.specs.Mail.{messages_in, to_living}
use Rattle.cl_world.specs.Running.{IsLeftOf, happened}
use Rattle.cl_world.specs.World.{IsWorldOf, IsWhole, living_in, moment_after}
use Rattle.cl_world.specs.declared.world.World.{World}
use Rattle.cl_schedule.specs.Asked.{NotesAsked}
use Rattle.cl_schedule.specs.Course.{Course, Candidate, packet, line, time, is_quiet, or_else, waiting_actors}
use Rattle.cl_schedule.specs.Schedule.{AreOthersIn, IsFirstSpent}
use Rattle.cl_schedule.specs.Turns.{FatesOf, IsTurn, MayTurn, next_events, taken}
use Rattle.cl_schedule.specs.declared.setting.Setting.{Setting}
use Rattle.cl_schedule.specs.declared.progress.Progress.{Progress}
use Rattle.cl_schedule.specs.declared.progress.Taken as codes
use Rattle.cl_schedule.specs.declared.progress.Taken.TheVariants as takes

-- the texts of lines
abbrev pub texts_of : GrowingList (GrowingList ℕ) → List (List ℕ)
texts_of lines = map items (items lines)

-- what is taken, as a candidate
abbrev pub candidate_of : codes.Taken → Candidate
candidate_of (takes.Packet id to) = packet id to
candidate_of (takes.Line text) = line text.now
candidate_of (takes.Time actor) = time actor

-- a packet that is kept, as a candidate
abbrev pub packet_of : ℕ × Packet → Candidate
packet_of pair = packet (pair.0 + 1) pair.1.to

-- the packets that are kept, as candidates
abbrev pub packets_in : World → List Candidate
packets_in made = map packet_of (kept made.mail)

-- the next line, where it may be fed, as candidates
abbrev pub line_list : Option (Bor (List ℕ)) → List Candidate
line_list None = []
line_list (Some text) = line text.now ∷ []

-- for whom time may pass, where there is no packet and no line
abbrev pub times_at : Shape → Run → List Candidate
times_at shape run = or_else [] (is_quiet shape (moment_after shape run)) (waiting_actors shape (moment_after shape run))

-- the world and the progress are at this course
pub record IsAtCourse (shape : Shape) (made : World) (progress : Progress) (lines : List (List ℕ)) (course : Course) : Type 0 where
  pub is : IsWorldOf shape made course.run
  pub whole : IsWhole shape made
  pub slots : messages_in made.mail ≡ course.slots
  pub asked : NotesAsked course.slots course.asked progress.asked
  pub left : course.left ≡ drop progress.fed lines
  pub within : progress.fed ≤ length lines
  pub turns : progress.turns ≡ course.turns

-- the world has made a run
pub record IsSound (shape : Shape) (made : World) (run : Run) : Type 0 where
  pub is : IsWorldOf shape made run
  pub whole : IsWhole shape made

-- the packet may be handled, and is kept
pub record MayMeet (shape : Shape) (made : World) (run : Run) (id to : ℕ) : Type 0 where
  pub sound : IsSound shape made run
  pub kept : IsSome (slot_at made.mail (id - 1))
  pub may : MayHandle shape (moment_after shape run) to id

-- a line of this text may be fed, after a quiet moment where it waits for one
pub record MayTell (shape : Shape) (made : World) (run : Run) (waits : Bool) : Type 0 where
  pub sound : IsSound shape made run
  pub quiet_now : waits ≡ true → is_quiet shape (moment_after shape run) ≡ true

-- these happenings were made, each with some mark, and what they emitted is kept behind these slots
pub record HasMade (shape : Shape) (after : World) (run : Run) (happenings : List Happening) (before : List (Option Message)) : Type 0 where
  pub more : Run
  pub made : happened more ≡ happenings
  pub sound : IsSound shape after (run ++ more)
  pub emitted : List Message
  pub emits : (moment_after shape (run ++ more)).packets ≡ (moment_after shape run).packets ++ emitted
  pub slots : messages_in after.mail ≡ before ++ map (to_living (living_in shape)) emitted

-- one of these happenings was refused
pub record HasRefused (shape : Shape) (after : World) (run : Run) (happenings : List Happening) (refused : Refused) : Type 0 where
  pub more : Run
  pub rest : List Happening
  pub happens : happened more ++ rest ≡ happenings
  pub left : IsLeftOf shape after (run ++ more)
  pub others : AreOthersIn shape after rest
  pub spent : refused ≡ Spent → IsFirstSpent shape (run ++ more) rest

-- what these happenings make of a world
abbrev pub AreMade : Shape → World → Run → List Happening → List (Option Message) → Result (Unit {0}) Refused → Type 0
AreMade shape after run happenings slots (Ok done) = HasMade shape after run happenings slots
AreMade shape after run happenings slots (Err refused) = HasRefused shape after run happenings refused

-- the slots once a packet is gone
abbrev pub slots_met : Bool → List (Option Message) → ℕ → List (Option Message)
slots_met gone slots id = if gone then slice_set slots (id - 1) None else slots

-- a quiet moment, where one is waited for
abbrev pub quiet_where : Bool → List Happening
quiet_where waits = if waits then quiet ∷ [] else []

-- the next turn may be made, and takes this
pub record MayMake (shape : Shape) (setting : Setting) (made : World) (progress : Progress) (lines : List (List ℕ)) (course : Course) (takes_this : Option codes.Taken) : Type 0 where
  pub at_course : IsAtCourse shape made progress lines course
  pub may : MayTurn shape setting course
  pub takes : option_map candidate_of takes_this ≡ taken shape setting course

-- the turn was made
pub record HasMadeTurn (shape : Shape) (setting : Setting) (fates : FatesOf) (made : World) (progress : Progress) (lines : List (List ℕ)) (course : Course) : Type 0 where
  pub next : Course
  pub turn : IsTurn shape setting fates course next
  pub at_course : IsAtCourse shape made progress lines next

-- what a turn leaves
abbrev pub IsMade : Shape → Setting → FatesOf → World → Progress → List (List ℕ) → Course → Result (Unit {0}) Refused → Type 0
IsMade shape setting fates made progress lines course (Ok done) = HasMadeTurn shape setting fates made progress lines course
IsMade shape setting fates made progress lines course (Err refused) = HasRefused shape made course.run (next_events shape setting fates course) refused
