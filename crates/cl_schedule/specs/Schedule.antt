-- What a call of the schedule makes of a world.
use Rattle.std.specs.Prelude.{◌≡◌, ℕ, ◌<◌, Bool, true, false, List, [], ◌∷◌, ◌++◌, Result, Ok, Err}
use Rattle.cl_runs.specs.World.{Shape, Run, Happening, handle, note, tick, quiet}
use Rattle.cl_ranges.specs.Spent.{is_spent}
use Rattle.cl_steps.specs.declared.actors.TheConstants.{FRONT}
use Rattle.cl_types.specs.declared.answers.Refused.{Refused}
use Rattle.cl_types.specs.declared.answers.Refused.TheVariants.{Spent}
use Rattle.cl_world.specs.Actors.{AreAllThere, AreOthersThere}
use Rattle.cl_world.specs.Mail.{messages_in}
use Rattle.cl_world.specs.Running.{IsLeftOf, happened}
use Rattle.cl_world.specs.World.{IsWorldOf, IsWhole, moment_after}
use Rattle.cl_world.specs.declared.world.World.{World}
use Rattle.cl_schedule.specs.Course.{Course}
use Rattle.cl_schedule.specs.Turns.{FatesOf, next_events, is_over, AreTurns, first_course}
use Rattle.cl_schedule.specs.declared.setting.Finish.{Finish}
use Rattle.cl_schedule.specs.declared.setting.Finish.TheVariants.{Quiet, TurnsMade}
use Rattle.cl_schedule.specs.declared.setting.Setting.{Setting}

-- turns were made, up to this course
pub record HasTurned (shape : Shape) (setting : Setting) (fates : FatesOf) (made : World) (run : Run) (lines : List (List ℕ)) (last : Course) : Type 0 where
  pub count : ℕ
  pub turns : AreTurns shape setting fates count (first_course run (messages_in made.mail) lines) last

-- how the turns end: in a quiet moment with each line fed, which is noted, or when all are made
abbrev pub EndsTurns : Shape → Setting → Finish → Course → World → Type 0
EndsTurns shape setting Quiet last after = (is_over shape last ≡ true) × ((mark : Bool) × IsWorldOf shape after (last.run ++ (quiet, mark) ∷ []))
EndsTurns shape setting TurnsMade last after = (is_over shape last ≡ false) × ((last.turns ≡ setting.turns) × IsWorldOf shape after last.run)

-- what was to happen next: the quiet moment where the run is over, and else the next turn
abbrev pub to_happen : Shape → Setting → FatesOf → Course → Bool → List Happening
to_happen shape setting fates last true = quiet ∷ []
to_happen shape setting fates last false = next_events shape setting fates last

-- the next of these, with no mark, needs a number above its limit
abbrev pub IsFirstSpent : Shape → Run → List Happening → Type 0
IsFirstSpent shape run [] = ⊥
IsFirstSpent shape run (happening ∷ rest) = is_spent (moment_after shape run) happening false ≡ true

-- the actor whose step this is
abbrev pub actor_in : Happening → ℕ
actor_in (handle actor id) = actor
actor_in (note actor) = actor
actor_in (tick actor) = actor
actor_in other = FRONT

-- each actor is there but that of the next of these
abbrev pub AreOthersIn : Shape → World → List Happening → Type 0
AreOthersIn shape made [] = AreAllThere shape made.actors
AreOthersIn shape made (happening ∷ rest) = AreOthersThere shape made.actors (actor_in happening)

-- the turns are done
pub record HasScheduled (shape : Shape) (setting : Setting) (fates : FatesOf) (before after : World) (run : Run) (lines : List (List ℕ)) (finish : Finish) : Type 0 where
  pub last : Course
  pub turned : HasTurned shape setting fates before run lines last
  pub ends : EndsTurns shape setting finish last after
  pub whole : IsWhole shape after

-- an event was refused: the world has made those before it
pub record HasBrokenOff (shape : Shape) (setting : Setting) (fates : FatesOf) (before after : World) (run : Run) (lines : List (List ℕ)) (refused : Refused) : Type 0 where
  pub last : Course
  pub turned : HasTurned shape setting fates before run lines last
  pub more : Run
  pub rest : List Happening
  pub happens : happened more ++ rest ≡ to_happen shape setting fates last (is_over shape last)
  pub left : IsLeftOf shape after (last.run ++ more)
  pub others : AreOthersIn shape after rest
  pub spent : refused ≡ Spent → IsFirstSpent shape (last.run ++ more) rest
  -- and there were turns left, where the run was not over
  pub within : is_over shape last ≡ false → last.turns < setting.turns

-- what a call of the schedule leaves of a world that has made this run
abbrev pub IsScheduled : Shape → Setting → FatesOf → World → World → Run → List (List ℕ) → Result Finish Refused → Type 0
IsScheduled shape setting fates before after run lines (Ok finish) = HasScheduled shape setting fates before after run lines finish
IsScheduled shape setting fates before after run lines (Err refused) = HasBrokenOff shape setting fates before after run lines refused
