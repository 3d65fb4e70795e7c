-- Turn after turn.
use Rattle.std.proofs.Common.{◌≡◌, ℕ, suc, ◌+◌, ◌<◌, ◌≤◌, Bool, true, false, List, [], ◌∷◌, ◌++◌, Ok, Err, refl, sym, ap, subst, ◌∙◌, arith}
use Rattle.std.proofs.lemmas.Bool.{and_parts, both_ways}
use Rattle.cl_post.specs.declared.event.Event.TheVariants as events
use Rattle.cl_runs.specs.World.{Shape, Run, Happening, quiet}
use Rattle.cl_types.specs.declared.answers.Refused.{Refused}
use Rattle.cl_world.specs.Mail.{messages_in}
use Rattle.cl_world.specs.Running.{IsRunOn, MayRun, happened}
use Rattle.cl_world.specs.World.{IsWorldOf, IsWhole}
use Rattle.cl_world.specs.declared.world.World.{World}
use Rattle.cl_schedule.specs.Asked.{times_in}
use Rattle.cl_schedule.specs.Course.{Course}
use Rattle.cl_schedule.specs.Making.{HasMade, HasMadeTurn, HasRefused, IsAtCourse}
use Rattle.cl_schedule.specs.Schedule.{HasBrokenOff, HasScheduled, HasTurned, to_happen}
use Rattle.cl_schedule.specs.Turns.{AreTurns, FatesOf, MayTurn, first_course, is_over, next_events}
use Rattle.cl_schedule.specs.declared.asked.Asked.{Asked}
use Rattle.cl_schedule.specs.declared.progress.Progress.{Progress}
use Rattle.cl_schedule.specs.declared.setting.Finish.TheVariants.{Quiet}
use Rattle.cl_schedule.specs.declared.setting.Setting.{Setting}
use Rattle.cl_schedule.proofs.Happens.{made_of}
use Rattle.cl_schedule.proofs.Mays.{quiet_may}
use Rattle.cl_schedule.proofs.Turned.{sound_of}

-- the turns so far
pub record IsTurning (shape : Shape) (setting : Setting) (fates : FatesOf) (before now : World) (progress : Progress) (lines : List (List ℕ)) (run : Run) : Type 0 where
  pub course : Course
  pub turned : HasTurned shape setting fates before run lines course
  pub at_course : IsAtCourse shape now progress lines course
  pub within : progress.turns ≤ setting.turns

-- no turn was made
pub begins : (shape : Shape) (setting : Setting) (fates : FatesOf) (made : World) (asked : Asked) (lines : List (List ℕ)) (run : Run) →
    IsWorldOf shape made run → IsWhole shape made →
    ((id : ℕ) → times_in asked id ≡ 0) → IsTurning shape setting fates made made (record { asked = asked; fed = 0; turns = 0 }) lines run
unfolding AreTurns
begins shape setting fates made asked lines run is whole none = record {
  course = first_course run (messages_in made.mail) lines;
  turned = record { count = 0; turns = refl };
  at_course = record {
    is = is;
    whole = whole;
    slots = refl;
    asked = λ index held. none (index + 1);
    left = refl;
    within = omega arith;
    turns = refl;
  };
  within = omega arith;
}

module _ (shape : Shape) (setting : Setting) (fates : FatesOf) (before now : World) (progress : Progress) (lines : List (List ℕ)) (run : Run)
    (so_far : IsTurning shape setting fates before now progress lines run) where
  -- a turn may be made
  pub may_turn : is_over shape so_far.course ≡ false → progress.turns < setting.turns → MayTurn shape setting so_far.course
  may_turn on within = record { goes_on = on; within = let same = so_far.at_course.turns in omega arith }

  -- a turn was made
  pub goes_on : (after : World) (later : Progress) → is_over shape so_far.course ≡ false → progress.turns < setting.turns →
      HasMadeTurn shape setting fates after later lines so_far.course →
      IsTurning shape setting fates before after later lines run
  unfolding AreTurns
  goes_on after later on within made = record {
    course = made.next;
    turned = record { count = suc so_far.turned.count; turns = (so_far.course, so_far.turned.turns, may_turn on within, made.turn) };
    at_course = made.at_course;
    within = let a = so_far.at_course.turns in let b = made.turn.turns in let d = made.at_course.turns in omega arith;
  }

  -- a turn was not made
  pub breaks_off : (after : World) (refused : Refused) → is_over shape so_far.course ≡ false → progress.turns < setting.turns →
      HasRefused shape after so_far.course.run (next_events shape setting fates so_far.course) refused →
      HasBrokenOff shape setting fates before after run lines refused
  breaks_off after refused on within has = record {
    last = so_far.course;
    turned = so_far.turned;
    more = has.more;
    rest = has.rest;
    happens = has.happens ∙ ap (λ (over : Bool). to_happen shape setting fates so_far.course over) (sym on);
    left = has.left;
    others = has.others;
    spent = has.spent;
    within = λ e. (may_turn on within).within;
  }

  quiet_noted : (after : World) (more : Run) → happened more ≡ quiet ∷ [] → IsWorldOf shape after (so_far.course.run ++ more) →
      (mark : Bool) × IsWorldOf shape after (so_far.course.run ++ (quiet, mark) ∷ [])
  quiet_noted after [] made is = absurd cc
  quiet_noted after (one ∷ []) made is =
      let same : one.0 ≡ quiet = cc in (one.1, subst (λ (h : Happening). IsWorldOf shape after (so_far.course.run ++ (h, one.1) ∷ [])) same is)
  quiet_noted after (one ∷ other ∷ more) made is = absurd cc

  -- where the run is over, a quiet moment may be noted
  pub quiet_over : is_over shape so_far.course ≡ true → MayRun shape now so_far.course.run (events.Quiet ∷ [])
  quiet_over over = quiet_may shape now so_far.course.run (sound_of shape now progress lines so_far.course so_far.at_course) (and_parts _ _ over).1

  -- the run is over, and the quiet moment was noted
  pub ends_quiet : (after : World) → is_over shape so_far.course ≡ true → IsRunOn shape now after so_far.course.run (events.Quiet ∷ []) (Ok tt) →
      HasScheduled shape setting fates before after run lines Quiet
  ends_quiet after over ran =
      let has : HasMade shape after so_far.course.run (quiet ∷ []) (messages_in now.mail) = made_of shape now after so_far.course.run (events.Quiet ∷ []) (Ok tt) ran in
      record { last = so_far.course; turned = so_far.turned; ends = (over, quiet_noted after has.more has.made has.sound.is); whole = has.sound.whole }

  -- or not
  pub breaks_quiet : (after : World) (refused : Refused) → is_over shape so_far.course ≡ true →
      IsRunOn shape now after so_far.course.run (events.Quiet ∷ []) (Err refused) →
      HasBrokenOff shape setting fates before after run lines refused
  breaks_quiet after refused over ran =
      let has : HasRefused shape after so_far.course.run (quiet ∷ []) refused = made_of shape now after so_far.course.run (events.Quiet ∷ []) (Err refused) ran in
      record {
        last = so_far.course;
        turned = so_far.turned;
        more = has.more;
        rest = has.rest;
        happens = has.happens ∙ ap (λ (done : Bool). to_happen shape setting fates so_far.course done) (sym over);
        left = has.left;
        others = has.others;
        spent = has.spent;
        within = λ on. absurd (both_ways (is_over shape so_far.course) on over);
      }
