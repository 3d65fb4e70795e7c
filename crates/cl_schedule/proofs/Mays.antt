-- Which events the world may make.
use Rattle.std.proofs.Common.{◌≡◌, ℕ, ◌+◌, Bool, true, List, [], ◌∷◌, ◌++◌, Option, Result, sym, ap, subst, ◌∙◌}
use Rattle.std.proofs.lemmas.Bool.{or_right}
use Rattle.cl_lines.specs.Line.{line_of}
use Rattle.cl_post.specs.declared.event.Event.TheVariants as events
use Rattle.cl_lines.specs.declared.out.Out.{Out}
use Rattle.cl_runs.specs.World.{Shape, Run, Happening, IsLiving, feed}
use Rattle.cl_system.specs.System.{is_operators}
use Rattle.cl_types.specs.GrowingList.{items}
use Rattle.cl_types.specs.declared.answers.Refused.{Refused}
use Rattle.cl_types.specs.declared.growing_list.GrowingList.{GrowingList}
use Rattle.cl_wire.specs.Message.{Message}
use Rattle.cl_world.specs.Running.{IsRunOn, MayRun}
use Rattle.cl_world.specs.World.{moment_after}
use Rattle.cl_world.specs.declared.world.World.{World}
use Rattle.cl_world.proofs.Follows.{may_run_one}
use Rattle.cl_world.proofs.Stops.{nobody_has_stopped}
use Rattle.cl_schedule.specs.Course.{is_quiet, must_wait}
use Rattle.cl_schedule.specs.Making.{AreMade, HasMade, IsSound, MayMeet, MayTell, quiet_where}
use Rattle.cl_schedule.specs.Turns.{lines_in}
use Rattle.cl_schedule.proofs.Happens.{made_of, quieted, then_made}
use Rattle.cl_schedule.proofs.Resting.{quiet_from_test}

-- time may pass for an actor that lives
pub tick_may : (shape : Shape) (made : World) (run : Run) (actor : ℕ) → IsSound shape made run → IsLiving shape (moment_after shape run).roster actor →
    MayRun shape made run (events.Tick actor ∷ [])
tick_may shape made run actor sound lives = may_run_one shape made run (events.Tick actor) sound.is sound.whole (record { widely = lives; timely = tt }) tt

-- the packet may be handled
pub handle_may : (shape : Shape) (made : World) (run : Run) (id to : ℕ) → MayMeet shape made run id to → MayRun shape made run (events.Handle to id ∷ [])
handle_may shape made run id to may = may_run_one shape made run (events.Handle to id) may.sound.is may.sound.whole (record { widely = may.may; timely = tt }) may.kept

-- a quiet moment may be noted
pub quiet_may : (shape : Shape) (made : World) (run : Run) → IsSound shape made run → is_quiet shape (moment_after shape run) ≡ true →
    MayRun shape made run (events.Quiet ∷ [])
quiet_may shape made run sound is = may_run_one shape made run events.Quiet sound.is sound.whole
    (record { widely = tt; timely = quiet_from_test shape (moment_after shape run) (nobody_has_stopped shape made run sound.is) is }) tt

-- where a line waits for one
pub waited_may : (shape : Shape) (made : World) (run : Run) (waits : Bool) → MayTell shape made run waits → waits ≡ true → MayRun shape made run (events.Quiet ∷ [])
waited_may shape made run waits may is = quiet_may shape made run may.sound (may.quiet_now is)

-- the line may be fed, after what it waited for
pub tell_may : (shape : Shape) (middle : World) (run : Run) (slots : List (Option Message)) (step : Bool) (text : List ℕ) (number : ℕ) (copy : GrowingList ℕ) (said : GrowingList Out) →
    (has : HasMade shape middle run (quiet_where (must_wait step text)) slots) → number ≡ lines_in shape run + 1 → items copy ≡ text → items said ≡ [] →
    MayRun shape middle (run ++ has.more) (events.Feed number copy said ∷ [])
tell_may shape middle run slots step text number copy said has numbered copied silent =
    let facts = quieted shape run has.more (must_wait step text) has.made in
    may_run_one shape middle (run ++ has.more) (events.Feed number copy said) has.sound.is has.sound.whole
    (record {
      widely = record { next = numbered ∙ ap (λ n. n + 1) (sym facts.0); silent = silent };
      timely = λ is. facts.1 (or_right step (is_operators (line_of text)) (ap (λ t. is_operators (line_of t)) (sym copied) ∙ is));
    }) tt

-- and then it was
pub tell_made : (shape : Shape) (middle now : World) (run : Run) (slots : List (Option Message)) (step : Bool) (text : List ℕ) (number : ℕ) (copy : GrowingList ℕ) (said : GrowingList Out) (result : Result (Unit {0}) Refused) →
    (has : HasMade shape middle run (quiet_where (must_wait step text)) slots) → number ≡ lines_in shape run + 1 → items copy ≡ text → items said ≡ [] →
    IsRunOn shape middle now (run ++ has.more) (events.Feed number copy said ∷ []) result →
    AreMade shape now run (quiet_where (must_wait step text) ++ feed (lines_in shape run + 1) text [] ∷ []) slots result
tell_made shape middle now run slots step text number copy said result has numbered copied silent ran =
    let same : feed number (items copy) (items said) ≡ feed (lines_in shape run + 1) text [] = cc in
    subst (λ (h : Happening). AreMade shape now run (quiet_where (must_wait step text) ++ h ∷ []) slots result) same
    (then_made shape middle now run slots (quiet_where (must_wait step text)) (feed number (items copy) (items said) ∷ []) result has
    (made_of shape middle now (run ++ has.more) (events.Feed number copy said ∷ []) result ran))
