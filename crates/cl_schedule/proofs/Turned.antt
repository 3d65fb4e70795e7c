-- What each kind of turn leaves.
use Rattle.std.proofs.Common.{◌≡◌, ℕ, suc, ◌+◌, ◌-◌, ◌<◌, ◌≤◌, Bool, true, false, cond, List, [], ◌∷◌, ◌++◌, length, map, drop, get_or, Option, Some, None, IsSome, is_some, refl, sym, ap, subst, ◌∙◌, arith}
use Rattle.std.specs.Borrow.{Bor}
use Rattle.std.proofs.lemmas.List.{drop-drop, length-drop}
use Rattle.cl_io.specs.declared.fates.Fate.{Fate}
use Rattle.cl_runs.specs.World.{Shape, Happening, IsLiving, feed, handle, quiet, tick}
use Rattle.cl_types.specs.declared.answers.Refused.{Refused}
use Rattle.cl_types.specs.declared.answers.Refused.TheVariants.{NoMemory}
use Rattle.cl_wire.specs.Message.{Message}
use Rattle.cl_world.specs.Mail.{messages_in, to_living}
use Rattle.cl_world.specs.World.{living_in, moment_after}
use Rattle.cl_world.specs.declared.world.World.{World}
use Rattle.cl_schedule.specs.Asked.{NotesAsked, times_in, times_met}
use Rattle.cl_schedule.specs.Course.{Candidate, Course, packet, line, time, must_wait}
use Rattle.cl_schedule.specs.Making.{HasMade, HasMadeTurn, HasRefused, IsAtCourse, IsSound, MayMake, MayMeet, MayTell, quiet_where, slots_met}
use Rattle.cl_schedule.specs.Turns.{FatesOf, asked_after, events_of, is_gone, is_handled, left_after, lines_in, next_events, slots_without, taken}
use Rattle.cl_schedule.specs.declared.asked.Asked.{Asked}
use Rattle.cl_schedule.specs.declared.progress.Progress.{Progress}
use Rattle.cl_schedule.specs.declared.progress.Taken.TheVariants as takes
use Rattle.cl_schedule.specs.declared.setting.Setting.{Setting}
use Rattle.cl_schedule.proofs.Choices.{IsIn, may_meet, taken_possible}
use Rattle.cl_schedule.proofs.Happens.{nothing_made, nothing_refused}
use Rattle.cl_schedule.proofs.Notes.{notes_met, notes_more}

-- the world of a course
pub sound_of : (shape : Shape) (made : World) (progress : Progress) (lines : List (List ℕ)) (course : Course) → IsAtCourse shape made progress lines course →
    IsSound shape made course.run
sound_of shape made progress lines course at = record { is = at.is; whole = at.whole }

-- what happens in a turn that takes this
abbrev pub events_at : Shape → Setting → FatesOf → Course → Option Candidate → List Happening
events_at shape setting fates course takes_this = events_of setting.step fates course (lines_in shape course.run) takes_this

-- the turn was made
finish : (shape : Shape) (setting : Setting) (fates : FatesOf) (after : World) (progress : Progress) (lines : List (List ℕ)) (course : Course) (takes_this : Option Candidate) → takes_this ≡ taken shape setting course →
    HasMade shape after course.run (events_at shape setting fates course takes_this) (slots_without fates course takes_this) →
    ((more : List (Option Message)) → NotesAsked (slots_without fates course takes_this ++ more) (asked_after course takes_this) progress.asked) →
    left_after course takes_this ≡ drop progress.fed lines →
    progress.fed ≤ length lines → progress.turns ≡ course.turns + 1 → HasMadeTurn shape setting fates after progress lines course
finish shape setting fates after progress lines course takes_this is has notes left within turns =
    let more : List (Option Message) = map (to_living (living_in shape)) has.emitted in
    record {
      next = record {
        run = course.run ++ has.more;
        slots = slots_without fates course takes_this ++ more;
        asked = asked_after course takes_this;
        left = left_after course takes_this;
        turns = course.turns + 1;
      };
      turn = record {
        made = has.more;
        emitted = has.emitted;
        happens = has.made ∙ ap (λ t. events_at shape setting fates course t) is;
        run = refl;
        emits = has.emits;
        slots = ap (λ t. slots_without fates course t ++ more) is;
        asked = λ id. ap (λ t. asked_after course t id) is;
        left = ap (λ t. left_after course t) is;
        turns = refl;
      };
      at_course = record { is = has.sound.is; whole = has.sound.whole; slots = has.slots; asked = notes more; left = left; within = within; turns = turns };
    }

-- the turn was not made
pub refuse : (shape : Shape) (setting : Setting) (fates : FatesOf) (after : World) (course : Course) (takes_this : Option Candidate) (refused : Refused) →
    takes_this ≡ taken shape setting course →
    HasRefused shape after course.run (events_at shape setting fates course takes_this) refused →
    HasRefused shape after course.run (next_events shape setting fates course) refused
refuse shape setting fates after course takes_this refused is has = subst (λ t. HasRefused shape after course.run (events_at shape setting fates course t) refused) is has

-- what is noted of a fate
pub met_as : (gone told : Bool) (before after : Asked) (id : ℕ) → told ≡ gone →
    ((other : ℕ) → times_in after other ≡ times_met told (times_in before) id other) → (other : ℕ) → times_in after other ≡ times_met gone (times_in before) id other
met_as gone told before after id is met other = met other ∙ ap (λ b. times_met b (times_in before) id other) is

-- the fate that is asked
pub fate_asked : (fates : FatesOf) (id : ℕ) (found : Fate) (told times : ℕ) → found ≡ fates id told → told ≡ times → found ≡ fates id times
fate_asked fates id found told times is same = is ∙ ap (λ n. fates id n) same

-- no memory was found for a turn
pub no_memory : (shape : Shape) (setting : Setting) (made : World) (progress : Progress) (lines : List (List ℕ)) (course : Course) (fates : FatesOf) →
    IsAtCourse shape made progress lines course →
    HasRefused shape made course.run (next_events shape setting fates course) NoMemory
no_memory shape setting made progress lines course fates at = nothing_refused shape made course.run (next_events shape setting fates course) (sound_of shape made progress lines course at)

module _ (shape : Shape) (setting : Setting) (before : World) (progress : Progress) (lines : List (List ℕ)) (course : Course) where
  module _ (id to : ℕ) (may : MayMake shape setting before progress lines course (Some (takes.Packet id to))) where
    packet_in : IsIn (moment_after shape course.run) 1 course.slots id to
    packet_in = taken_possible shape setting course (packet id to) may.takes

    -- the packet may be handled
    pub packet_may : MayMeet shape before course.run id to
    packet_may =
        may_meet shape before course.run id to (sound_of shape before progress lines course may.at_course)
        (subst (λ slots. IsIn (moment_after shape course.run) 1 slots id to) (sym may.at_course.slots) packet_in)

    packet_kept : (1 ≤ id) × IsSome (get_or course.slots (id - 1) None)
    packet_kept =
        let numbered = packet_in.numbered in
        let index : id - 1 ≡ packet_in.index = omega arith in
        let at : get_or course.slots (id - 1) None ≡ Some packet_in.m = ap (λ n. get_or course.slots n None) index ∙ packet_in.at in (omega arith, ap (λ (slot : Option Message). is_some slot) at)

    -- its fate was asked as often as is noted
    pub asked_same : times_in progress.asked id ≡ course.asked id
    asked_same =
        let numbered = packet_kept.0 in
        let index : id - 1 + 1 ≡ id = omega arith in
        subst (λ n. times_in progress.asked n ≡ course.asked n) index (may.at_course.asked (id - 1) (λ within. packet_kept.1))

    module _ (fates : FatesOf) (fate : Fate) (is : fate ≡ fates id (course.asked id)) where
      -- a packet was taken
      pub packet_turned : (after : World) (asked : Asked) → ((other : ℕ) → times_in asked other ≡ times_met (is_gone fate) (times_in progress.asked) id other) →
          HasMade shape after course.run (cond (is_handled fate) (handle to id ∷ []) []) (slots_met (is_gone fate) (messages_in before.mail) id) →
          HasMadeTurn shape setting fates after (record { asked = asked; fed = progress.fed; turns = progress.turns + 1 }) lines course
      packet_turned after asked met has =
          finish shape setting fates after (record { asked = asked; fed = progress.fed; turns = progress.turns + 1 }) lines course (Some (packet id to)) may.takes
          (subst (λ slots. HasMade shape after course.run (events_at shape setting fates course (Some (packet id to))) (slots_met (is_gone (fates id (course.asked id))) slots id)) may.at_course.slots
          (subst (λ f. HasMade shape after course.run (cond (is_handled f) (handle to id ∷ []) []) (slots_met (is_gone f) (messages_in before.mail) id)) is has))
          (λ more. notes_met (is_gone (fates id (course.asked id))) course.slots more course.asked progress.asked asked id packet_kept.0 packet_kept.1 may.at_course.asked
          (λ other. subst (λ f. times_in asked other ≡ times_met (is_gone f) (times_in progress.asked) id other) is (met other)))
          may.at_course.left may.at_course.within (ap (λ n. n + 1) may.at_course.turns)

      -- or not
      pub packet_refused : (after : World) (refused : Refused) → HasRefused shape after course.run (cond (is_handled fate) (handle to id ∷ []) []) refused →
          HasRefused shape after course.run (next_events shape setting fates course) refused
      packet_refused after refused has =
          refuse shape setting fates after course (Some (packet id to)) refused may.takes (subst (λ f. HasRefused shape after course.run (cond (is_handled f) (handle to id ∷ []) []) refused) is has)

  module _ (text : Bor (List ℕ)) (may : MayMake shape setting before progress lines course (Some (takes.Line text))) where
    -- the line may be fed
    pub line_may : MayTell shape before course.run (must_wait setting.step text.now)
    line_may = record { sound = sound_of shape before progress lines course may.at_course; quiet_now = (taken_possible shape setting course (line text.now) may.takes).waits }

    -- its index is below their number
    pub line_bound : progress.fed < length lines
    line_bound =
        let next = taken_possible shape setting course (line text.now) may.takes in
        let long : length lines - progress.fed ≡ suc (length next.rest)
        = sym (length-drop progress.fed lines) ∙ ap (λ (ls : List (List ℕ)). length ls) (sym may.at_course.left ∙ next.first) in
        omega arith

    events_same : (waits : Bool) (one : Happening) → quiet_where waits ++ one ∷ [] ≡ cond waits (quiet ∷ one ∷ []) (one ∷ [])
    events_same true one = refl
    events_same false one = refl

    -- a line was taken
    pub line_turned : (fates : FatesOf) (after : World) →
        HasMade shape after course.run (quiet_where (must_wait setting.step text.now) ++ feed (lines_in shape course.run + 1) text.now [] ∷ []) (messages_in before.mail) →
        HasMadeTurn shape setting fates after (record { asked = progress.asked; fed = progress.fed + 1; turns = progress.turns + 1 }) lines course
    line_turned fates after has =
        finish shape setting fates after (record { asked = progress.asked; fed = progress.fed + 1; turns = progress.turns + 1 }) lines course (Some (line text.now)) may.takes
        (subst (λ slots. HasMade shape after course.run (events_at shape setting fates course (Some (line text.now))) slots) may.at_course.slots
        (subst (λ es. HasMade shape after course.run es (messages_in before.mail)) (events_same (must_wait setting.step text.now) (feed (lines_in shape course.run + 1) text.now [])) has))
        (λ more. notes_more course.slots more course.asked progress.asked may.at_course.asked)
        (ap (λ (ls : List (List ℕ)). drop 1 ls) may.at_course.left ∙ drop-drop 1 progress.fed lines) (let bound = line_bound in omega arith) (ap (λ n. n + 1) may.at_course.turns)

    -- or not
    pub line_refused : (fates : FatesOf) (after : World) (refused : Refused) →
        HasRefused shape after course.run (quiet_where (must_wait setting.step text.now) ++ feed (lines_in shape course.run + 1) text.now [] ∷ []) refused →
        HasRefused shape after course.run (next_events shape setting fates course) refused
    line_refused fates after refused has =
        refuse shape setting fates after course (Some (line text.now)) refused may.takes
        (subst (λ es. HasRefused shape after course.run es refused) (events_same (must_wait setting.step text.now) (feed (lines_in shape course.run + 1) text.now [])) has)

  module _ (actor : ℕ) (may : MayMake shape setting before progress lines course (Some (takes.Time actor))) where
    -- the actor lives
    pub time_may : IsLiving shape (moment_after shape course.run).roster actor
    time_may = subst (λ roster. IsLiving shape roster actor) (sym (sound_of shape before progress lines course may.at_course).is.now.unstopped)
        (taken_possible shape setting course (time actor) may.takes)

    -- time passed
    pub time_turned : (fates : FatesOf) (after : World) → HasMade shape after course.run (tick actor ∷ []) (messages_in before.mail) →
        HasMadeTurn shape setting fates after (record { asked = progress.asked; fed = progress.fed; turns = progress.turns + 1 }) lines course
    time_turned fates after has =
        finish shape setting fates after (record { asked = progress.asked; fed = progress.fed; turns = progress.turns + 1 }) lines course (Some (time actor)) may.takes
        (subst (λ slots. HasMade shape after course.run (tick actor ∷ []) slots) may.at_course.slots has) (λ more. notes_more course.slots more course.asked progress.asked may.at_course.asked)
        may.at_course.left may.at_course.within (ap (λ n. n + 1) may.at_course.turns)

    -- or not
    pub time_refused : (fates : FatesOf) (after : World) (refused : Refused) → HasRefused shape after course.run (tick actor ∷ []) refused →
        HasRefused shape after course.run (next_events shape setting fates course) refused
    time_refused fates after refused has = refuse shape setting fates after course (Some (time actor)) refused may.takes has

  -- a turn that takes nothing
  pub nothing_turned : MayMake shape setting before progress lines course None → (fates : FatesOf) →
      HasMadeTurn shape setting fates before (record { asked = progress.asked; fed = progress.fed; turns = progress.turns + 1 }) lines course
  nothing_turned may fates =
      finish shape setting fates before (record { asked = progress.asked; fed = progress.fed; turns = progress.turns + 1 }) lines course None may.takes
      (subst (λ slots. HasMade shape before course.run [] slots) may.at_course.slots (nothing_made shape before course.run (sound_of shape before progress lines course may.at_course)))
      (λ more. notes_more course.slots more course.asked progress.asked may.at_course.asked) may.at_course.left may.at_course.within (ap (λ n. n + 1) may.at_course.turns)
