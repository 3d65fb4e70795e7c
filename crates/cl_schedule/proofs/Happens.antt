-- What the events of a turn make of a world.
use Rattle.std.proofs.Common.{◌≡◌, ℕ, ◌-◌, ◌<◌, ◌≤◌, eqb, set, Bool, true, false, cond, List, [], ◌∷◌, ◌++◌, length, map, Option, None, Result, Ok, Err, refl, sym, ap, subst, ◌∙◌, append_assoc, arith}
use Rattle.std.specs.Option.{option_map}
use Rattle.std.proofs.lemmas.Bool.{ne_eqb}
use Rattle.std.proofs.lemmas.List.{append-nil, length-map, map-append, map-set, set-append_left}
use Rattle.cl_post.specs.declared.event.Event.{Event}
use Rattle.cl_post.specs.declared.event.Event.TheVariants as events
use Rattle.cl_runs.specs.World.{Shape, Run, Happening, after, handle, quiet}
use Rattle.cl_runs.proofs.Runs.{runs_go_on}
use Rattle.cl_system.specs.System.{system}
use Rattle.cl_types.specs.declared.answers.Refused.{Refused}
use Rattle.cl_types.specs.declared.answers.Refused.TheVariants.{NoMemory}
use Rattle.cl_wire.specs.Message.{Message, message_of}
use Rattle.cl_wire.specs.declared.packet.Packet.{Packet}
use Rattle.cl_world.specs.Happenings.{happening_of}
use Rattle.cl_world.specs.Mail.{forgotten, messages_in, to_living}
use Rattle.cl_world.specs.Running.{AreOthersOf, IsLeftOf, IsNextSpent, IsRunOn, happened}
use Rattle.cl_world.specs.World.{IsWhole, IsWorldOf, Moment, living_in, moment_after}
use Rattle.cl_world.specs.declared.world.World.{World}
use Rattle.cl_schedule.specs.Making.{AreMade, HasMade, HasRefused, IsSound, MayMeet, quiet_where, slots_met}
use Rattle.cl_schedule.specs.Schedule.{AreOthersIn, IsFirstSpent}
use Rattle.cl_schedule.specs.Turns.{lines_in}
use Rattle.cl_schedule.proofs.Notes.{some_within}

-- the next event needs a number above its limit
first_spent : (shape : Shape) (run : Run) (rest : List Event) → IsNextSpent (moment_after shape run) rest → IsFirstSpent shape run (map happening_of rest)
first_spent shape run [] is = absurd is
first_spent shape run (event ∷ rest) is = is

-- the others are there but for the actor of the next event
others_in : (shape : Shape) (made : World) (rest : List Event) → AreOthersOf shape made rest → AreOthersIn shape made (map happening_of rest)
others_in shape made [] others = others
others_in shape made (events.Handle actor id ∷ rest) others = others
others_in shape made (events.Tick actor ∷ rest) others = others
others_in shape made (events.Feed number text said ∷ rest) others = others
others_in shape made (events.Quiet ∷ rest) others = others

-- where no actor is missing, the others are there
others_of_whole : (shape : Shape) (made : World) (rest : List Happening) → IsWhole shape made → AreOthersIn shape made rest
others_of_whole shape made [] whole = whole
others_of_whole shape made (happening ∷ rest) whole = record { front = λ ne. whole.front; members = λ actor within ne. whole.members actor within }

-- what a list of events makes
pub made_of : (shape : Shape) (before now : World) (run : Run) (list : List Event) (result : Result (Unit {0}) Refused) → IsRunOn shape before now run list result →
    AreMade shape now run (map happening_of list) (messages_in before.mail) result
made_of shape before now run list (Ok done) has = record {
  more = has.more;
  made = has.made;
  sound = record { is = has.is; whole = has.whole };
  emitted = has.keeps.more;
  emits = has.keeps.emitted;
  slots = has.keeps.kept;
}
made_of shape before now run list (Err refused) has = record {
  more = has.more;
  rest = map happening_of has.rest;
  happens = has.made;
  left = has.left;
  others = others_in shape now has.rest has.others;
  spent = λ e. first_spent shape (run ++ has.more) has.rest (has.spent e);
}

-- nothing happened
pub nothing_made : (shape : Shape) (made : World) (run : Run) → IsSound shape made run → HasMade shape made run [] (messages_in made.mail)
nothing_made shape made run sound = record {
  more = [];
  made = refl;
  sound = subst (λ r. IsSound shape made r) (sym (append-nil run)) sound;
  emitted = [];
  emits = ap (λ (r : Run). (moment_after shape r).packets) (append-nil run) ∙ sym (append-nil (moment_after shape run).packets);
  slots = sym (append-nil (messages_in made.mail));
}

-- a world that has made a run is what is left of it
pub left_of : (shape : Shape) (made : World) (run : Run) → IsWorldOf shape made run → IsLeftOf shape made run
left_of shape made run is = record {
  is_run = is.is_run;
  unspent = is.unspent;
  trace = is.trace;
  left = record { actors = is.now.actors; history = is.now.history; roster = is.now.roster };
}

-- nothing happened, since no memory was found
pub nothing_refused : (shape : Shape) (made : World) (run : Run) (happenings : List Happening) → IsSound shape made run →
    HasRefused shape made run happenings NoMemory
nothing_refused shape made run happenings sound = record {
  more = [];
  rest = happenings;
  happens = refl;
  left = subst (λ r. IsLeftOf shape made r) (sym (append-nil run)) (left_of shape made run sound.is);
  others = others_of_whole shape made happenings sound.whole;
  spent = λ e. absurd cc;
}

-- more was to happen, after what was refused

others_before : (shape : Shape) (made : World) (rest second : List Happening) → AreOthersIn shape made rest → AreOthersIn shape made (rest ++ second)
others_before shape made [] second whole = others_of_whole shape made second whole
others_before shape made (happening ∷ rest) second others = others

spent_before : (shape : Shape) (run : Run) (rest second : List Happening) → IsFirstSpent shape run rest → IsFirstSpent shape run (rest ++ second)
spent_before shape run [] second is = absurd is
spent_before shape run (happening ∷ rest) second is = is

pub refused_before : (shape : Shape) (now : World) (run : Run) (first second : List Happening) (refused : Refused) → HasRefused shape now run first refused →
    HasRefused shape now run (first ++ second) refused
refused_before shape now run first second refused has = record {
  more = has.more;
  rest = has.rest ++ second;
  happens = sym (append_assoc (happened has.more) has.rest second) ∙ ap (λ (hs : List Happening). hs ++ second) has.happens;
  left = has.left;
  others = others_before shape now has.rest second has.others;
  spent = λ e. spent_before shape (run ++ has.more) has.rest second (has.spent e);
}

-- more happens, right after that
pub then_made : (shape : Shape) (middle now : World) (run : Run) (slots : List (Option Message)) (first second : List Happening) (result : Result (Unit {0}) Refused) →
    (has : HasMade shape middle run first slots) → AreMade shape now (run ++ has.more) second (messages_in middle.mail) result →
    AreMade shape now run (first ++ second) slots result
then_made shape middle now run slots first second (Ok done) has next = record {
  more = has.more ++ next.more;
  made = map-append (λ e. e.0) has.more next.more ∙ ap (λ (hs : List Happening). hs ++ happened next.more) has.made ∙ ap (λ (hs : List Happening). first ++ hs) next.made;
  sound = subst (λ r. IsSound shape now r) (append_assoc run has.more next.more) next.sound;
  emitted = has.emitted ++ next.emitted;
  emits = ap (λ (r : Run). (moment_after shape r).packets) (sym (append_assoc run has.more next.more)) ∙ next.emits
      ∙ ap (λ (ms : List Message). ms ++ next.emitted) has.emits ∙ append_assoc (moment_after shape run).packets has.emitted next.emitted;
  slots = next.slots
      ∙ ap (λ (kept : List (Option Message)). kept ++ map (to_living (living_in shape)) next.emitted) has.slots
      ∙ append_assoc slots (map (to_living (living_in shape)) has.emitted) (map (to_living (living_in shape)) next.emitted)
      ∙ ap (λ (kept : List (Option Message)). slots ++ kept) (sym (map-append (to_living (living_in shape)) has.emitted next.emitted));
}
then_made shape middle now run slots first second (Err refused) has next = record {
  more = has.more ++ next.more;
  rest = next.rest;
  happens = ap (λ (hs : List Happening). hs ++ next.rest) (map-append (λ e. e.0) has.more next.more) ∙ append_assoc (happened has.more) (happened next.more) next.rest
      ∙ ap (λ (hs : List Happening). hs ++ (happened next.more ++ next.rest)) has.made ∙ ap (λ (hs : List Happening). first ++ hs) next.happens;
  left = subst (λ r. IsLeftOf shape now r) (append_assoc run has.more next.more) next.left;
  others = next.others;
  spent = λ e. subst (λ r. IsFirstSpent shape r next.rest) (append_assoc run has.more next.more) (next.spent e);
}

-- the moment after a quiet moment was noted
quiet_after : (shape : Shape) (run : Run) (h : Happening) (mark : Bool) → h ≡ quiet →
    (lines_in shape (run ++ (h, mark) ∷ []) ≡ lines_in shape run) × ((moment_after shape (run ++ (h, mark) ∷ [])).is_quiet_now ≡ true)
unfolding after
quiet_after shape run h mark is =
    let on = (runs_go_on (system shape.nodes) shape run h mark).world ∙ ap (λ one. after (system shape.nodes) (moment_after shape run) one mark) is in
    (ap (λ (m : Moment). m.lines) on, ap (λ (m : Moment). m.is_quiet_now) on)

-- where a line waits, a quiet moment was noted last; no line was fed
pub quieted : (shape : Shape) (run more : Run) (waits : Bool) → happened more ≡ quiet_where waits →
    (lines_in shape (run ++ more) ≡ lines_in shape run) × (waits ≡ true → (moment_after shape (run ++ more)).is_quiet_now ≡ true)
quieted shape run [] true is = absurd cc
quieted shape run (one ∷ []) true is =
    let same : one.0 ≡ quiet = cc in
    let facts = quiet_after shape run one.0 one.1 same in (facts.0, λ e. facts.1)
quieted shape run (one ∷ other ∷ more) true is = absurd cc
quieted shape run [] false is = (ap (λ r. lines_in shape r) (append-nil run), λ e. absurd cc)
quieted shape run (one ∷ more) false is = absurd cc

-- the slots once a packet is forgotten
forgotten_slots : (mail : List (Option Packet)) (slots more : List (Option Message)) (id : ℕ) → 1 ≤ id → id - 1 < length slots → messages_in mail ≡ slots ++ more →
    messages_in (forgotten mail id) ≡ set slots (id - 1) None ++ more
forgotten_slots mail slots more id numbered within is =
    let some : eqb id 0 ≡ false = ne_eqb id 0 (λ e. absurd (omega arith)) in
    ap (λ (none : Bool). messages_in (cond none mail (set mail (id - 1) None))) some
    ∙ map-set (option_map message_of) mail (id - 1) None ∙ ap (λ (ms : List (Option Message)). set ms (id - 1) None) is ∙ set-append_left slots more (id - 1) None within

met_slots : (mail after : List (Option Packet)) (slots more : List (Option Message)) (gone : Bool) (id : ℕ) → 1 ≤ id → id - 1 < length slots →
    messages_in mail ≡ slots ++ more → after ≡ cond gone (forgotten mail id) mail →
    messages_in after ≡ slots_met gone slots id ++ more
met_slots mail after slots more true id numbered within is forgot = ap (λ (ps : List (Option Packet)). messages_in ps) forgot ∙ forgotten_slots mail slots more id numbered within is
met_slots mail after slots more false id numbered within is forgot = ap (λ (ps : List (Option Packet)). messages_in ps) forgot ∙ is

-- a packet that met its fate is forgotten, where it is gone
pub met_made : (shape : Shape) (before middle now : World) (run : Run) (handled gone told_handled told_gone : Bool) (id to : ℕ) →
    MayMeet shape before run id to → told_handled ≡ handled → told_gone ≡ gone →
    HasMade shape middle run (cond told_handled (handle to id ∷ []) []) (messages_in before.mail) →
    now.mail ≡ cond told_gone (forgotten middle.mail id) middle.mail →
    ((size : Shape) (past : Run) → IsSound size middle past → IsSound size now past) →
    HasMade shape now run (cond handled (handle to id ∷ []) []) (slots_met gone (messages_in before.mail) id)
met_made shape before middle now run handled gone told_handled told_gone id to may same_handled same_gone has mail sound =
    let within : id - 1 < length before.mail = some_within before.mail (id - 1) may.kept in
    let inside : id - 1 < length (messages_in before.mail) = omega (arith, length-map before.mail (option_map message_of)) in
    let is : now.mail ≡ cond gone (forgotten middle.mail id) middle.mail = mail ∙ ap (λ b. cond b (forgotten middle.mail id) middle.mail) same_gone in
    record {
      more = has.more;
      made = has.made ∙ ap (λ (b : Bool). cond b (handle to id ∷ []) []) same_handled;
      sound = sound shape (run ++ has.more) has.sound;
      emitted = has.emitted;
      emits = has.emits;
      slots = met_slots middle.mail now.mail (messages_in before.mail) (map (to_living (living_in shape)) has.emitted) gone id may.may.numbered inside has.slots is;
    }
