-- One event more of a list of events.
use Rattle.std.proofs.Common.{◌≡◌, ℕ, zero, suc, ◌+◌, ◌-◌, ◌<◌, ◌||◌, Bool, true, false, cond, eqb, ltb, List, [], ◌∷◌, ◌++◌, length, map, Option, Some, None, ◌≤◌, ◌⊎◌, IsSome, add-one, drop, get_or, slice_get, unwrap_or, inl, inr, refl, sym, ap, subst, ◌∙◌, arith, append_assoc}
use Rattle.std.specs.List.{All, fold}
use Rattle.std.proofs.Math.Seq.{drop-cons}
use Rattle.std.proofs.Math.ListN.{drop_of_length-le}
use Rattle.std.proofs.lemmas.Bool.{eq-eqb, lt-ltb}
use Rattle.std.proofs.lemmas.List.{append-nil, map-append}
use Rattle.std.proofs.lemmas.List.Elements.{All-cons, All-tail}
use Rattle.cl_cluster.specs.Laws.{EveryInputFits}
use Rattle.cl_post.specs.declared.event.Event.{Event}
use Rattle.cl_post.specs.declared.event.Event.TheVariants as events
use Rattle.cl_ranges.specs.Spent.{is_spent, IsUnspentRun}
use Rattle.cl_roster.specs.declared.entry.RosterEntry.{RosterEntry}
use Rattle.cl_runs.specs.World.{Shape, Run, Happening, IsLiving, IsEnabled, MayHandle, EachMayHappen, after_event, first_world, world_after}
use Rattle.cl_runs.specs.Laws.{GoesOn}
use Rattle.cl_runs.proofs.Runs.{runs_go_on, runs_are_wide}
use Rattle.cl_steps.specs.declared.actors.TheConstants.{FRONT}
use Rattle.cl_system.specs.System.{system}
use Rattle.cl_types.specs.declared.answers.Refused.{Refused}
use Rattle.cl_types.specs.declared.answers.Refused.TheVariants.{NoMemory, Spent}
use Rattle.cl_wire.specs.declared.packet.Packet.{Packet}
use Rattle.cl_wire.specs.Message.{Message}
use Rattle.cl_world.specs.Happenings.{happening_of}
use Rattle.cl_world.specs.Mail.{AreKept, IsNotForgotten, IsStillKept, is_living, messages_in, to_living}
use Rattle.cl_world.specs.Running.{MayFollow, MayRun, HasRun, HasStopped, IsLeftOf, AreOthersOf, IsNextSpent, happened}
use Rattle.cl_world.specs.Taking.{KeepsEmitted, MayTake, HasTaken, HasLost, HasDropped, IsLeftAt}
use Rattle.cl_world.specs.World.{Moment, IsWorldOf, IsAt, IsWhole, living_in, moment_after}
use Rattle.cl_world.specs.declared.world.World.{World}

either : (b : Bool) → (b || true) ≡ true
either true = refl
either false = refl

-- who lives passes the test
lives_by_test : (shape : Shape) (roster : List RosterEntry) (actor : ℕ) → IsLiving shape roster actor → is_living (living_in shape) actor ≡ true
lives_by_test shape roster actor lives =
    elim lives [
      | inl here ↦ ap (λ b. b || ltb actor (living_in shape)) (eq-eqb actor FRONT here)
      | inr within ↦ ap (λ b. eqb actor FRONT || b) (lt-ltb actor (living_in shape) within.0) ∙ either (eqb actor FRONT)
    ]

-- a packet that is not forgotten, and may be handled, is kept
still_kept : (shape : Shape) (made : World) (moment : Moment) (event : Event) → IsEnabled (system shape.nodes) shape moment (happening_of event) →
    IsNotForgotten (living_in shape) made.mail moment.packets event → IsStillKept made.mail event
still_kept shape made moment (events.Handle actor id) may kept =
    let handles : MayHandle shape moment actor id = may.widely in
    kept handles.packet handles.emitted (subst (λ a. is_living (living_in shape) a ≡ true) (sym handles.addressed)
    (lives_by_test shape moment.roster actor handles.lives))
still_kept shape made moment (events.Tick actor) may kept = tt
still_kept shape made moment (events.Feed number text said) may kept = tt
still_kept shape made moment events.Quiet may kept = tt

-- a packet that was just emitted
fresh : (living : ℕ) (more : List Message) (index : ℕ) (m : Message) → slice_get more index ≡ Some m → is_living living m.to ≡ true → IsSome (get_or (map (to_living living) more) index None)
fresh living [] index m is lives = absurd cc
fresh living (one ∷ more) zero m is lives =
    let same : one ≡ m = ap (λ found. unwrap_or found one) is in
    let e : is_living living one.to ≡ true = ap (λ x. is_living living x.to) same ∙ lives in
    subst (λ b. IsSome (cond b (Some one) None)) (sym e) refl
fresh living (one ∷ more) (suc index) m is lives = fresh living more index m is lives

-- what is kept stays so while more is emitted
stays : (living : ℕ) (slots : List (Option Message)) (emitted more : List Message) (index : ℕ) (m : Message) → AreKept slots emitted → (slice_get emitted index ≡ Some m → IsSome (get_or slots index None)) →
    slice_get (emitted ++ more) index ≡ Some m → is_living living m.to ≡ true → IsSome (get_or (slots ++ map (to_living living) more) index None)
stays living [] [] more index m kept was is lives = fresh living more index m is lives
stays living [] (one ∷ emitted) more index m kept was is lives = absurd kept
stays living (slot ∷ slots) [] more index m kept was is lives = absurd kept
stays living (slot ∷ slots) (one ∷ emitted) more zero m kept was is lives = was is
stays living (slot ∷ slots) (one ∷ emitted) more (suc index) m kept was is lives = stays living slots emitted more index m kept.1 was is lives

some_message : (slots : List (Option Packet)) (index : ℕ) → IsSome (get_or slots index None) → IsSome (get_or (messages_in slots) index None)
some_message [] index is = is
some_message (None ∷ slots) zero is = is
some_message (Some packet ∷ slots) zero is = refl
some_message (slot ∷ slots) (suc index) is = some_message slots index is

some_packet : (slots : List (Option Packet)) (index : ℕ) → IsSome (get_or (messages_in slots) index None) → IsSome (get_or slots index None)
some_packet [] index is = is
some_packet (None ∷ slots) zero is = is
some_packet (Some packet ∷ slots) zero is = refl
some_packet (slot ∷ slots) (suc index) is = some_packet slots index is

-- a packet that is kept is not forgotten
not_forgotten_now : (living : ℕ) (slots : List (Option Packet)) (emitted : List Message) (event : Event) → IsStillKept slots event → IsNotForgotten living slots emitted event
not_forgotten_now living slots emitted (events.Handle actor id) kept = λ m is lives. kept
not_forgotten_now living slots emitted (events.Tick actor) kept = tt
not_forgotten_now living slots emitted (events.Feed number text said) kept = tt
not_forgotten_now living slots emitted events.Quiet kept = tt

-- an event that is enabled may be made alone
pub may_run_one : (shape : Shape) (made : World) (run : Run) (event : Event) → IsWorldOf shape made run → IsWhole shape made → IsEnabled (system shape.nodes) shape (moment_after shape run) (happening_of event) → IsStillKept made.mail event →
    MayRun shape made run (event ∷ [])
unfolding MayFollow
may_run_one shape made run event is whole enabled kept =
    let one = not_forgotten_now (living_in shape) made.mail (moment_after shape run).packets event kept in
    record {
      is = is;
      whole = whole;
      follow = (enabled, λ mark. tt);
      kept = All-cons (IsNotForgotten (living_in shape) made.mail (moment_after shape run).packets) event [] one (λ k d within. absurd (omega arith));
    }

-- no event is forgotten by one that was made
not_forgotten_on : (shape : Shape) (before after : World) (from to : Moment) (event : Event) → AreKept (messages_in before.mail) from.packets → KeepsEmitted shape before after from to →
    IsNotForgotten (living_in shape) before.mail from.packets event → IsNotForgotten (living_in shape) after.mail to.packets event
not_forgotten_on shape before after from to (events.Handle actor id) kept keeps was =
    λ m is lives. some_packet after.mail (id - 1) (subst (λ slots. IsSome (get_or slots (id - 1) None)) (sym keeps.kept)
    (stays (living_in shape) (messages_in before.mail) from.packets keeps.more (id - 1) m kept (λ there. some_message before.mail (id - 1) (was m there lives))
    (subst (λ packets. slice_get packets (id - 1) ≡ Some m) keeps.emitted is) lives))
not_forgotten_on shape before after from to (events.Tick actor) kept keeps was = tt
not_forgotten_on shape before after from to (events.Feed number text said) kept keeps was = tt
not_forgotten_on shape before after from to events.Quiet kept keeps was = tt

-- the first event may be made
pub first_may : EveryInputFits → (shape : Shape) (made : World) (run : Run) (event : Event) (rest : List Event) → MayRun shape made run (event ∷ rest) → MayTake shape made (moment_after shape run) event
unfolding MayFollow
first_may every_input_fits shape made run event rest may =
    let enabled : IsEnabled (system shape.nodes) shape (moment_after shape run) (happening_of event) = may.follow.0 in
    record {
      whole = may.whole;
      enabled = enabled;
      fits = every_input_fits shape run (happening_of event) may.is.now.size (runs_are_wide (system shape.nodes) shape run may.is.is_run) enabled.widely;
      kept = still_kept shape made (moment_after shape run) event enabled (may.kept 0 event (omega arith));
    }

goes_on : (shape : Shape) (run : Run) (event : Event) (mark : Bool) → GoesOn (system shape.nodes) shape run (happening_of event) mark
goes_on shape run event mark = runs_go_on (system shape.nodes) shape run (happening_of event) mark

-- ---- no step is spent

push_each : {W E : Type 0} (P : W → E → Type 0) (next : W → E → W) (events : List E) (state : W) (event : E) → EachMayHappen P next events state →
    P (fold next state events) event → EachMayHappen P next (events ++ event ∷ []) state
push_each P next [] state event each last = (last, tt)
push_each P next (first ∷ events) state event each last = (each.0, push_each P next events (next state first) event each.1 last)

-- a run of which no step is spent, with one event more that is not
unspent_on : (shape : Shape) (run : Run) (happening : Happening) (mark : Bool) → IsUnspentRun shape run →
    is_spent (moment_after shape run) happening mark ≡ false → IsUnspentRun shape (run ++ (happening, mark) ∷ [])
unfolding IsUnspentRun world_after
unspent_on shape run happening mark unspent last =
    push_each (λ (world : Moment) (event : Happening × Bool). is_spent world event.0 event.1 ≡ false) (after_event (system shape.nodes)) run
    (first_world (system shape.nodes) shape) (happening, mark) unspent last

-- the run with one event more
abbrev pub with_event : Run → Event → Bool → Run
with_event run event mark = run ++ (happening_of event, mark) ∷ []

-- what is kept over the next event
next_keeps : (shape : Shape) (before after : World) (run : Run) (event : Event) (taken : HasTaken shape before after (moment_after shape run) event) →
    KeepsEmitted shape before after (moment_after shape run) (moment_after shape (with_event run event taken.mark))
next_keeps shape before after run event taken =
    subst (λ m. KeepsEmitted shape before after (moment_after shape run) m) (sym (goes_on shape run event taken.mark).world) taken.keeps

-- the rest may be made after it
pub rest_may : (shape : Shape) (before after : World) (run : Run) (event : Event) (rest : List Event) → MayRun shape before run (event ∷ rest) → (taken : HasTaken shape before after (moment_after shape run) event) →
    MayRun shape after (with_event run event taken.mark) rest
unfolding MayFollow
rest_may shape before after run event rest may taken =
    let on = goes_on shape run event taken.mark in
    let tail : All (IsNotForgotten (living_in shape) before.mail (moment_after shape run).packets) rest = All-tail (IsNotForgotten (living_in shape) before.mail (moment_after shape run).packets) event rest may.kept in
    record {
      is = record {
        is_run = on.enabled.1 (may.is.is_run, may.follow.0);
        unspent = unspent_on shape run (happening_of event) taken.mark may.is.unspent taken.unspent;
        trace = taken.trace ∙ ap (λ (r : Run). with_event r event taken.mark) may.is.trace;
        now = subst (λ m. IsAt shape after m) (sym on.world) taken.now;
      };
      whole = taken.whole;
      follow = subst (λ m. MayFollow shape m rest) (sym on.world) (may.follow.1 taken.mark);
      kept = λ k d within. not_forgotten_on shape before after (moment_after shape run) (moment_after shape (with_event run event taken.mark)) (get_or rest k d) may.is.now.mail
          (next_keeps shape before after run event taken) (tail k d within);
    }

-- what is kept over two parts of a run
keeps_on : (shape : Shape) (a b c : World) (x y z : Moment) → KeepsEmitted shape a b x y → KeepsEmitted shape b c y z → KeepsEmitted shape a c x z
keeps_on shape a b c x y z first second = record {
  more = first.more ++ second.more;
  emitted = second.emitted ∙ ap (λ (ms : List Message). ms ++ second.more) first.emitted ∙ append_assoc x.packets first.more second.more;
  kept = second.kept
      ∙ ap (λ (slots : List (Option Message)). slots ++ map (to_living (living_in shape)) second.more) first.kept
      ∙ append_assoc (messages_in a.mail) (map (to_living (living_in shape)) first.more) (map (to_living (living_in shape)) second.more)
      ∙ ap (λ (slots : List (Option Message)). messages_in a.mail ++ slots) (sym (map-append (to_living (living_in shape)) first.more second.more));
}

-- how far the events are made
pub record IsRunning (shape : Shape) (initial now : World) (run : Run) (events rest : List Event) : Type 0 where
  pub more : Run
  pub made : happened more ++ map happening_of rest ≡ map happening_of events
  pub may : MayRun shape now (run ++ more) rest
  pub keeps : KeepsEmitted shape initial now (moment_after shape run) (moment_after shape (run ++ more))

-- none is made
pub begins : (shape : Shape) (initial : World) (run : Run) (events : List Event) → MayRun shape initial run events → IsRunning shape initial initial run events events
begins shape initial run events may =
    let same : run ≡ run ++ [] = sym (append-nil run) in
    let nothing : KeepsEmitted shape initial initial (moment_after shape run) (moment_after shape run)
    = record { more = []; emitted = sym (append-nil (moment_after shape run).packets); kept = sym (append-nil (messages_in initial.mail)) } in
    record {
      more = [];
      made = refl;
      may = subst (λ r. MayRun shape initial r events) same may;
      keeps = subst (λ r. KeepsEmitted shape initial initial (moment_after shape run) (moment_after shape r)) same nothing;
    }

-- the names of what was made, with one event more
made_more : (more : Run) (event : Event) (mark : Bool) (rest events : List Event) → happened more ++ map happening_of (event ∷ rest) ≡ map happening_of events → happened (with_event more event mark) ++ map happening_of rest ≡ map happening_of events
made_more more event mark rest events made =
    ap (λ (hs : List Happening). hs ++ map happening_of rest) (map-append (λ e. e.0) more ((happening_of event, mark) ∷ []))
    ∙ append_assoc (happened more) (happening_of event ∷ []) (map happening_of rest) ∙ made

-- one event more is made
pub runs : (shape : Shape) (initial before after : World) (run : Run) (events : List Event) (event : Event) (rest : List Event) (so_far : IsRunning shape initial before run events (event ∷ rest)) →
    HasTaken shape before after (moment_after shape (run ++ so_far.more)) event → IsRunning shape initial after run events rest
runs shape initial before after run events event rest so_far taken =
    let more : Run = with_event so_far.more event taken.mark in
    let same : with_event (run ++ so_far.more) event taken.mark ≡ run ++ more = append_assoc run so_far.more ((happening_of event, taken.mark) ∷ []) in
    record {
      more = more;
      made = made_more so_far.more event taken.mark rest events so_far.made;
      may = subst (λ r. MayRun shape after r rest) same (rest_may shape before after (run ++ so_far.more) event rest so_far.may taken);
      keeps = subst (λ r. KeepsEmitted shape initial after (moment_after shape run) (moment_after shape r)) same
          (keeps_on shape initial before after (moment_after shape run) (moment_after shape (run ++ so_far.more)) (moment_after shape (with_event (run ++ so_far.more) event taken.mark)) so_far.keeps
          (next_keeps shape before after (run ++ so_far.more) event taken));
    }

-- all are made
pub ends : (shape : Shape) (initial now : World) (run : Run) (events : List Event) → IsRunning shape initial now run events [] → HasRun shape initial now run events
ends shape initial now run events running = record {
  more = running.more;
  made = sym (append-nil (happened running.more)) ∙ running.made;
  is = running.may.is;
  whole = running.may.whole;
  keeps = running.keeps;
}

-- an event is refused
pub stops : (shape : Shape) (initial before after : World) (run : Run) (events : List Event) (event : Event) (rest : List Event) (refused : Refused) (so_far : IsRunning shape initial before run events (event ∷ rest)) →
    HasLost shape before after (moment_after shape (run ++ so_far.more)) event refused → HasStopped shape after run events refused
stops shape initial before after run events event rest refused so_far lost = record {
  more = so_far.more;
  rest = event ∷ rest;
  made = so_far.made;
  left = record { is_run = so_far.may.is.is_run; unspent = so_far.may.is.unspent; trace = lost.trace ∙ so_far.may.is.trace; left = lost.left };
  others = lost.others;
  spent = lost.spent;
}

-- where all are there, so are the others
others_of_all : (shape : Shape) (made : World) (rest : List Event) → IsWhole shape made → AreOthersOf shape made rest
others_of_all shape made [] whole = whole
others_of_all shape made (event ∷ rest) whole = record { front = λ ne. whole.front; members = λ k within ne. whole.members k within }

short_is_not_spent : (P : Type 0) (refused : Refused) → refused ≡ NoMemory → refused ≡ Spent → P
short_is_not_spent P refused short spent = absurd (cc (short, spent))

-- an event is made, but not all of its packets are kept
pub drops : (shape : Shape) (initial before after : World) (run : Run) (events : List Event) (event : Event) (rest : List Event) (refused : Refused) (so_far : IsRunning shape initial before run events (event ∷ rest)) →
    HasDropped shape before after (moment_after shape (run ++ so_far.more)) event refused → HasStopped shape after run events refused
unfolding MayFollow
drops shape initial before after run events event rest refused so_far dropped =
    let on = goes_on shape (run ++ so_far.more) event dropped.mark in
    let more : Run = with_event so_far.more event dropped.mark in
    let same : with_event (run ++ so_far.more) event dropped.mark ≡ run ++ more = append_assoc run so_far.more ((happening_of event, dropped.mark) ∷ []) in
    let left : IsLeftOf shape after (with_event (run ++ so_far.more) event dropped.mark) = record {
      is_run = on.enabled.1 (so_far.may.is.is_run, so_far.may.follow.0);
      unspent = unspent_on shape (run ++ so_far.more) (happening_of event) dropped.mark so_far.may.is.unspent dropped.unspent;
      trace = dropped.trace ∙ ap (λ (r : Run). with_event r event dropped.mark) so_far.may.is.trace;
      left = subst (λ m. IsLeftAt shape after m) (sym on.world) dropped.left;
    } in
    record {
      more = more;
      rest = rest;
      made = made_more so_far.more event dropped.mark rest events so_far.made;
      left = subst (λ r. IsLeftOf shape after r) same left;
      others = others_of_all shape after rest dropped.whole;
      spent = λ spent. short_is_not_spent (IsNextSpent (moment_after shape (run ++ more)) rest) refused dropped.short spent;
    }

-- the next event of a list, by its index
next_event : (list : List Event) (index : ℕ) (event : Event) → index < length list → event ≡ get_or list index event → drop index list ≡ event ∷ drop (index + 1) list
next_event list index event within is =
    drop-cons list index event within ∙ ap (λ (n : ℕ). get_or list index event ∷ drop n list) (sym (add-one index)) ∙ ap (λ (e : Event). e ∷ drop (index + 1) list) (sym is)

-- the event of an index may be made
pub turn_may : EveryInputFits → (shape : Shape) (initial now : World) (run : Run) (list : List Event) (index : ℕ) (event : Event) → index < length list → event ≡ get_or list index event →
    IsRunning shape initial now run list (drop index list) → (size : Shape) × (moment : Moment) × IsAt size now moment × MayTake size now moment event
turn_may fits shape initial now run list index event within is running =
    let here = subst (λ rest. IsRunning shape initial now run list rest) (next_event list index event within is) running in
    (shape, moment_after shape (run ++ here.more), here.may.is.now, first_may fits shape now (run ++ here.more) event (drop (index + 1) list) here.may)

-- and was made
pub turn_made : EveryInputFits → (shape : Shape) (initial now after : World) (run : Run) (list : List Event) (index : ℕ) (event : Event) → index < length list → event ≡ get_or list index event →
    IsRunning shape initial now run list (drop index list) → ((size : Shape) (moment : Moment) → IsAt size now moment → MayTake size now moment event → HasTaken size now after moment event) →
    IsRunning shape initial after run list (drop (index + 1) list)
turn_made fits shape initial now after run list index event within is running took =
    let here = subst (λ rest. IsRunning shape initial now run list rest) (next_event list index event within is) running in
    let may = first_may fits shape now (run ++ here.more) event (drop (index + 1) list) here.may in
    runs shape initial now after run list event (drop (index + 1) list) here (took shape (moment_after shape (run ++ here.more)) here.may.is.now may)

-- or was refused
pub turn_refused : EveryInputFits → (shape : Shape) (initial now after : World) (run : Run) (list : List Event) (index : ℕ) (event : Event) (refused : Refused) → index < length list → event ≡ get_or list index event →
    IsRunning shape initial now run list (drop index list) →
    ((size : Shape) (moment : Moment) → IsAt size now moment → MayTake size now moment event → HasLost size now after moment event refused ⊎ HasDropped size now after moment event refused) →
    HasStopped shape after run list refused
turn_refused fits shape initial now after run list index event refused within is running took =
    let here = subst (λ rest. IsRunning shape initial now run list rest) (next_event list index event within is) running in
    let may = first_may fits shape now (run ++ here.more) event (drop (index + 1) list) here.may in
    elim (took shape (moment_after shape (run ++ here.more)) here.may.is.now may) [
      | inl lost ↦ stops shape initial now after run list event (drop (index + 1) list) refused here lost
      | inr dropped ↦ drops shape initial now after run list event (drop (index + 1) list) refused here dropped
    ]

-- all events were made
pub turns_end : (shape : Shape) (initial now : World) (run : Run) (list : List Event) (index : ℕ) → length list ≤ index → IsRunning shape initial now run list (drop index list) → HasRun shape initial now run list
turns_end shape initial now run list index past running =
    ends shape initial now run list (subst (λ rest. IsRunning shape initial now run list rest) (drop_of_length-le list past) running)
