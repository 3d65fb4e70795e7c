-- Which lines a run feeds that is made turn by turn.
use Rattle.std.proofs.Common.{◌≡◌, ℕ, zero, suc, ◌+◌, ◌-◌, ◌&&◌, ◌==◌, cond, Bool, true, false, not, List, [], ◌∷◌, ◌++◌, length, map, drop, Option, Some, None, slice_get, refl, sym, ap, subst, ◌∙◌, arith}
use Rattle.std.specs.List.{AllByRecursion, enumerate_from, flat_map, fold}
use Rattle.std.proofs.lemmas.Bool.{and_parts, eqb-true}
use Rattle.std.proofs.lemmas.List.{append-nil, append_assoc, length-append}
use Rattle.std.proofs.lemmas.List.FromFn.{length-enumerate_from}
use Rattle.std.proofs.lemmas.Grind.{flat_map-append}
use Rattle.cl_endpoint.specs.Endpoint.{set_number}
use Rattle.cl_roster.specs.declared.entry.RosterEntry.{RosterEntry}
use Rattle.cl_runs.specs.World.{Cores, Happening, handle, note, feed, quiet, Run, Shape, World, after, after_event, after_handling, after_noting, first_world, world_after}
use Rattle.cl_schedule.specs.Course.{Candidate, Course, candidates, is_quiet, line, must_wait, next_line, or_else, packet, packets_from, time, waiting_actors}
use Rattle.cl_schedule.specs.Schedule.{to_happen}
use Rattle.cl_schedule.specs.Turns.{AreTurns, FatesOf, IsTurn, events_of, first_course, is_handled, is_over, left_after, lines_in, next_events, taken}
use Rattle.cl_schedule.specs.declared.setting.Setting.{Setting}
use Rattle.cl_members.specs.Members.{feeds_in, feeds_of}
use Rattle.cl_system.specs.System.{system}
use Rattle.cl_wire.specs.Message.{Message}
use Rattle.cl_world.specs.Running.{happened}
use Rattle.cl_world.specs.World.{Moment, moment_after}

-- how many lines were fed

handled_lines : {S : Type 0} (cores : Cores S) (world : World S) (actor : ℕ) (mark : Bool) (m : Option Message) →
    (after_handling cores world actor mark m).lines ≡ world.lines
handled_lines cores world actor mark None = refl
handled_lines cores world actor mark (Some m) = refl

noted_lines : {S : Type 0} (cores : Cores S) (world : World S) (actor : ℕ) (next : Option RosterEntry) → (after_noting cores world actor next).lines
    ≡ world.lines
noted_lines cores world actor None = refl
noted_lines cores world actor (Some entry) = refl

event_lines : {S : Type 0} (cores : Cores S) (world : World S) (happening : Happening) (mark : Bool) →
    (after cores world happening mark).lines ≡ world.lines + length (feeds_of happening)
unfolding after
event_lines cores world (handle actor id) mark = handled_lines cores world actor mark (slice_get world.packets (id - 1)) ∙ omega arith
event_lines cores world (note actor) mark = noted_lines cores world actor (slice_get world.roster (set_number (world.actors actor).endpoint)) ∙ omega arith
event_lines cores world (feed number text said) mark = refl
event_lines cores world other mark = omega arith

run_lines : {S : Type 0} (cores : Cores S) (world : World S) (run : Run) → (fold (after_event cores) world run).lines ≡ world.lines + length (feeds_in run)
run_lines cores world [] = omega arith
run_lines cores world (event ∷ run) =
    let rest = run_lines cores (after cores world event.0 event.1) run in
    let one = event_lines cores world event.0 event.1 in
    let size = length-append (feeds_of event.0) (feeds_in run) in
    rest ∙ omega (arith, one, size)

-- as many lines were fed as a run feeds
lines_fed : (shape : Shape) (run : Run) → lines_in shape run ≡ length (feeds_in run)
unfolding world_after
lines_fed shape run = let lines = run_lines (system shape.nodes) (first_world (system shape.nodes) shape) run in lines ∙ omega arith

-- what happened says which lines were fed
feeds_happened : (run : Run) → feeds_in run ≡ flat_map feeds_of (happened run)
feeds_happened [] = refl
feeds_happened (event ∷ run) = ap (λ rest. feeds_of event.0 ++ rest) (feeds_happened run)

feeds_more : (run more : Run) → feeds_in (run ++ more) ≡ feeds_in run ++ flat_map feeds_of (happened more)
feeds_more run more = flat_map-append (λ event. feeds_of event.0) run more ∙ ap (λ rest. feeds_in run ++ rest) (feeds_happened more)

-- a line that is a candidate is the first that is left

abbrev pub IsFirstLeft : List (List ℕ) → Candidate → Type 0
IsFirstLeft left (packet id to) = Unit {0}
IsFirstLeft left (line text) = (rest : List (List ℕ)) × (left ≡ text ∷ rest)
IsFirstLeft left (time actor) = Unit {0}

abbrev pub AreFirstLeft : List (List ℕ) → List Candidate → Type 0
AreFirstLeft left candidates = AllByRecursion (IsFirstLeft left) candidates

both_left : (left : List (List ℕ)) (xs ys : List Candidate) → AreFirstLeft left xs → AreFirstLeft left ys → AreFirstLeft left (xs ++ ys)
both_left left [] ys first second = second
both_left left (x ∷ xs) ys first second = (first.0, both_left left xs ys first.1 second)

if_left : (left : List (List ℕ)) (b : Bool) (id to : ℕ) (rest : List Candidate) → AreFirstLeft left rest → AreFirstLeft left (cond b (packet id to ∷ rest) rest)
if_left left true id to rest are = (tt, are)
if_left left false id to rest are = are

packets_left : (left : List (List ℕ)) (moment : Moment) (number : ℕ) (slots : List (Option Message)) → AreFirstLeft left (packets_from moment number slots)
unfolding packets_from
packets_left left moment number [] = tt
packets_left left moment number (None ∷ slots) = packets_left left moment (suc number) slots
packets_left left moment number (Some m ∷ slots) = if_left left _ number m.to _ (packets_left left moment (suc number) slots)

line_left : (waits : Bool) (text : List ℕ) (left : List (List ℕ)) → AreFirstLeft (text ∷ left) (cond waits [] (line text ∷ []))
line_left true text left = tt
line_left false text left = ((left, refl), tt)

next_left : (step quiet_now : Bool) (left : List (List ℕ)) → AreFirstLeft left (next_line step quiet_now left)
next_left step quiet_now [] = tt
next_left step quiet_now (text ∷ left) = line_left (must_wait step text && not quiet_now) text left

times_left : (left : List (List ℕ)) (actors : List ℕ) → AreFirstLeft left (map time actors)
times_left left [] = tt
times_left left (actor ∷ actors) = (tt, times_left left actors)

else_left : (left : List (List ℕ)) (first : List Candidate) (quiet_now : Bool) (others : List Candidate) → AreFirstLeft left first →
    AreFirstLeft left others → AreFirstLeft left (or_else first quiet_now others)
else_left left [] true others are more = tt
else_left left [] false others are more = more
else_left left (first ∷ rest) quiet_now others are more = are

candidates_left : (shape : Shape) (setting : Setting) (course : Course) → AreFirstLeft course.left (candidates shape setting course)
candidates_left shape setting course =
    let moment : Moment = moment_after shape course.run in
    else_left course.left (packets_from moment 1 course.slots ++ next_line setting.step (is_quiet shape moment) course.left) (is_quiet shape moment)
    (waiting_actors shape moment)
    (both_left course.left (packets_from moment 1 course.slots) (next_line setting.step (is_quiet shape moment) course.left)
    (packets_left course.left moment 1 course.slots) (next_left setting.step (is_quiet shape moment) course.left))
    (times_left course.left _)

abbrev pub IsTakenLeft : List (List ℕ) → Option Candidate → Type 0
IsTakenLeft left None = Unit {0}
IsTakenLeft left (Some candidate) = IsFirstLeft left candidate

at_left : (left : List (List ℕ)) (all : List Candidate) (place : ℕ) → AreFirstLeft left all → IsTakenLeft left (slice_get all place)
at_left left [] place are = tt
at_left left (first ∷ rest) zero are = are.0
at_left left (first ∷ rest) (suc place) are = at_left left rest place are.1

taken_left : (shape : Shape) (setting : Setting) (course : Course) → IsTakenLeft course.left (taken shape setting course)
taken_left shape setting course = at_left course.left (candidates shape setting course) _ (candidates_left shape setting course)

-- what a turn feeds

enumerate-append : (n : ℕ) (xs ys : List (List ℕ)) → enumerate_from n (xs ++ ys) ≡ enumerate_from n xs ++ enumerate_from (n + length xs) ys
enumerate-append n [] ys = let same : n ≡ n + 0 = omega arith in ap (λ k. enumerate_from k ys) same
enumerate-append n (x ∷ xs) ys =
    let same : n + 1 + length xs ≡ n + length (x ∷ xs) = omega arith in
    ap (λ rest. (n, x) ∷ rest) (enumerate-append (n + 1) xs ys ∙ ap (λ k. enumerate_from (n + 1) xs ++ enumerate_from k ys) same)

-- the lines that were fed are the first, and the others are left
pub record FedSoFar (lines : List (List ℕ)) (course : Course) : Type 0 where
  pub front : List (List ℕ)
  pub split : lines ≡ front ++ course.left
  pub feeds : feeds_in course.run ≡ enumerate_from 1 front

-- what a turn that takes this feeds
abbrev pub fed_by : ℕ → Option Candidate → List (ℕ × List ℕ)
fed_by lines None = []
fed_by lines (Some (packet id to)) = []
fed_by lines (Some (line text)) = (lines + 1, text) ∷ []
fed_by lines (Some (time actor)) = []

handled_feeds : (to id : ℕ) (b : Bool) → flat_map feeds_of (cond b (handle to id ∷ []) []) ≡ []
handled_feeds to id true = refl
handled_feeds to id false = refl

waited_feeds : (number : ℕ) (text : List ℕ) (b : Bool) → flat_map feeds_of (cond b (quiet ∷ feed number text [] ∷ []) (feed number text [] ∷ [])) ≡
    (number, text) ∷ []
waited_feeds number text true = refl
waited_feeds number text false = refl

events_feed : (step : Bool) (fates : FatesOf) (course : Course) (lines : ℕ) (takes : Option Candidate) →
    flat_map feeds_of (events_of step fates course lines takes) ≡ fed_by lines takes
events_feed step fates course lines None = refl
events_feed step fates course lines (Some (packet id to)) = handled_feeds to id (is_handled (fates id (course.asked id)))
events_feed step fates course lines (Some (line text)) = waited_feeds (lines + 1) text (must_wait step text)
events_feed step fates course lines (Some (time actor)) = refl

-- so many lines were fed
count_fed : (shape : Shape) (lines : List (List ℕ)) (course : Course) (so_far : FedSoFar lines course) → lines_in shape course.run ≡ length so_far.front
count_fed shape lines course so_far = lines_fed shape course.run ∙ ap length so_far.feeds ∙ length-enumerate_from 1 so_far.front

fed_turn : (lines : List (List ℕ)) (before after : Course) (takes : Option Candidate) (count : ℕ) (so_far : FedSoFar lines before) →
    count ≡ length so_far.front → IsTakenLeft before.left takes →
    feeds_in after.run ≡ feeds_in before.run ++ fed_by count takes → after.left ≡ left_after before takes → FedSoFar lines after
fed_turn lines before after None count so_far counted is feeds left = record {
  front = so_far.front;
  split = so_far.split ∙ ap (λ rest. so_far.front ++ rest) (sym left);
  feeds = feeds ∙ append-nil (feeds_in before.run) ∙ so_far.feeds;
}
fed_turn lines before after (Some (packet id to)) count so_far counted is feeds left = record {
  front = so_far.front;
  split = so_far.split ∙ ap (λ rest. so_far.front ++ rest) (sym left);
  feeds = feeds ∙ append-nil (feeds_in before.run) ∙ so_far.feeds;
}
fed_turn lines before after (Some (line text)) count so_far counted is feeds left =
    let number : count + 1 ≡ 1 + length so_far.front = omega (arith, counted) in
    record {
      front = so_far.front ++ text ∷ [];
      split = so_far.split ∙ ap (λ rest. so_far.front ++ rest) (is.1 ∙ ap (λ rest. text ∷ rest) (sym (left ∙ ap (drop 1) is.1)))
          ∙ sym (append_assoc so_far.front (text ∷ []) after.left);
      feeds = feeds ∙ ap (λ all. all ++ (count + 1, text) ∷ []) so_far.feeds ∙ ap (λ n. enumerate_from 1 so_far.front ++ (n, text) ∷ []) number
          ∙ sym (enumerate-append 1 so_far.front (text ∷ []));
    }
fed_turn lines before after (Some (time actor)) count so_far counted is feeds left = record {
  front = so_far.front;
  split = so_far.split ∙ ap (λ rest. so_far.front ++ rest) (sym left);
  feeds = feeds ∙ append-nil (feeds_in before.run) ∙ so_far.feeds;
}

-- what happens feeds so many lines
happened_feeds : (shape : Shape) (setting : Setting) (fates : FatesOf) (course : Course) (made : Run) → happened made ≡ next_events shape setting fates course →
    flat_map feeds_of (happened made) ≡ fed_by (lines_in shape course.run) (taken shape setting course)
happened_feeds shape setting fates course made happens =
    ap (flat_map feeds_of) happens ∙ events_feed setting.step fates course (lines_in shape course.run) (taken shape setting course)

-- turn after turn
pub turns_feed : (shape : Shape) (setting : Setting) (fates : FatesOf) (count : ℕ) (lines : List (List ℕ)) (last : Course) →
    AreTurns shape setting fates count (first_course [] [] lines) last → FedSoFar lines last
unfolding AreTurns
turns_feed shape setting fates zero lines last turns = subst (λ (course : Course). FedSoFar lines course) turns (record { front = []; split = refl; feeds = refl })
turns_feed shape setting fates (suc n) lines last turns =
    let so_far : FedSoFar lines turns.0 = turns_feed shape setting fates n lines turns.0 turns.1 in
    let turn : IsTurn shape setting fates turns.0 last = turns.3 in
    fed_turn lines turns.0 last (taken shape setting turns.0) (lines_in shape turns.0.run) so_far (count_fed shape lines turns.0 so_far)
    (taken_left shape setting turns.0)
    (ap feeds_in turn.run ∙ feeds_more turns.0.run turn.made ∙ ap (λ rest. feeds_in turns.0.run ++ rest)
    (happened_feeds shape setting fates turns.0 turn.made turn.happens)) turn.left

-- what is to happen next feeds the first line that is left, or none

next_feeds : (left : List (List ℕ)) (count : ℕ) (takes : Option Candidate) → IsTakenLeft left takes →
    (rest : List (ℕ × List ℕ)) × (enumerate_from (count + 1) left ≡ fed_by count takes ++ rest)
next_feeds left count None is = (enumerate_from (count + 1) left, refl)
next_feeds left count (Some (packet id to)) is = (enumerate_from (count + 1) left, refl)
next_feeds left count (Some (line text)) is = (enumerate_from (count + 1 + 1) is.0, ap (enumerate_from (count + 1)) is.1)
next_feeds left count (Some (time actor)) is = (enumerate_from (count + 1) left, refl)

to_feed : (shape : Shape) (setting : Setting) (fates : FatesOf) (last : Course) (count : ℕ) (over : Bool) → lines_in shape last.run ≡ count →
    (rest : List (ℕ × List ℕ)) × (enumerate_from (count + 1) last.left ≡ flat_map feeds_of (to_happen shape setting fates last over) ++ rest)
to_feed shape setting fates last count true counted = (enumerate_from (count + 1) last.left, refl)
to_feed shape setting fates last count false counted =
    let next = next_feeds last.left count (taken shape setting last) (taken_left shape setting last) in (
      next.0,
      next.1 ∙ ap (λ fed. fed ++ next.0) (ap (λ n. fed_by n (taken shape setting last)) (sym counted)
          ∙ sym (events_feed setting.step fates last (lines_in shape last.run) (taken shape setting last))),
    )

-- the lines that the run feeds are the first lines
pub first_feeds : (shape : Shape) (setting : Setting) (fates : FatesOf) (count : ℕ) (lines : List (List ℕ)) (last : Course) (more : Run)
    (rest : List Happening) → AreTurns shape setting fates count (first_course [] [] lines) last →
    happened more ++ rest ≡ to_happen shape setting fates last (is_over shape last) →
    (others : List (ℕ × List ℕ)) × (enumerate_from 1 lines ≡ feeds_in (last.run ++ more) ++ others)
first_feeds shape setting fates count lines last more rest turns happens =
    let so_far : FedSoFar lines last = turns_feed shape setting fates count lines last turns in
    let fed : List (ℕ × List ℕ) = enumerate_from 1 so_far.front in
    let next = to_feed shape setting fates last (length so_far.front) (is_over shape last) (count_fed shape lines last so_far) in
    let number : 1 + length so_far.front ≡ length so_far.front + 1 = omega arith in
    let events : flat_map feeds_of (happened more) ++ flat_map feeds_of rest ≡ flat_map feeds_of (to_happen shape setting fates last (is_over shape last)) =
    sym (flat_map-append feeds_of (happened more) rest) ∙ ap (flat_map feeds_of) happens in
    let now : List (ℕ × List ℕ) = flat_map feeds_of (happened more) in
    let later : List (ℕ × List ℕ) = flat_map feeds_of rest in (
      later ++ next.0,
      ap (enumerate_from 1) so_far.split
          ∙ enumerate-append 1 so_far.front last.left
          ∙ ap (λ n. fed ++ enumerate_from n last.left) number
          ∙ ap (λ all. fed ++ all) (next.1 ∙ ap (λ all. all ++ next.0) (sym events) ∙ append_assoc now later next.0)
          ∙ sym (append_assoc fed now (later ++ next.0))
          ∙ ap (λ all. all ++ (later ++ next.0)) (sym (feeds_more last.run more ∙ ap (λ all. all ++ now) so_far.feeds)),
    )

-- a run that is over has fed them all

no_lines : (lines : List (List ℕ)) → (length lines == 0) ≡ true → lines ≡ []
no_lines [] none = refl
no_lines (first ∷ rest) none = let no = eqb-true (length (first ∷ rest)) 0 none in absurd (omega (arith, no))

pub all_fed : (shape : Shape) (setting : Setting) (fates : FatesOf) (count : ℕ) (lines : List (List ℕ)) (last : Course) (more : Run) →
    AreTurns shape setting fates count (first_course [] [] lines) last →
    is_over shape last ≡ true → happened more ≡ quiet ∷ [] → feeds_in (last.run ++ more) ≡ enumerate_from 1 lines
all_fed shape setting fates count lines last more turns over happens =
    let so_far : FedSoFar lines last = turns_feed shape setting fates count lines last turns in
    let none : last.left ≡ [] = no_lines last.left (and_parts (length last.left == 0) _ over).0 in
    feeds_more last.run more
    ∙ ap (λ all. feeds_in last.run ++ flat_map feeds_of all) happens
    ∙ append-nil (feeds_in last.run)
    ∙ so_far.feeds
    ∙ ap (enumerate_from 1) (sym (so_far.split ∙ ap (λ left. so_far.front ++ left) none ∙ append-nil so_far.front))
