-- What a turn may take.
use Rattle.std.proofs.Common.{◌≡◌, ℕ, zero, suc, ◌+◌, ◌-◌, ◌<◌, ◌≤◌, leb, ltb, eqb, Bool, true, false, cond, ◌&&◌, not, List, [], ◌∷◌, ◌++◌, length, map, get_or, Option, Some, None, IsSome, is_some, slice_get, add-one, inl, inr, refl, sym, ap, subst, ◌∙◌, arith}
use Rattle.std.specs.List.{All}
use Rattle.std.proofs.lemmas.Bool.{eqb-true, le-leb, leb-true, ltb-true, or_cases}
use Rattle.std.proofs.lemmas.List.Elements.{All-append, All-cons, All-filter, All-head, All-map, All-nil, All-tail, All-weaker}
use Rattle.cl_cluster.proofs.EveryRun.{runs_are_pair_runs}
use Rattle.cl_endpoint.specs.Endpoint.{is_waiting, set_number}
use Rattle.cl_link.proofs.Indices.{All-slice_get}
use Rattle.cl_ranked.specs.Slots.{kept_from}
use Rattle.cl_roster.specs.Roster.{IsClusterSize}
use Rattle.cl_runs.specs.Queues.{watched_after}
use Rattle.cl_runs.specs.World.{Shape, Run, IsLiving, IsRun, endpoints_of}
use Rattle.cl_runs.proofs.Runs.{packets_are_faithful, runs_are_wide, watching_leaves_world}
use Rattle.cl_runs.specs.Laws.{IsFaithful}
use Rattle.cl_steps.specs.declared.actors.TheConstants.{FRONT}
use Rattle.cl_system.specs.System.{system}
use Rattle.cl_wire.specs.Message.{Message, message_of}
use Rattle.cl_wire.specs.declared.packet.Packet.{Packet}
use Rattle.cl_world.specs.Mail.{AreKept, IsToLiving, is_living, messages_in}
use Rattle.cl_world.specs.World.{IsWorldOf, Moment, living_in, moment_after}
use Rattle.cl_world.specs.declared.world.World.{World}
use Rattle.cl_schedule.specs.Course.{Candidate, Course, packet, line, time, candidates, candidates_at, is_quiet, living, must_wait, next_line, or_else, packets_from, waiting_actors}
use Rattle.cl_schedule.specs.Making.{MayMeet, IsSound, packet_of, packets_in}
use Rattle.cl_schedule.specs.Turns.{place_in, taken}
use Rattle.cl_schedule.specs.declared.setting.Setting.{Setting}
use Rattle.cl_schedule.proofs.Notes.{some_within}
use Rattle.cl_schedule.proofs.Resting.{living_live}

-- nobody has noted anything of the roster
noted_none : (shape : Shape) (run : Run) → IsClusterSize shape.nodes shape.spares → IsRun (system shape.nodes) shape run → (actor : ℕ) →
    set_number ((moment_after shape run).actors actor).endpoint ≡ 0
noted_none shape run size is_run actor =
    let wide = runs_are_wide (system shape.nodes) shape run is_run in
    let pairs = runs_are_pair_runs shape run size wide in
    let same = watching_leaves_world (system shape.nodes) shape run in
    ap (λ (moment : Moment). set_number (moment.actors actor).endpoint) (sym same) ∙ ap (λ noted. length noted) (pairs.alike.noted actor)

-- so no packet was sent with anything noted
sent_noting_none : (shape : Shape) (run : Run) → IsClusterSize shape.nodes shape.spares → IsRun (system shape.nodes) shape run →
    All (λ m. m.set ≤ 0) (moment_after shape run).packets
sent_noting_none shape run size is_run =
    let faithful = packets_are_faithful (system shape.nodes) shape run size (runs_are_wide (system shape.nodes) shape run is_run) in
    All-weaker (IsFaithful (endpoints_of (moment_after shape run)) (watched_after (system shape.nodes) shape run).given) (λ m. m.set ≤ 0)
    (λ m is. let none = noted_none shape run size is_run m.from in let bound = is.set in omega arith)
    (moment_after shape run).packets faithful

-- the packet of the first slot may be handled, whoever has noted how much
first_packet : (moment : Moment) (slots : List (Option Message)) (p : Packet) (m : Message) (first : ℕ) (rest : List Candidate) → message_of p ≡ m → m.set ≤ 0 →
    packets_from moment (suc (suc first)) slots ≡ rest →
    packets_from moment (suc first) (Some (message_of p) ∷ slots) ≡ packet (first + 1) p.to ∷ rest
unfolding packets_from
first_packet moment slots p m first rest same none more =
    let bound : (message_of p).set ≤ set_number (moment.actors (message_of p).to).endpoint = subst (λ one. one.set ≤ set_number (moment.actors (message_of p).to).endpoint) (sym same) (omega arith) in
    let passes : leb (message_of p).set (set_number (moment.actors (message_of p).to).endpoint) ≡ true = le-leb _ _ bound in
    let taken_in : packets_from moment (suc first) (Some (message_of p) ∷ slots) ≡ packet (suc first) p.to ∷ packets_from moment (suc (suc first)) slots
    = ap (λ passed. cond passed (packet (suc first) p.to ∷ packets_from moment (suc (suc first)) slots) (packets_from moment (suc (suc first)) slots)) passes in
    taken_in ∙ ap (λ (n : ℕ). packet n p.to ∷ packets_from moment (suc (suc first)) slots) (sym (add-one first)) ∙ ap (λ (cs : List Candidate). packet (first + 1) p.to ∷ cs) more

-- each packet that is kept may be handled
packets_are : (moment : Moment) (slots : List (Option Packet)) (emitted : List Message) (first : ℕ) → AreKept (messages_in slots) emitted →
    All (λ m. m.set ≤ 0) emitted →
    packets_from moment (suc first) (messages_in slots) ≡ map packet_of (kept_from first slots)
unfolding packets_from kept_from
packets_are moment [] emitted first are none = refl
packets_are moment (slot ∷ slots) [] first are none = absurd are
packets_are moment (None ∷ slots) (m ∷ emitted) first are none = packets_are moment slots emitted (suc first) are.1 (All-tail (λ m. m.set ≤ 0) m emitted none)
packets_are moment (Some p ∷ slots) (m ∷ emitted) first are none =
    first_packet moment (messages_in slots) p m first (map packet_of (kept_from (suc first) slots)) are.0 (All-head (λ m. m.set ≤ 0) m emitted none)
    (packets_are moment slots emitted (suc first) are.1 (All-tail (λ m. m.set ≤ 0) m emitted none))

-- so they are the packets of the world
pub packets_of : (shape : Shape) (made : World) (run : Run) → IsWorldOf shape made run →
    packets_from (moment_after shape run) 1 (messages_in made.mail) ≡ packets_in made
packets_of shape made run is = packets_are (moment_after shape run) made.mail (moment_after shape run).packets 0 is.now.mail (sent_noting_none shape run is.now.size is.is_run)

-- a packet of some slots, where the first slot is that of this number
pub record IsIn (moment : Moment) (number : ℕ) (slots : List (Option Message)) (id to : ℕ) : Type 0 where
  pub index : ℕ
  pub m : Message
  pub numbered : id ≡ number + index
  pub at : get_or slots index None ≡ Some m
  pub goes : m.to ≡ to
  pub noted : m.set ≤ set_number (moment.actors to).endpoint

abbrev pub IsPacketIn : Moment → ℕ → List (Option Message) → Candidate → Type 0
IsPacketIn moment number slots (packet id to) = IsIn moment number slots id to
IsPacketIn moment number slots (line text) = ⊥
IsPacketIn moment number slots (time actor) = ⊥

in_longer : (moment : Moment) (number : ℕ) (slot : Option Message) (slots : List (Option Message)) (one : Candidate) →
    IsPacketIn moment (suc number) slots one → IsPacketIn moment number (slot ∷ slots) one
in_longer moment number slot slots (packet id to) is = record { index = suc is.index; m = is.m; numbered = is.numbered ∙ omega arith; at = is.at; goes = is.goes; noted = is.noted }
in_longer moment number slot slots (line text) is = absurd is
in_longer moment number slot slots (time actor) is = absurd is

in_where : (moment : Moment) (number : ℕ) (m : Message) (slots : List (Option Message)) (rest : List Candidate) (passes : Bool) →
    leb m.set (set_number (moment.actors m.to).endpoint) ≡ passes →
    All (IsPacketIn moment number (Some m ∷ slots)) rest → All (IsPacketIn moment number (Some m ∷ slots)) (cond passes (packet number m.to ∷ rest) rest)
in_where moment number m slots rest true is more =
    All-cons (IsPacketIn moment number (Some m ∷ slots)) (packet number m.to) rest
    (record { index = 0; m = m; numbered = omega arith; at = refl; goes = refl; noted = leb-true m.set (set_number (moment.actors m.to).endpoint) is }) more
in_where moment number m slots rest false is more = more

-- the packets that may be handled are of the slots
packets_are_in : (moment : Moment) (number : ℕ) (slots : List (Option Message)) → All (IsPacketIn moment number slots) (packets_from moment number slots)
unfolding packets_from
packets_are_in moment number [] = All-nil (IsPacketIn moment number [])
packets_are_in moment number (None ∷ slots) =
    All-weaker (IsPacketIn moment (suc number) slots) (IsPacketIn moment number (None ∷ slots)) (in_longer moment number None slots) (packets_from moment (suc number) slots) (packets_are_in moment (suc number) slots)
packets_are_in moment number (Some m ∷ slots) =
    in_where moment number m slots (packets_from moment (suc number) slots) (leb m.set (set_number (moment.actors m.to).endpoint)) refl
    (All-weaker (IsPacketIn moment (suc number) slots) (IsPacketIn moment number (Some m ∷ slots)) (in_longer moment number (Some m) slots) (packets_from moment (suc number) slots) (packets_are_in moment (suc number) slots))

-- the next line is the first of those that are left, and a moment for which it waits is quiet
pub record IsNextLine (step quiet_now : Bool) (left : List (List ℕ)) (text : List ℕ) : Type 0 where
  pub rest : List (List ℕ)
  pub first : left ≡ text ∷ rest
  pub waits : must_wait step text ≡ true → quiet_now ≡ true

-- what may be taken can be made
abbrev pub IsPossible : Shape → Bool → Moment → List (Option Message) → List (List ℕ) → Candidate → Type 0
IsPossible shape step moment slots left (packet id to) = IsIn moment 1 slots id to
IsPossible shape step moment slots left (line text) = IsNextLine step (is_quiet shape moment) left text
IsPossible shape step moment slots left (time actor) = IsLiving shape [] actor

packet_possible : (shape : Shape) (step : Bool) (moment : Moment) (slots : List (Option Message)) (left : List (List ℕ)) (one : Candidate) →
    IsPacketIn moment 1 slots one → IsPossible shape step moment slots left one
packet_possible shape step moment slots left (packet id to) is = is
packet_possible shape step moment slots left (line text) is = absurd is
packet_possible shape step moment slots left (time actor) is = absurd is

line_where : (shape : Shape) (step : Bool) (moment : Moment) (slots : List (Option Message)) (text : List ℕ) (left : List (List ℕ)) (waits quiet_now : Bool) →
    must_wait step text ≡ waits → is_quiet shape moment ≡ quiet_now →
    All (IsPossible shape step moment slots (text ∷ left)) (cond (waits && not quiet_now) [] (line text ∷ []))
line_where shape step moment slots text left true true waits is =
    All-cons (IsPossible shape step moment slots (text ∷ left)) (line text) [] (record { rest = left; first = refl; waits = λ e. is }) (All-nil (IsPossible shape step moment slots (text ∷ left)))
line_where shape step moment slots text left true false waits is = All-nil (IsPossible shape step moment slots (text ∷ left))
line_where shape step moment slots text left false quiet_now waits is =
    All-cons (IsPossible shape step moment slots (text ∷ left)) (line text) [] (record { rest = left; first = refl; waits = λ e. absurd (cc (e, waits)) }) (All-nil (IsPossible shape step moment slots (text ∷ left)))

line_possible : (shape : Shape) (step : Bool) (moment : Moment) (slots : List (Option Message)) (left : List (List ℕ)) →
    All (IsPossible shape step moment slots left) (next_line step (is_quiet shape moment) left)
line_possible shape step moment slots [] = All-nil (IsPossible shape step moment slots [])
line_possible shape step moment slots (text ∷ left) = line_where shape step moment slots text left (must_wait step text) (is_quiet shape moment) refl refl

times_possible : (shape : Shape) (step : Bool) (moment : Moment) (slots : List (Option Message)) (left : List (List ℕ)) →
    All (IsPossible shape step moment slots left) (waiting_actors shape moment)
times_possible shape step moment slots left =
    All-map (IsPossible shape step moment slots left) time _ (All-filter (λ actor. is_waiting (moment.actors actor).endpoint) (IsLiving shape [])
    (living shape) (living_live shape))

either_possible : (P : Candidate → Type 0) (firsts others : List Candidate) (quiet_now : Bool) → All P firsts → All P others →
    All P (or_else firsts quiet_now others)
either_possible P [] others true are rest = All-nil P
either_possible P [] others false are rest = rest
either_possible P (first ∷ more) others quiet_now are rest = are

-- whatever a turn may take can be made
all_possible : (shape : Shape) (step : Bool) (moment : Moment) (slots : List (Option Message)) (left : List (List ℕ)) →
    All (IsPossible shape step moment slots left) (candidates_at shape step moment slots left)
all_possible shape step moment slots left =
    let P : Candidate → Type 0 = IsPossible shape step moment slots left in
    either_possible P (packets_from moment 1 slots ++ next_line step (is_quiet shape moment) left) (waiting_actors shape moment) (is_quiet shape moment)
    (All-append P (packets_from moment 1 slots) (next_line step (is_quiet shape moment) left)
    (All-weaker (IsPacketIn moment 1 slots) P (packet_possible shape step moment slots left) (packets_from moment 1 slots) (packets_are_in moment 1 slots)) (line_possible shape step moment slots left))
    (times_possible shape step moment slots left)

-- so can what the next turn takes
pub taken_possible : (shape : Shape) (setting : Setting) (course : Course) (one : Candidate) → Some one ≡ taken shape setting course →
    IsPossible shape setting.step (moment_after shape course.run) course.slots course.left one
taken_possible shape setting course one is =
    All-slice_get (IsPossible shape setting.step (moment_after shape course.run) course.slots course.left) (candidates shape setting course)
    (place_in setting.seed (course.turns + 1) (length (candidates shape setting course))) one
    (all_possible shape setting.step (moment_after shape course.run) course.slots course.left) (sym is)

-- the message of a slot was emitted
kept_message : (slots : List (Option Message)) (emitted : List Message) (index : ℕ) (m : Message) → AreKept slots emitted → get_or slots index None ≡ Some m →
    slice_get emitted index ≡ Some m
kept_message [] emitted index m are at = absurd cc
kept_message (slot ∷ slots) [] index m are at = absurd are
kept_message (None ∷ slots) (one ∷ emitted) zero m are at = absurd cc
kept_message (Some here ∷ slots) (one ∷ emitted) zero m are at = let same : here ≡ one = are.0 in let is : here ≡ m = cc in ap (λ x. Some x) (sym same ∙ is)
kept_message (slot ∷ slots) (one ∷ emitted) (suc index) m are at = kept_message slots emitted index m are.1 at

living_from_test : (shape : Shape) (actor : ℕ) → is_living (living_in shape) actor ≡ true → IsLiving shape [] actor
living_from_test shape actor is =
    elim (or_cases (eqb actor FRONT) (ltb actor (living_in shape)) is)
    [ inl here ↦ inl (eqb-true actor FRONT here) | inr within ↦ inr (ltb-true actor (living_in shape) within, refl) ]

-- where a message is kept, its packet is
some_packet : (slots : List (Option Packet)) (index : ℕ) → IsSome (get_or (messages_in slots) index None) → IsSome (get_or slots index None)
some_packet [] index is = is
some_packet (None ∷ slots) zero is = is
some_packet (Some p ∷ slots) zero is = refl
some_packet (slot ∷ slots) (suc index) is = some_packet slots index is

-- a packet of the slots may be handled
pub may_meet : (shape : Shape) (made : World) (run : Run) (id to : ℕ) → IsSound shape made run → IsIn (moment_after shape run) 1 (messages_in made.mail) id to →
    MayMeet shape made run id to
may_meet shape made run id to sound is =
    let index : id - 1 ≡ is.index = let numbered = is.numbered in omega arith in
    let at : get_or (messages_in made.mail) (id - 1) None ≡ Some is.m = ap (λ n. get_or (messages_in made.mail) n None) index ∙ is.at in
    let some : IsSome (get_or (messages_in made.mail) (id - 1) None) = ap (λ (slot : Option Message). is_some slot) at in
    let within : id - 1 < length (messages_in made.mail) = some_within (messages_in made.mail) (id - 1) some in
    let lives : IsToLiving (living_in shape) (get_or (messages_in made.mail) (id - 1) None) = sound.is.now.living (id - 1) None within in
    let living_to : is_living (living_in shape) is.m.to ≡ true = subst (λ slot. IsToLiving (living_in shape) slot) at lives in
    record {
      sound = sound;
      kept = some_packet made.mail (id - 1) some;
      may = record {
        lives = subst (λ roster. IsLiving shape roster to) (sym sound.is.now.unstopped)
            (living_from_test shape to (ap (λ a. is_living (living_in shape) a) (sym is.goes) ∙ living_to));
        numbered = let numbered = is.numbered in omega arith;
        packet = is.m;
        emitted = kept_message (messages_in made.mail) (moment_after shape run).packets (id - 1) is.m sound.is.now.mail at;
        addressed = is.goes;
        noted = is.noted;
      };
    }
