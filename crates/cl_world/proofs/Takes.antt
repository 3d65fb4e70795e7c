-- One event more, piece by piece.
use Rattle.std.proofs.Common.{◌≡◌, ℕ, ◌+◌, ◌-◌, ◌<◌, ◌≤◌, ◌≢◌, Bool, true, false, cond, List, [], ◌∷◌, ◌++◌, length, map, Option, Some, None, Result, Ok, Err, IsSome, OnOk, get_or, inl, inr, refl, sym, ap, subst, ◌∙◌, arith}
use Rattle.std.specs.Vec.{with_item}
use Rattle.std.proofs.lemmas.List.{append-nil, length-set}
use Rattle.cl_actor.specs.Acting.{ActingState}
use Rattle.cl_endpoint.specs.Endpoint.{received}
use Rattle.cl_front.specs.Machine.{FrontMachineState, front_outs}
use Rattle.cl_front.specs.Front.{FrontState, delivered_content, fed_front, fed_as, stepped}
use Rattle.cl_front.specs.Sessions.{is_awaited, session_in}
use Rattle.cl_front.specs.Session.{heard}
use Rattle.cl_actor.specs.Acting.{is_now, noted_in, unmoved}
use Rattle.cl_actor.specs.Core.{Noted}
use Rattle.cl_lines.specs.declared.line.Line.{Line}
use Rattle.cl_lines.specs.declared.line.Line.TheVariants.{Client, Operator}
use Rattle.cl_lines.specs.declared.line.LineFault.{LineFault}
use Rattle.cl_lines.specs.Line.{line_of}
use Rattle.cl_post.specs.declared.event.Event.{Event}
use Rattle.cl_post.specs.declared.event.Event.TheVariants as events
use Rattle.cl_post.specs.declared.outs.Outs.{Outs}
use Rattle.cl_post.specs.Steps.{Input, outs_of, IsSpentWhere}
use Rattle.cl_post.specs.Steps as inputs
use Rattle.cl_ranges.specs.Spent.{is_packet_spent, is_spent}
use Rattle.cl_ranked.specs.Slots.{slot_at}
use Rattle.cl_roster.specs.Roster.{IsClusterSize}
use Rattle.cl_roster.specs.declared.entry.RosterEntry.{RosterEntry}
use Rattle.cl_runs.specs.World.{Shape, IsLiving, MayHandle, IsEnabled, after, after_handling, after_acting, packet_at, quiet, with_firm}
use Rattle.cl_runs.proofs.Updates.{with_at-here}
use Rattle.cl_steps.specs.declared.actors.TheConstants.{FRONT}
use Rattle.cl_system.specs.System.{Core, quieted_core, system}
use Rattle.cl_types.specs.AppendOnlyList.{entries}
use Rattle.cl_types.specs.declared.append_only_list.AppendOnlyList.{AppendOnlyList}
use Rattle.cl_types.specs.GrowingList.{items}
use Rattle.cl_types.specs.declared.answers.Refused.{Refused}
use Rattle.cl_types.specs.declared.answers.Refused.TheVariants.{NoMemory, Spent}
use Rattle.cl_types.specs.declared.operations.TxnId.{TxnId}
use Rattle.cl_wire.specs.declared.packet.Packet.{Packet}
use Rattle.cl_wire.specs.Message.{Content, Outcome, Message, message_of}
use Rattle.cl_world.specs.Actors.{States, MayAct, HasActed, HasFailed, IsFrontIn, IsNodeIn, is_here, member_at, with_core}
use Rattle.cl_world.specs.declared.front_seat.FrontSeat.{FrontSeat}
use Rattle.cl_world.specs.declared.front_seat.FrontSeat.TheVariants.{Here, Gone}
use Rattle.cl_world.proofs.Inputs.{acted_front}
use Rattle.cl_types.specs.declared.no_memory.NoMemory.{NoMemory as OutOfMemory}
use Rattle.cl_world.specs.declared.actors.Actors.{Actors}
use Rattle.cl_world.specs.FirmRoom.{firm_in}
use Rattle.cl_world.specs.Happenings.{happening_of, run_of}
use Rattle.cl_world.specs.Inputs.{acted_core, InputFits, is_input_spent}
use Rattle.cl_world.specs.Mail.{AreKept, AreToLiving, messages_in, to_living}
use Rattle.cl_world.specs.Taking.{IsStepEvent, IsTaken, MayTake, HasTaken, HasLost, HasDropped, IsLeftAt, KeepsEmitted, actor_of, input_at, packet_input, is_event_spent, lines_with, moment_with, refused_of}
use Rattle.cl_world.specs.World.{Moment, IsAt, IsFirstRoster, living_in}
use Rattle.cl_world.specs.declared.world.World.{World}
use Rattle.cl_world.proofs.Packets.{kept_at, kept_more, living_more}
use Rattle.cl_world.proofs.Moves.{with_at-elsewhere, slots_with, below_front}

-- what a packet gives its receiver
pub packet_given : (slots : List (Option Packet)) (moment : Moment) (actor id : ℕ) (event : Event) (packet : Packet) → event ≡ events.Handle actor id → Some packet ≡ slot_at slots (id - 1) →
    AreKept (messages_in slots) moment.packets → inputs.handle (message_of packet) ≡ input_at moment (happening_of event)
packet_given slots moment actor id event packet is there kept =
    subst (λ e. inputs.handle (message_of packet) ≡ input_at moment (happening_of e)) (sym is) (sym (ap packet_input (kept_at slots moment.packets (id - 1) packet kept (sym there))))

living_of : (shape : Shape) (made : World) (moment : Moment) (event : Event) → IsStepEvent event → MayTake shape made moment event →
    IsLiving shape moment.roster (actor_of event)
living_of shape made moment (events.Handle actor id) step may = may.enabled.widely.lives
living_of shape made moment (events.Tick actor) step may = may.enabled.widely
living_of shape made moment (events.Feed number text said) step may = inl refl
living_of shape made moment events.Quiet step may = absurd step

fitting_of : (shape : Shape) (made : World) (moment : Moment) (event : Event) → IsStepEvent event → MayTake shape made moment event →
    InputFits (actor_of event) (moment.actors (actor_of event)) (input_at moment (happening_of event))
fitting_of shape made moment (events.Handle actor id) step may =
    let handles : MayHandle shape moment actor id = may.enabled.widely in
    subst (λ found. InputFits actor (moment.actors actor) (packet_input found)) (sym handles.emitted) (may.fits handles.packet handles.emitted)
fitting_of shape made moment (events.Tick actor) step may = tt
fitting_of shape made moment (events.Feed number text said) step may = may.fits
fitting_of shape made moment events.Quiet step may = absurd step

-- the actor of an event may take its step
pub may_act : (shape : Shape) (made : World) (moment : Moment) (event : Event) → IsStepEvent event → IsAt shape made moment → MayTake shape made moment event →
    MayAct shape made.actors moment.actors (actor_of event) (input_at moment (happening_of event))
may_act shape made moment event step at may = record {
  size = at.size;
  before = at.actors;
  there = may.whole;
  lives = subst (λ roster. IsLiving shape roster (actor_of event)) at.unstopped (living_of shape made moment event step may);
  fits = fitting_of shape made moment event step may;
}

-- a fact of an actor and an input, for the same ones
pub along : (P : ℕ → Input → Type 0) (a b : ℕ) (i j : Input) → a ≡ b → i ≡ j → P a i → P b j
along P a b i j actor input fact = subst (λ k. P b k) input (subst (λ n. P n i) actor fact)

-- the system after the step of an actor
pub moment_of : (shape : Shape) (moment : Moment) (event : Event) (mark : Bool) → IsStepEvent event → IsEnabled (system shape.nodes) shape moment (happening_of event) →
    moment_with shape moment event mark
    ≡ record (after_acting moment (actor_of event) (acted_core (actor_of event) (moment.actors (actor_of event)) (input_at moment (happening_of event)) mark)) { lines = lines_with moment.lines event }
unfolding after
moment_of shape moment (events.Handle actor id) mark step may =
    let handles : MayHandle shape moment actor id = may.widely in
    subst (λ found. after_handling (system shape.nodes) moment actor mark found ≡ record (after_acting moment actor (acted_core actor (moment.actors actor) (packet_input found) mark)) { lines = moment.lines })
    (sym handles.emitted) refl
moment_of shape moment (events.Tick actor) mark step may = refl
moment_of shape moment (events.Feed number text said) mark step may =
    ap (λ (n : ℕ). let moved : Moment = record (after_acting moment FRONT (acted_core FRONT (moment.actors FRONT) (inputs.feed number (items text) (items said)) mark)) { lines = n } in moved) (sym may.widely.next)
moment_of shape moment events.Quiet mark step may = absurd step

packet_spends : (moment : Moment) (actor : ℕ) (found : Option Message) (mark : Bool) →
    is_input_spent actor (moment.actors actor) (packet_input found) mark ≡ is_packet_spent moment actor found mark
packet_spends moment actor None mark = refl
packet_spends moment actor (Some m) mark = refl

-- an event needs the numbers that the step of its actor needs
pub step_spends : (moment : Moment) (event : Event) (mark : Bool) → IsStepEvent event →
    is_input_spent (actor_of event) (moment.actors (actor_of event)) (input_at moment (happening_of event)) mark ≡ is_event_spent moment event mark
unfolding is_spent
step_spends moment (events.Handle actor id) mark step = packet_spends moment actor (packet_at moment id) mark
step_spends moment (events.Tick actor) mark step = refl
step_spends moment (events.Feed number text said) mark step = refl
step_spends moment events.Quiet mark step = absurd step

-- what was noted of a step
pub record IsNoted (before after : World) (event : Event) (outs : Outs) : Type 0 where
  pub nodes : after.nodes ≡ before.nodes
  pub spares : after.spares ≡ before.spares
  pub firm : firm_in after.firm ≡ with_firm (firm_in before.firm) (items outs.firm)
  pub trace : run_of (entries after.trace) ≡ run_of (entries before.trace) ++ (happening_of event, outs.short) ∷ []
  pub lines : after.lines ≡ lines_with before.lines event
  pub quiet : after.quiet_now ≡ false
  pub roster : after.roster ≡ before.roster

-- the moment once an actor acted
abbrev pub acted_moment : Moment → Event → Bool → Moment
acted_moment moment event mark =
    record (after_acting moment (actor_of event) (acted_core (actor_of event) (moment.actors (actor_of event)) (input_at moment (happening_of event)) mark)) { lines = lines_with moment.lines event }

-- the packets of a step are kept
abbrev pub KeepsOuts : Shape → World → World → Outs → Type 0
KeepsOuts shape before after outs = messages_in after.mail ≡ messages_in before.mail ++ map (to_living (living_in shape)) (map message_of outs.packets.items)

firm_after : (shape : Shape) (before after : World) (moment : Moment) (event : Event) (outs : Outs) → IsAt shape before moment →
    HasActed shape after.actors moment.actors (actor_of event) (input_at moment (happening_of event)) outs → IsNoted before after event outs → firm_in after.firm ≡ (acted_moment moment event outs.short).history
firm_after shape before after moment event outs at acted noted =
    noted.firm ∙ ap (λ firm. with_firm firm (items outs.firm)) at.history ∙ ap (λ given. with_firm moment.history given.firm) acted.given

-- the event was made
pub has_taken : (shape : Shape) (before after : World) (moment : Moment) (event : Event) (outs : Outs) → IsStepEvent event → IsAt shape before moment → MayTake shape before moment event →
    is_event_spent moment event outs.short ≡ false → HasActed shape after.actors moment.actors (actor_of event) (input_at moment (happening_of event)) outs →
    IsNoted before after event outs → KeepsOuts shape before after outs →
    HasTaken shape before after moment event
has_taken shape before after moment event outs step at may unspent acted noted keeps =
    let more : List Message = (acted_core (actor_of event) (moment.actors (actor_of event)) (input_at moment (happening_of event)) outs.short).1.packets in
    let slots : messages_in after.mail ≡ messages_in before.mail ++ map (to_living (living_in shape)) more
    = keeps ∙ ap (λ given. messages_in before.mail ++ map (to_living (living_in shape)) given.packets) acted.given in
    let same : acted_moment moment event outs.short ≡ moment_with shape moment event outs.short = sym (moment_of shape moment event outs.short step may.enabled) in
    let now : IsAt shape after (acted_moment moment event outs.short) = record {
      size = at.size;
      nodes = noted.nodes ∙ at.nodes;
      spares = noted.spares ∙ at.spares;
      roster = subst (IsFirstRoster shape) (sym noted.roster) at.roster;
      actors = acted.after;
      mail = subst (λ kept. AreKept kept (moment.packets ++ more)) (sym slots) (kept_more (messages_in before.mail) moment.packets (living_in shape) more at.mail);
      living = subst (λ kept. AreToLiving (living_in shape) kept) (sym slots) (living_more (living_in shape) (messages_in before.mail) more at.living);
      history = firm_after shape before after moment event outs at acted noted;
      lines = noted.lines ∙ ap (λ n. lines_with n event) at.lines;
      quiet = noted.quiet;
      unstopped = at.unstopped;
    } in
    let keeps_them : KeepsEmitted shape before after moment (acted_moment moment event outs.short) = record { more = more; emitted = refl; kept = slots } in
    record {
      mark = outs.short;
      unspent = unspent;
      now = subst (λ m. IsAt shape after m) same now;
      whole = acted.there;
      trace = noted.trace;
      keeps = subst (λ m. KeepsEmitted shape before after moment m) same keeps_them;
    }

-- the event was made, but not all that it emitted is kept
pub has_dropped : (shape : Shape) (before after : World) (moment : Moment) (event : Event) (outs : Outs) → IsStepEvent event → IsAt shape before moment → MayTake shape before moment event →
    is_event_spent moment event outs.short ≡ false → HasActed shape after.actors moment.actors (actor_of event) (input_at moment (happening_of event)) outs →
    IsNoted before after event outs → HasDropped shape before after moment event NoMemory
has_dropped shape before after moment event outs step at may unspent acted noted =
    let same : acted_moment moment event outs.short ≡ moment_with shape moment event outs.short = sym (moment_of shape moment event outs.short step may.enabled) in
    let left : IsLeftAt shape after (acted_moment moment event outs.short) = record {
      actors = acted.after;
      history = firm_after shape before after moment event outs at acted noted;
      roster = subst (IsFirstRoster shape) (sym noted.roster) at.roster;
    } in
    record { mark = outs.short; unspent = unspent; left = subst (λ m. IsLeftAt shape after m) same left; whole = acted.there; trace = noted.trace; short = refl }

-- nothing happened
pub has_lost : (shape : Shape) (before after : World) (moment : Moment) (event : Event) (refused : Refused) → IsAt shape before moment → HasFailed shape after.actors moment.actors (actor_of event) →
    firm_in after.firm ≡ firm_in before.firm → after.roster ≡ before.roster → entries after.trace ≡ entries before.trace →
    (refused ≡ Spent → is_event_spent moment event false ≡ true) → HasLost shape before after moment event refused
has_lost shape before after moment event refused at failed firm roster trace spent = record {
  left = record { actors = failed.same; history = firm ∙ at.history; roster = subst (IsFirstRoster shape) (sym roster) at.roster };
  others = failed.there;
  trace = ap run_of trace;
  spent = spent;
}

-- nobody acted
pub unfailed : (shape : Shape) (made : World) (moment : Moment) (event : Event) → IsAt shape made moment → MayTake shape made moment event → HasFailed shape made.actors moment.actors (actor_of event)
unfailed shape made moment event at may = record {
  same = at.actors;
  there = record { front = λ ne. may.whole.front; members = λ k within ne. may.whole.members k within };
}

-- a node that acted is let go
pub lost_node : (shape : Shape) (actors : Actors) (states : States) (actor : ℕ) (input : Input) (outs : Outs) → IsClusterSize shape.nodes shape.spares →
    (roster : List RosterEntry) → IsLiving shape roster actor → actor ≢ FRONT →
    ((k : ℕ) → k < shape.nodes + shape.spares → k ≢ actor → IsNodeIn (member_at actors k) (states k)) → IsFrontIn actors.front (states FRONT) → HasActed shape actors states actor input outs →
    HasFailed shape (record actors { members = with_item actors.members actor None }) states actor
lost_node shape actors states actor input outs size roster lives ne others front acted =
    let inside : actor < shape.nodes + shape.spares = elim lives [ inl here ↦ absurd (ne here) | inr within ↦ within.0 ] in
    record {
      same = record {
        front = front;
        counted = length-set actors.members.items actor None ∙ acted.after.counted;
        members = slots_with actors.members.items actor None (shape.nodes + shape.spares) (λ k s. IsNodeIn s (states k)) acted.after.counted inside tt others;
      };
      there = record {
        front = λ other. acted.there.front;
        members = slots_with actors.members.items actor None (shape.nodes + shape.spares) (λ k s. actor ≢ k → IsSome s) acted.after.counted inside (λ other. absurd (other refl)) (λ k within other apart. acted.there.members k within);
      };
    }

-- who did not act has its state
pub unmoved_others : (shape : Shape) (actors : Actors) (states : States) (actor : ℕ) (input : Input) (outs : Outs) → actor ≢ FRONT → HasActed shape actors states actor input outs →
    ((k : ℕ) → k < shape.nodes + shape.spares → k ≢ actor → IsNodeIn (member_at actors k) (states k)) × IsFrontIn actors.front (states FRONT)
unmoved_others shape actors states actor input outs ne acted =
    let value : ActingState Core = (acted_core actor (states actor) input outs.short).0 in
    let elsewhere : FRONT ≢ actor = λ e. ne (sym e) in (
      λ k within other. subst (λ a. IsNodeIn (member_at actors k) a) (with_at-elsewhere states actor value k other) (acted.after.members k within),
      subst (λ a. IsFrontIn actors.front a) (with_at-elsewhere states actor value FRONT elsewhere) acted.after.front,
    )

-- the front makes nothing firm

content_firm : (noted : Noted) (state : FrontState) (content : Content) → (delivered_content noted state content).step.firm ≡ []
content_firm noted state (Outcome txn number outcome) =
    elim (is_awaited state.sessions txn number) as (λ awaited. (cond awaited (stepped state txn.session (heard noted txn.session (session_in state.sessions txn.session) outcome)) (unmoved state)).step.firm ≡ []) [ true ↦ refl | false ↦ refl ]
content_firm noted state other = refl

line_firm : (noted : Noted) (state : FrontState) (number : ℕ) (read : Result Line LineFault) → (fed_as noted state number read).step.firm ≡ []
line_firm noted state number (Ok (Client s command)) = refl
line_firm noted state number (Ok (Operator order)) = refl
line_firm noted state number (Err fault) = refl

no_firm : (state : FrontMachineState) (input : Input) (mark : Bool) → (front_outs state input mark).firm ≡ []
unfolding fed_front
no_firm state (inputs.handle m) mark =
    elim (is_now (received state.endpoint m.from m.seq)) as (λ now. (cond now (delivered_content (noted_in state.endpoint) state.core m.content) (unmoved state.core)).step.firm ≡ []) [
      | true ↦ content_firm (noted_in state.endpoint) state.core m.content
      | false ↦ refl
    ]
no_firm state inputs.tick mark = refl
no_firm state (inputs.feed number text said) mark = line_firm (noted_in state.endpoint) _ number (line_of text)
no_firm state inputs.quiet mark = refl

seat_firm : (seat : FrontSeat) (before : ActingState Core) (input : Input) (mark : Bool) → is_here seat ≡ true → IsFrontIn seat before → (acted_core FRONT before input mark).1.firm ≡ []
seat_firm (Here machine) before input mark here is =
    ap (λ b. (acted_core FRONT b input mark).1.firm) is.same ∙ ap (λ a. a.1.firm) (acted_front FRONT is.state input mark) ∙ no_firm is.state input mark
seat_firm (Gone transcript) before input mark here is = absurd cc

-- whose step made something firm is not the front
pub not_the_front : (shape : Shape) (before middle : World) (moment : Moment) (event : Event) (outs : Outs) (count room : ℕ) → IsAt shape before moment → MayTake shape before moment event →
    HasActed shape middle.actors moment.actors (actor_of event) (input_at moment (happening_of event)) outs → count ≡ length (items outs.firm) → (count ≤ room → ⊥) → actor_of event ≢ FRONT
not_the_front shape before middle moment event outs count room at may acted counted full here =
    let input : Input = input_at moment (happening_of event) in
    let none : (acted_core (actor_of event) (moment.actors (actor_of event)) input outs.short).1.firm ≡ []
    = subst (λ a. (acted_core a (moment.actors a) input outs.short).1.firm ≡ []) (sym here) (seat_firm before.actors.front (moment.actors FRONT) input outs.short may.whole.front at.actors.front) in
    let empty : items outs.firm ≡ [] = ap (λ given. given.firm) acted.given ∙ none in
    let zero_count : count ≡ 0 = counted ∙ ap (λ (txns : List TxnId). length txns) empty in
    full (omega arith)

-- its place is within the list
pub lose_bound : (shape : Shape) (before middle : World) (moment : Moment) (event : Event) (outs : Outs) → IsStepEvent event → MayTake shape before moment event →
    HasActed shape middle.actors moment.actors (actor_of event) (input_at moment (happening_of event)) outs → actor_of event ≢ FRONT → actor_of event < length middle.actors.members.items
lose_bound shape before middle moment event outs step may acted ne =
    let inside : actor_of event < shape.nodes + shape.spares = elim
    (living_of shape before moment event step may) [ inl here ↦ absurd (ne here) | inr within ↦ within.0 ] in
    omega (arith, inside, acted.after.counted)

-- what a step made firm has no room
pub gives_up : (shape : Shape) (before middle after : World) (moment : Moment) (event : Event) (outs : Outs) (actor : ℕ) → IsStepEvent event → IsAt shape before moment → MayTake shape before moment event →
    HasActed shape middle.actors moment.actors (actor_of event) (input_at moment (happening_of event)) outs → actor_of event ≢ FRONT → actor ≡ actor_of event →
    after.actors ≡ record middle.actors { members = with_item middle.actors.members actor None } → firm_in after.firm ≡ firm_in before.firm →
    after.roster ≡ before.roster → entries after.trace ≡ entries before.trace → HasLost shape before after moment event NoMemory
gives_up shape before middle after moment event outs actor step at may acted ne is actors firm roster trace =
    let others = unmoved_others shape middle.actors moment.actors (actor_of event) (input_at moment (happening_of event)) outs ne acted in
    let failed = lost_node shape middle.actors moment.actors (actor_of event) (input_at moment (happening_of event)) outs at.size moment.roster
    (living_of shape before moment event step may) ne others.0 others.1 acted in
    let same : record middle.actors { members = with_item middle.actors.members (actor_of event) None } ≡ after.actors
    = sym (actors ∙ ap (λ (a : ℕ). let all : Actors = record middle.actors { members = with_item middle.actors.members a None } in all) is) in
    has_lost shape before after moment event NoMemory at (subst (λ all. HasFailed shape all moment.actors (actor_of event)) same failed)
    firm roster trace (λ spent. absurd cc)

-- what was noted of a step, and whether all its packets are kept
pub noted_result : (shape : Shape) (before after : World) (moment : Moment) (event : Event) (outs : Outs) (kept : Result (Unit {0}) OutOfMemory) → IsStepEvent event → IsAt shape before moment → MayTake shape before moment event →
    is_event_spent moment event outs.short ≡ false → HasActed shape after.actors moment.actors (actor_of event) (input_at moment (happening_of event)) outs →
    IsNoted before after event outs → OnOk kept (KeepsOuts shape before after outs) →
    IsTaken shape before after moment event (refused_of kept)
noted_result shape before after moment event outs (Ok done) step at may unspent acted noted keeps =
    has_taken shape before after moment event outs step at may unspent acted noted keeps
noted_result shape before after moment event outs (Err error) step at may unspent acted noted keeps =
    inr (has_dropped shape before after moment event outs step at may unspent acted noted)

-- a quiet moment is noted
pub quiet_taken : (shape : Shape) (before after : World) (moment : Moment) → IsAt shape before moment → MayTake shape before moment events.Quiet → after.nodes ≡ before.nodes →
    after.spares ≡ before.spares → after.roster ≡ before.roster → after.actors.members ≡ before.actors.members →
    messages_in after.mail ≡ messages_in before.mail → firm_in after.firm ≡ firm_in before.firm → after.lines ≡ before.lines → after.quiet_now ≡ true →
    run_of (entries after.trace) ≡ run_of (entries before.trace) ++ (quiet, false) ∷ [] →
    IsFrontIn after.actors.front (with_core (moment.actors FRONT) (quieted_core FRONT (moment.actors FRONT).core)) → is_here after.actors.front ≡ true → HasTaken shape before after moment events.Quiet
unfolding after is_spent
quiet_taken shape before after moment at may nodes spares roster members mail firm lines quiet_now trace front here =
    let value : ActingState Core = with_core (moment.actors FRONT) (quieted_core FRONT (moment.actors FRONT).core) in
    record {
      mark = false;
      unspent = refl;
      now = record {
        size = at.size;
        nodes = nodes ∙ at.nodes;
        spares = spares ∙ at.spares;
        roster = subst (IsFirstRoster shape) (sym roster) at.roster;
        actors = record {
          front = subst (λ a. IsFrontIn after.actors.front a) (sym (with_at-here moment.actors FRONT value)) front;
          counted = ap (λ all. length all.items) members ∙ at.actors.counted;
          members = λ k within.
              let ne : k ≢ FRONT = λ e. absurd (omega (arith, below_front shape k at.size within, e)) in
              subst (λ a. IsNodeIn (member_at after.actors k) a) (sym (with_at-elsewhere moment.actors FRONT value k ne))
              (subst (λ all. IsNodeIn (get_or all.items k None) (moment.actors k)) (sym members) (at.actors.members k within));
        };
        mail = subst (λ kept. AreKept kept moment.packets) (sym mail) at.mail;
        living = subst (λ kept. AreToLiving (living_in shape) kept) (sym mail) at.living;
        history = firm ∙ at.history;
        lines = lines ∙ at.lines;
        quiet = quiet_now;
        unstopped = at.unstopped;
      };
      whole = record {
        front = here;
        members = λ k within. subst (λ all. IsSome (get_or all.items k None)) (sym members) (may.whole.members k within);
      };
      trace = trace;
      keeps = record { more = []; emitted = sym (append-nil moment.packets); kept = mail ∙ sym (append-nil (messages_in before.mail)) };
    }

-- the trace has room

pub at_with : (shape : Shape) (made : World) (trace : AppendOnlyList (Event × Bool)) (moment : Moment) → IsAt shape made moment → IsAt shape (record made { trace = trace }) moment
at_with shape made trace moment at = record {
  size = at.size;
  nodes = at.nodes;
  spares = at.spares;
  roster = at.roster;
  actors = at.actors;
  mail = at.mail;
  living = at.living;
  history = at.history;
  lines = at.lines;
  quiet = at.quiet;
  unstopped = at.unstopped;
}

pub may_with : (shape : Shape) (made : World) (trace : AppendOnlyList (Event × Bool)) (moment : Moment) (event : Event) → MayTake shape made moment event → MayTake shape (record made { trace = trace }) moment event
may_with shape made trace moment event may = record { whole = may.whole; enabled = may.enabled; fits = may.fits; kept = may.kept }

-- what is so where all went well
pub if_ok : {A E : Type 0} (P Q : Type 0) (result : Result A E) → (P → Q) → OnOk result P → OnOk result Q
if_ok P Q (Ok done) on fact = on fact
if_ok P Q (Err error) on fact = tt
