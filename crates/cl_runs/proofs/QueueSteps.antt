-- Cores and queues over one step of an actor.
use Rattle.std.proofs.Common.{◌≡◌, ℕ, ◌<◌, ◌≤◌, Bool, true, false, cond, ◌&&◌, ◌||◌, eqb, List, [], ◌++◌, length, drop, Option, refl, ap, sym, ◌∙◌, subst, subst₂, inl, inr, arith}
use Rattle.std.proofs.Math.Path.{fun_ext}
use Rattle.std.proofs.lemmas.Bool.{eqb-true, eq-eqb, ne_eqb, cases_eq, cases_Bool, and_parts, cond_both}
use Rattle.std.proofs.lemmas.List.{drop-append-le, length-map}
use Rattle.cl_roster.specs.declared.entry.RosterEntry.{RosterEntry}
use Rattle.cl_roster.specs.declared.entry.RosterEntry.TheVariants.{Stopped, Repaired}
use Rattle.cl_roster.specs.Roster.{IsClusterSize, is_stop_of, has_stopped}
use Rattle.cl_roster.proofs.Steps.{has_stopped-push}
use Rattle.cl_wire.specs.Message.{Message}
use Rattle.cl_endpoint.specs.declared.received.Received.{Received}
use Rattle.cl_endpoint.specs.Endpoint.{EndpointState, link_to, received, link_after, after_receive, after_gives, after_note}
use Rattle.cl_actor.specs.Core.{CoreStep}
use Rattle.cl_actor.specs.Acting.{ActingState, unmoved, finished, endpoint_after}
use Rattle.cl_runs.specs.World.{Shape, World, endpoints_of, with_at, after_acting}
use Rattle.cl_runs.specs.Queues.{Tagged, Queues, tagged, sent_to, with_sends, QueueWorld, queue_unless, queue_world_of, after_step, with_queue, without_stopped}
use Rattle.cl_runs.proofs.Updates.{with_at-here, with_at_same, map-with_at}
use Rattle.cl_runs.proofs.Calls.{frame-after_receive, alike-after_emit, noted-after_note}
use Rattle.cl_runs.proofs.Giving.{link_to-after_gives, accepted-after_sends}
use Rattle.cl_runs.proofs.Taking.{link_to-taken}
use Rattle.cl_runs.proofs.Linked.{lift_at, shaped-here, leaves_noted}
use Rattle.cl_runs.proofs.Noting.{living_unstopped, unnoted}
use Rattle.cl_runs.proofs.Counting.{count_received, accepted-received}
use Rattle.cl_runs.proofs.Events.{IsSound, IsReady, sends_nothing, noted-endpoint_after, noted_here}

-- worlds whose parts are the same
pub same_queue_world : {S : Type 0} (a b : QueueWorld S) → a.cores ≡ b.cores → a.noted ≡ b.noted → a.queues ≡ b.queues → a.roster ≡ b.roster → a.history
    ≡ b.history → a.lines ≡ b.lines → a ≡ b
same_queue_world a b cores noted queues roster history lines =
    λ i. record { cores = cores i; noted = noted i; queues = queues i; roster = roster i; history = history i; lines = lines i }

-- the queues between these endpoints
abbrev pub queues_between : (ℕ → EndpointState) → Queues → Queues
queues_between ends given from to = queue_unless (has_stopped (ends to).noted from) (drop (link_to (ends to) from).accepted (given from to))

-- the system without packets, where the endpoints are others
abbrev pub queue_world_with : {S : Type 0} → World S → (ℕ → EndpointState) → Queues → QueueWorld S
queue_world_with world ends given = record {
  cores = λ actor. (world.actors actor).core;
  noted = λ actor. (ends actor).noted;
  queues = queues_between ends given;
  roster = world.roster;
  history = world.history;
  lines = world.lines;
}

-- where each actor has noted the same, and each link has accepted as many, the queues are the same
pub same_queues : (ends after : ℕ → EndpointState) (given : Queues) → ((actor : ℕ) → (after actor).noted ≡ (ends actor).noted) →
    ((actor peer : ℕ) → (link_to (after actor) peer).accepted ≡ (link_to (ends actor) peer).accepted) → queues_between after given ≡ queues_between ends given
same_queues ends after given noted accepted = fun_ext (λ from. fun_ext (λ to.
    ap (λ entries. queue_unless (has_stopped entries from) (drop (link_to (after to) from).accepted (given from to))) (noted to)
    ∙ ap (λ n. queue_unless (has_stopped (ends to).noted from) (drop n (given from to))) (accepted to from)))

-- a queue is put in its own place
pub with_queue_same : (queues : Queues) (from to : ℕ) → with_queue queues from to (queues from to) ≡ queues
with_queue_same queues from to = fun_ext (λ giver. fun_ext (λ receiver.
    cond_both (eqb receiver to && eqb giver from) (queues from to) (queues giver receiver) (λ queue. queue ≡ queues giver receiver)
    (λ here. let parts : (eqb receiver to ≡ true) × (eqb giver from ≡ true) = and_parts (eqb receiver to) (eqb giver from) here in
    subst₂ (λ a b. queues from to ≡ queues a b) (sym (eqb-true giver from parts.1)) (sym (eqb-true receiver to parts.0)) refl)
    (λ elsewhere. refl)))

-- a step that does nothing
pub after_step-unmoved : {S : Type 0} (world : QueueWorld S) (actor : ℕ) → after_step world actor (unmoved (world.cores actor)) ≡ world
after_step-unmoved world actor = same_queue_world _ _ (with_at_same world.cores actor) refl
    (sends_nothing world.queues actor (length (world.noted actor))) refl refl refl

-- what was not accepted stays before what is given, at an actor that has not noted the giver's stop
queue_given : (count : ℕ) (here stopped : Bool) (given more : List Tagged) → (here ≡ true → stopped ≡ false) → count ≤ length given →
    queue_unless stopped (drop count (cond here (given ++ more) given))
    ≡ cond here (queue_unless stopped (drop count given) ++ more) (queue_unless stopped (drop count given))
queue_given count true stopped given more lives within =
    subst (λ cut. queue_unless cut (drop count (given ++ more)) ≡ queue_unless cut (drop count given) ++ more) (sym (lives refl))
    (drop-append-le count given more within)
queue_given count false stopped given more lives within = refl

module _ {S : Type 0} (shape : Shape) (world : World S) (given : Queues) (sound : IsSound shape (record { world = world; given = given }))
    (size : IsClusterSize shape.nodes shape.spares)
    (roster : List RosterEntry) (me : ℕ) (heard : EndpointState) (ready : IsReady shape world given roster me heard) (stepped : CoreStep S)
    (owed : Option ℕ) where
  -- the endpoints before the actor gives and emits
  abbrev ends : ℕ → EndpointState
  ends = with_at (endpoints_of world) me heard

  -- and after
  abbrev ends' : ℕ → EndpointState
  ends' = endpoints_of (after_acting world me (finished stepped heard owed))

  accepted-endpoint_after : (peer : ℕ) → (link_to (endpoint_after heard stepped.step owed) peer).accepted ≡ (link_to heard peer).accepted
  accepted-endpoint_after peer =
      (alike-after_emit (after_gives heard stepped.step.sends) owed peer).accepted
      ∙ (ap (λ link. link.accepted) (link_to-after_gives stepped.step.sends heard peer (shaped-here (endpoints_of world) me heard ready.linked).links)
      ∙ accepted-after_sends (sent_to peer stepped.step.sends) (link_to heard peer))

  accepted_finished : (actor peer : ℕ) → (link_to (ends' actor) peer).accepted ≡ (link_to (ends actor) peer).accepted
  accepted_finished actor peer =
      ap (λ (all : ℕ → EndpointState). (link_to (all actor) peer).accepted)
      (map-with_at (λ (x : ActingState S). x.endpoint) world.actors me (finished stepped heard owed).0)
      ∙ lift_at (λ x y. (peer : ℕ) → (link_to y peer).accepted ≡ (link_to x peer).accepted) (λ x peer. refl) (endpoints_of world) me heard (endpoint_after heard stepped.step owed) accepted-endpoint_after actor peer

  noted_finished : (actor : ℕ) → (ends' actor).noted ≡ (ends actor).noted
  noted_finished actor =
      ap (λ (all : ℕ → EndpointState). (all actor).noted) (map-with_at (λ (x : ActingState S). x.endpoint) world.actors me (finished stepped heard owed).0)
      ∙ lift_at (λ x y. y.noted ≡ x.noted) (λ x. refl) (endpoints_of world) me heard (endpoint_after heard stepped.step owed)
      (noted-endpoint_after heard stepped owed) actor

  -- who acts lives, so nobody has noted its stop
  heard_of : (from to : ℕ) → eqb from me ≡ true → has_stopped (ends to).noted from ≡ false
  heard_of from to here =
      subst (λ n. has_stopped (ends to).noted n ≡ false) (sym (eqb-true from me here))
      (unnoted (ends to).noted roster me (noted_here shape world given sound size roster me heard ready to)
      (living_unstopped shape roster me size ready.lawful ready.lives))

  accepted_within : (from to : ℕ) → (link_to (ends to) from).accepted ≤ length (given from to)
  accepted_within from to = omega (arith, (ready.linked.linked from to).order.accepted, length-map (given from to) (λ (t : Tagged). t.content))

  queues_finished : (tag : ℕ) → queues_between ends' (with_sends given me tag stepped.step.sends)
      ≡ with_sends (queues_between ends given) me tag stepped.step.sends
  queues_finished tag =
      same_queues ends ends' (with_sends given me tag stepped.step.sends) noted_finished accepted_finished
      ∙ fun_ext (λ from. fun_ext (λ to. queue_given (link_to (ends to) from).accepted (eqb from me) (has_stopped (ends to).noted from) (given from to)
      (tagged tag (sent_to to stepped.step.sends)) (heard_of from to) (accepted_within from to)))

  -- an actor gives and emits, once it has taken what came: for cores and queues its core has taken a step
  pub queue_world_finished : (tag : ℕ) → tag ≡ length heard.noted →
      queue_world_of (record { world = after_acting world me (finished stepped heard owed); given = with_sends given me tag stepped.step.sends })
      ≡ after_step (queue_world_with world ends given) me stepped
  queue_world_finished tag is = same_queue_world _ _
      (map-with_at (λ (x : ActingState S). x.core) world.actors me (finished stepped heard owed).0)
      (fun_ext noted_finished)
      (queues_finished tag
      ∙ ap (λ number. with_sends (queues_between ends given) me number stepped.step.sends)
      (is ∙ ap (λ x. length x.noted) (sym (with_at-here (endpoints_of world) me heard))))
      refl refl refl

-- a packet is taken: of its queue the head is gone where it is accepted now, and else nothing
pub queues_taken : (ends : ℕ → EndpointState) (me : ℕ) (e : EndpointState) (given : Queues) (m : Message) → m.from < length e.links →
    queues_between (with_at ends me (after_receive e m.from m.seq m.ack)) given
    ≡ with_queue (queues_between (with_at ends me e) given) m.from me
    (queue_unless (has_stopped e.noted m.from) (drop (count_received (received e m.from m.seq) (link_to e m.from).accepted) (given m.from me)))
queues_taken ends me e given m within = fun_ext (λ from. fun_ext (λ to.
    let was = link_to (with_at ends me e to) from in
    let kind : Received = received e m.from m.seq in
    let noted : (with_at ends me (after_receive e m.from m.seq m.ack) to).noted ≡ (with_at ends me e to).noted
    = lift_at (λ x y. y.noted ≡ x.noted) (λ x. refl) ends me e (after_receive e m.from m.seq m.ack) (frame-after_receive e m.from m.seq m.ack).noted to in
    let stopped : Bool = has_stopped (with_at ends me e to).noted from in
    ap (λ entries. queue_unless (has_stopped entries from) (drop (link_to (with_at ends me (after_receive e m.from m.seq m.ack) to) from).accepted
    (given from to))) noted
    ∙ (ap (λ link. queue_unless stopped (drop link.accepted (given from to))) (link_to-taken ends me e m.from m.seq m.ack within to from)
    ∙ (elim (eqb to me && eqb from m.from) as (λ here. ((eqb to me && eqb from m.from) ≡ here) →
    queue_unless stopped (drop (cond here (link_after kind was m.seq m.ack) was).accepted (given from to))
    ≡ cond here (queue_unless (has_stopped e.noted m.from) (drop (count_received kind (link_to e m.from).accepted) (given m.from me)))
    (queue_unless stopped (drop was.accepted (given from to)))) [
      | true ↦ λ here.
          (let parts : (eqb to me ≡ true) × (eqb from m.from ≡ true) = and_parts (eqb to me) (eqb from m.from) here in
          let cut : Bool = has_stopped e.noted m.from in
          subst₂ (λ a b. queue_unless (has_stopped (with_at ends me e b).noted a)
          (drop (link_after kind (link_to (with_at ends me e b) a) m.seq m.ack).accepted (given a b))
          ≡ queue_unless cut (drop (count_received kind (link_to e m.from).accepted) (given m.from me)))
          (sym (eqb-true from m.from parts.1)) (sym (eqb-true to me parts.0))
          (ap (λ x. queue_unless (has_stopped x.noted m.from) (drop (link_after kind (link_to x m.from) m.seq m.ack).accepted (given m.from me)))
          (with_at-here ends me e)
          ∙ ap (λ n. queue_unless cut (drop n (given m.from me))) (accepted-received e m.from m.seq m.ack)))
      | false ↦ λ elsewhere. refl
    ]) refl)))

-- of what an actor notes the stop, the queue to it is cut; that of each other one stays
cut_alike : (stopped here : Bool) (waiting : List Tagged) → queue_unless (stopped || here) waiting ≡ cond here [] (queue_unless stopped waiting)
cut_alike true true waiting = refl
cut_alike true false waiting = refl
cut_alike false true waiting = refl
cut_alike false false waiting = refl

eqb_turned : (a b : ℕ) → eqb a b ≡ eqb b a
eqb_turned a b = elim (cases_eq a b) [
  | inl same ↦ eq-eqb a b same ∙ sym (eq-eqb b a (sym same))
  | inr apart ↦ ne_eqb a b apart ∙ sym (ne_eqb b a (λ same. apart (sym same)))
]

cut_by : (queues : Queues) (me : ℕ) (entry : RosterEntry) (from : ℕ) (stopped : Bool) (waiting : List Tagged) → queues from me ≡ queue_unless stopped waiting →
    queue_unless (stopped || is_stop_of from entry) waiting ≡ without_stopped queues me entry from me
cut_by queues me (Repaired v n) from stopped waiting was = cut_alike stopped false waiting ∙ sym was
cut_by queues me (Stopped n) from stopped waiting was =
    cut_alike stopped (eqb n from) waiting
    ∙ (ap (λ here. cond here [] (queue_unless stopped waiting)) (eqb_turned n from)
    ∙ (ap (cond (eqb from n) []) (sym was)
    ∙ ap (λ here. cond (here && eqb from n) [] (queues from me)) (sym (eq-eqb me me refl))))

others_stay : (queues : Queues) (me : ℕ) (entry : RosterEntry) (from to : ℕ) → eqb to me ≡ false → queues from to ≡ without_stopped queues me entry from to
others_stay queues me (Repaired v n) from to other = refl
others_stay queues me (Stopped n) from to other = ap (λ here. cond (here && eqb from n) [] (queues from to)) (sym other)

-- an entry is noted
pub queues_noted : (ends : ℕ → EndpointState) (me : ℕ) (e : EndpointState) (given : Queues) (entry : RosterEntry) →
    queues_between (with_at ends me (after_note e entry)) given ≡ without_stopped (queues_between (with_at ends me e) given) me entry
queues_noted ends me e given entry = fun_ext (λ from. fun_ext (λ to.
    let queues : Queues = queues_between (with_at ends me e) given in
    let e' : EndpointState = after_note e entry in
    let accepted : (link_to e' from).accepted ≡ (link_to e from).accepted = ((leaves_noted e entry).each from).accepted in
    let split : has_stopped e'.noted from ≡ (has_stopped e.noted from || is_stop_of from entry)
    = ap (λ entries. has_stopped entries from) (noted-after_note e entry) ∙ has_stopped-push e.noted entry from in
    let was : queues from me ≡ queue_unless (has_stopped e.noted from) (drop (link_to e from).accepted (given from me))
    = ap (λ x. queue_unless (has_stopped x.noted from) (drop (link_to x from).accepted (given from me))) (with_at-here ends me e) in
    (elim (cases_Bool (eqb to me)) [
      | inl here ↦ subst (λ at. queues_between (with_at ends me e') given from at ≡ without_stopped queues me entry from at) (sym (eqb-true to me here))
          (ap (λ x. queue_unless (has_stopped x.noted from) (drop (link_to x from).accepted (given from me))) (with_at-here ends me e')
          ∙ (ap (λ stopped. queue_unless stopped (drop (link_to e' from).accepted (given from me))) split
          ∙ (ap (λ n. queue_unless (has_stopped e.noted from || is_stop_of from entry) (drop n (given from me))) accepted
          ∙ cut_by queues me entry from (has_stopped e.noted from) (drop (link_to e from).accepted (given from me)) was)))
      | inr other ↦
          ap (λ there. queue_unless (has_stopped (cond there e' (ends to)).noted from)
          (drop (link_to (cond there e' (ends to)) from).accepted (given from to))) other
          ∙ (sym (ap (λ there. queue_unless (has_stopped (cond there e (ends to)).noted from)
          (drop (link_to (cond there e (ends to)) from).accepted (given from to))) other)
          ∙ others_stay queues me entry from to other)
    ])))
