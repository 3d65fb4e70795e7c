-- Each event is one of cores and queues.
use Rattle.std.proofs.Common.{◌≡◌, ℕ, ◌+◌, ◌-◌, ◌≤◌, Bool, false, cond, List, [], ◌∷◌, ◌++◌, length, drop, Option, Some, None, refl, ap, sym, ◌∙◌, subst, subst₂, inl, arith}
use Rattle.std.specs.List.{slice_get}
use Rattle.std.proofs.Math.Path.{fun_ext}
use Rattle.std.proofs.lemmas.List.{drop_more}
use Rattle.std.proofs.lemmas.Option.{slice_get_within, get_or_from_slice_get}
use Rattle.cl_roster.specs.declared.entry.RosterEntry.{RosterEntry}
use Rattle.cl_roster.specs.Roster.{IsClusterSize, has_stopped}
use Rattle.cl_wire.specs.Message.{Message}
use Rattle.cl_steps.specs.declared.actors.TheConstants.{FRONT}
use Rattle.cl_endpoint.specs.declared.received.Received.{Received}
use Rattle.cl_endpoint.specs.declared.received.Received.TheVariants.{Dropped, Bare, Now, Old, Gap}
use Rattle.cl_endpoint.specs.Endpoint.{EndpointState, link_to, set_number, received, after_receive, owed_to, after_tick, after_note}
use Rattle.cl_endpoint.proofs.Receiving.{accepted_is_next}
use Rattle.cl_actor.specs.Core.{CoreStep}
use Rattle.cl_actor.specs.Acting.{ActingState, noted_in, unmoved, finished, is_now, accepted_step, after_offer}
use Rattle.cl_runs.specs.World.{Cores, Shape, World, endpoints_of, IsLiving, Happening, handle, note, tick, feed, stop, quiet, with_at, after_handling, after_noting, with_offered, after_stopping, after, HasNotedAll, IsEnabledWidely}
use Rattle.cl_runs.specs.Queues.{Tagged, Queues, with_sends, step_on, step_at, count_noted, Watched, after_watched, QueueWorld, queue_unless, queue_world_of, noted_by, after_step, with_queue, after_delivery, without_stopped, with_noted, after_entry, with_offer, after_stop_asked, after_queue_event, IsQueueEnabled, deliver, nothing, event_on, queue_event_of}
use Rattle.cl_runs.specs.Laws.{CarriesGiven, IsFaithful}
use Rattle.cl_runs.proofs.Updates.{with_at_same, map-with_at, map-with_at_same}
use Rattle.cl_runs.proofs.Calls.{frame-after_receive, frame-after_tick, alike-after_tick, noted-after_note}
use Rattle.cl_runs.proofs.Taking.{Carries}
use Rattle.cl_runs.proofs.Linked.{AreLinked, lift_at, carried}
use Rattle.cl_runs.proofs.Counting.{count_received}
use Rattle.cl_runs.proofs.Events.{IsSound, linked_here, emitted_faithful, faithful_here, noted_same, length-after_offer, noted_all, ready_same, ready_ticked, ready_received, ready_noted, ready_offered, sends_nothing}
use Rattle.cl_runs.proofs.QueueSteps.{same_queue_world, queues_between, queue_world_with, same_queues, with_queue_same, after_step-unmoved, queue_world_finished, queues_taken, queues_noted}

-- what stands at an index is the head of the rest
drop_at : (messages : List Tagged) (i : ℕ) (t : Tagged) → slice_get messages i ≡ Some t → drop i messages ≡ t ∷ drop (i + 1) messages
drop_at messages i t at = drop_more messages i t (slice_get_within messages i t at) ∙ ap (λ x. x ∷ drop (i + 1) messages) (get_or_from_slice_get messages i t t at)

-- a packet that is accepted now, at the actor that it is addressed to
pub record AcceptsHead (given : Queues) (me : ℕ) (e : EndpointState) (m : Message) : Type 0 where
  pub message : Tagged
  pub heard : has_stopped e.noted m.from ≡ false
  pub waits : drop (link_to e m.from).accepted (given m.from me) ≡ message ∷ drop ((link_to e m.from).accepted + 1) (given m.from me)
  pub content : message.content ≡ m.content
  pub tag : message.tag ≤ m.set

module _ {S : Type 0} (shape : Shape) (world : World S) (given : Queues) (are : AreLinked shape (endpoints_of world) given world.packets) where
  -- a packet that is accepted now carries the head of its queue
  pub accepts_head : (me : ℕ) (m : Message) → IsFaithful (endpoints_of world) given m → m.to ≡ me → received (world.actors me).endpoint m.from m.seq ≡ Now → AcceptsHead given me (world.actors me).endpoint m
  accepts_head me m faithful here now =
      let e : EndpointState = (world.actors me).endpoint in
      let carries : CarriesGiven given m = carried (endpoints_of world) me e (linked_here shape world given me are) m here (faithful_here shape world given me m faithful) (subst Carries (sym now) tt) in
      let index : m.seq - 1 ≡ (link_to e m.from).accepted = omega (arith, ((accepted_is_next e m.from m.seq).0 now).1) in
      record {
        message = carries.message;
        heard = ((accepted_is_next e m.from m.seq).0 now).0;
        waits = drop_at (given m.from me) (link_to e m.from).accepted carries.message (subst₂ (λ to i. slice_get (given m.from to) i ≡ Some carries.message) here index carries.at);
        content = carries.content;
        tag = carries.tag;
      }

-- a queue at an actor that has not noted its giver's stop
pub queue_whole : {stopped : Bool} (waiting : List Tagged) → stopped ≡ false → queue_unless stopped waiting ≡ waiting
queue_whole waiting lives = ap (λ cut. queue_unless cut waiting) lives

module _ {S : Type 0} (cores : Cores S) (shape : Shape) (size : IsClusterSize shape.nodes shape.spares) (world : World S) (given : Queues)
    (sound : IsSound shape (record { world = world; given = given })) where
  -- cores and queues before the event
  abbrev before : QueueWorld S
  before = queue_world_of (record { world = world; given = given })

  -- where an endpoint is written out
  same_here : (me : ℕ) → queue_world_with world (with_at (endpoints_of world) me (world.actors me).endpoint) given ≡ before
  same_here me = ap (λ ends. queue_world_with world ends given) (with_at_same (endpoints_of world) me)

  -- time passes
  same_ticked : (me : ℕ) → queue_world_with world (with_at (endpoints_of world) me (after_tick (world.actors me).endpoint)) given ≡ before
  same_ticked me =
      let e : EndpointState = (world.actors me).endpoint in
      let noted : (actor : ℕ) → (with_at (endpoints_of world) me (after_tick e) actor).noted ≡ (with_at (endpoints_of world) me e actor).noted
      = lift_at (λ x y. y.noted ≡ x.noted) (λ x. refl) (endpoints_of world) me e (after_tick e) (frame-after_tick e).noted in
      same_queue_world _ _ refl (fun_ext noted)
      (same_queues (with_at (endpoints_of world) me e) (with_at (endpoints_of world) me (after_tick e)) given noted
      (lift_at (λ x y. (peer : ℕ) → (link_to y peer).accepted ≡ (link_to x peer).accepted) (λ x peer. refl) (endpoints_of world) me e (after_tick e) (λ peer. (alike-after_tick e peer).accepted)))
      refl refl refl ∙ same_here me

  -- an entry is noted
  same_noted : (me : ℕ) (entry : RosterEntry) → queue_world_with world (with_at (endpoints_of world) me (after_note (world.actors me).endpoint entry)) given
      ≡ with_noted before me entry
  same_noted me entry =
      let e : EndpointState = (world.actors me).endpoint in
      same_queue_world _ _ refl
      (map-with_at (λ (x : EndpointState). x.noted) (endpoints_of world) me (after_note e entry) ∙ ap (with_at before.noted me) (noted-after_note e entry))
      (queues_noted (endpoints_of world) me e given entry ∙ ap (λ ends. without_stopped (queues_between ends given) me entry)
      (with_at_same (endpoints_of world) me))
      refl refl refl

  -- the front has noted what it offers, which stands in the roster
  same_offered : (offered : Option RosterEntry) →
      record (queue_world_with world (with_at (endpoints_of world) FRONT (after_offer (world.actors FRONT).endpoint offered)) given)
      { roster = with_offered world.roster offered } ≡ with_offer before offered
  same_offered None = same_here FRONT
  same_offered (Some entry) = ap (λ (q : QueueWorld S). record q { roster = world.roster ++ entry ∷ [] }) (same_noted FRONT entry)

  -- what an actor knows of the roster is what its endpoint has noted
  knows : (me : ℕ) → noted_in (world.actors me).endpoint ≡ noted_by shape before me
  knows me = noted_same shape me (world.actors me).endpoint (sound.linked.shaped me) (world.actors me).endpoint.noted refl

  -- an actor handles a packet
  module _ (me : ℕ) (lives : IsLiving shape world.roster me) (m : Message) (faithful : IsFaithful (endpoints_of world) given m) (here : m.to ≡ me)
      (mark : Bool) where
    abbrev end : EndpointState
    end = (world.actors me).endpoint

    abbrev delivery : CoreStep S
    delivery = cores.delivered me (noted_in end) (world.actors me).core m.from m.content mark

    -- what waits once the packet was received so
    abbrev waits_after : Received → List Tagged
    waits_after kind = drop (count_received kind (link_to end m.from).accepted) (given m.from me)

    -- the queues then
    abbrev queues_after : Received → Queues
    queues_after kind = with_queue before.queues m.from me (queue_unless (has_stopped end.noted m.from) (waits_after kind))

    taken_world : queue_world_with world (with_at (endpoints_of world) me (after_receive end m.from m.seq m.ack)) given ≡ record before { queues = queues_after (received end m.from m.seq) }
    taken_world = same_queue_world _ _ refl
        (map-with_at (λ (x : EndpointState). x.noted) (endpoints_of world) me (after_receive end m.from m.seq m.ack)
        ∙ (ap (with_at before.noted me) (frame-after_receive end m.from m.seq m.ack).noted ∙ with_at_same before.noted me))
        (queues_taken (endpoints_of world) me end given m (omega (arith, faithful.sender, (sound.linked.shaped me).links))
        ∙ ap (λ ends. with_queue (queues_between ends given) m.from me
        (queue_unless (has_stopped end.noted m.from) (waits_after (received end m.from m.seq)))) (with_at_same (endpoints_of world) me))
        refl refl refl

    idle : after_step (record before { queues = with_queue before.queues m.from me (before.queues m.from me) }) me (unmoved (before.cores me)) ≡ before
    idle = ap (λ queues. after_step (record before { queues = queues }) me (unmoved (before.cores me))) (with_queue_same before.queues m.from me) ∙ after_step-unmoved before me

    accepts : received end m.from m.seq ≡ Now → AcceptsHead given me end m
    accepts now = accepts_head shape world given sound.linked me m faithful here now

    -- the head of the queue is the message
    head_waits : (now : received end m.from m.seq ≡ Now) → before.queues m.from me ≡ (accepts now).message ∷ waits_after Now
    head_waits now = queue_whole (waits_after Old) (accepts now).heard ∙ (accepts now).waits

    delivered_now : received end m.from m.seq ≡ Now → after_step (record before { queues = queues_after Now }) me delivery ≡ after_delivery cores shape before m.from me mark (before.queues m.from me)
    delivered_now now =
        ap (λ waiting. after_step (record before { queues = with_queue before.queues m.from me waiting }) me delivery)
        (queue_whole (waits_after Now) (accepts now).heard)
        ∙ (ap (λ noted. after_step (record before { queues = with_queue before.queues m.from me (waits_after Now) }) me
        (cores.delivered me noted (world.actors me).core m.from m.content mark)) (knows me)
        ∙ (ap (λ content. after_step (record before { queues = with_queue before.queues m.from me (waits_after Now) }) me
        (cores.delivered me (noted_by shape before me) (before.cores me) m.from content mark)) (sym (accepts now).content)
        ∙ ap (after_delivery cores shape before m.from me mark) (sym (head_waits now))))

    handled_as : (kind : Received) → received end m.from m.seq ≡ kind →
        after_step (record before { queues = queues_after kind }) me (cond (is_now kind) delivery (unmoved (world.actors me).core)) ≡ after_queue_event cores shape before (cond (is_now kind) (deliver m.from me mark) nothing)
    unfolding after_queue_event
    handled_as Now now = delivered_now now
    handled_as Dropped is = idle
    handled_as Bare is = idle
    handled_as Old is = idle
    handled_as Gap is = idle

    handled_enabled : m.set ≤ set_number end → (kind : Received) → received end m.from m.seq ≡ kind →
        IsQueueEnabled shape before (cond (is_now kind) (deliver m.from me mark) nothing)
    handled_enabled noted Now now = record {
      lives = lives;
      head = (accepts now).message;
      rest = waits_after Now;
      waits = head_waits now;
      noted
          = omega (arith, (accepts now).tag);
    }
    handled_enabled noted Dropped is = tt
    handled_enabled noted Bare is = tt
    handled_enabled noted Old is = tt
    handled_enabled noted Gap is = tt

    handled_same : queue_world_of (record {
      world = after_handling cores world me mark (Some m);
      given = with_sends given me (set_number end + 0) (step_on cores (world.actors me) me mark (Some m)).step.sends;
    }) ≡ after_queue_event cores shape before (event_on world me mark (Some m))
    handled_same =
        let heard : EndpointState = after_receive end m.from m.seq m.ack in
        let stepped : CoreStep S = accepted_step (cores.delivered me) (world.actors me) m mark in
        queue_world_finished shape world given sound size world.roster me heard (ready_received shape world given sound me m lives faithful here) stepped
        (owed_to (received end m.from m.seq) m.from)
        (set_number end + 0) (omega (arith, ap length (frame-after_receive end m.from m.seq m.ack).noted))
        ∙ (ap (λ q. after_step q me stepped) taken_world ∙ handled_as (received end m.from m.seq) refl)

  -- an actor notes the next entry
  noting_same : (me : ℕ) (entry : RosterEntry) → IsLiving shape world.roster me → slice_get world.roster (set_number (world.actors me).endpoint)
      ≡ Some entry → queue_world_of (record {
        world = after_noting cores world me (Some entry);
        given = with_sends given me (set_number (world.actors me).endpoint + 1) (step_at cores (world.actors me) me (Some entry)).step.sends;
      }) ≡ after_entry cores shape before me (Some entry)
  noting_same me entry lives next =
      let e : EndpointState = (world.actors me).endpoint in
      let stepped : CoreStep S = cores.noted me (noted_in e) (world.actors me).core entry in
      queue_world_finished shape world given sound size world.roster me (after_note e entry)
      (ready_noted shape world given sound me entry lives next) stepped None
      (set_number e + 1) (length-after_offer e (Some entry))
      ∙ (ap (λ q. after_step q me stepped) (same_noted me entry)
      ∙ ap (λ known. after_step (with_noted before me entry) me (cores.noted me known (world.actors me).core entry)) (knows me))

  -- the front is asked to stop a node
  stopping_same : (n : ℕ) → HasNotedAll world FRONT →
      let front : ActingState S = world.actors FRONT in
      let stepped : CoreStep S = cores.stopped (noted_in front.endpoint) front.core n in queue_world_of (record {
        world = after_stopping world (finished stepped (after_offer front.endpoint stepped.step.entry) None);
        given = with_sends given FRONT (set_number front.endpoint + count_noted stepped.step.entry) stepped.step.sends;
      }) ≡ after_stop_asked before (cores.stopped (noted_by shape before FRONT) (before.cores FRONT) n)
  stopping_same n all =
      let front : ActingState S = world.actors FRONT in
      let stepped : CoreStep S = cores.stopped (noted_in front.endpoint) front.core n in
      let roster : List RosterEntry = with_offered world.roster stepped.step.entry in
      ap (λ (q : QueueWorld S). record q { roster = roster })
      (queue_world_finished shape world given sound size roster FRONT (after_offer front.endpoint stepped.step.entry)
      (ready_offered shape world given sound stepped.step.entry all (cores.stopped_lawfully (noted_in front.endpoint) front.core n)) stepped None
      (set_number front.endpoint + count_noted stepped.step.entry) (length-after_offer front.endpoint stepped.step.entry))
      ∙ (ap (λ q. after_step q FRONT stepped) (same_offered stepped.step.entry)
      ∙ ap (λ known. after_stop_asked before (cores.stopped known front.core n)) (knows FRONT))

-- an event that may happen is one of cores and queues, which may happen there
pub queue_event : {S : Type 0} (cores : Cores S) (shape : Shape) → IsClusterSize shape.nodes shape.spares →
    (watched : Watched S) (happening : Happening) (mark : Bool) →
    IsSound shape watched → IsEnabledWidely shape watched.world happening →
    IsQueueEnabled shape (queue_world_of watched) (queue_event_of watched.world happening mark)
    × (queue_world_of (after_watched cores watched (happening, mark)) ≡ after_queue_event cores shape (queue_world_of watched) (queue_event_of watched.world happening mark))
unfolding after queue_event_of after_queue_event
queue_event {S} cores shape size watched (handle actor id) mark sound may =
    let world : World S = watched.world in
    let m : Message = may.packet in
    let faithful : IsFaithful (endpoints_of world) watched.given m = emitted_faithful shape world watched.given id m sound.linked may.emitted in (
      subst (λ (packet : Option Message). IsQueueEnabled shape (queue_world_of watched) (event_on world actor mark packet)) (sym may.emitted)
          (handled_enabled cores shape size world watched.given sound actor may.lives m faithful may.addressed mark may.noted
          (received (world.actors actor).endpoint m.from m.seq) refl),
      subst (λ (packet : Option Message). queue_world_of (record {
        world = after_handling cores world actor mark packet;
        given = with_sends watched.given actor (set_number (world.actors actor).endpoint + 0) (step_on cores (world.actors actor) actor mark packet).step.sends;
      }) ≡ after_queue_event cores shape (queue_world_of watched) (event_on world actor mark packet)) (sym may.emitted)
          (handled_same cores shape size world watched.given sound actor may.lives m faithful may.addressed mark),
    )
queue_event {S} cores shape size watched (note actor) mark sound may =
    let world : World S = watched.world in (
      record { lives = may.lives; entry = may.entry; next = may.next },
      subst (λ (next : Option RosterEntry). queue_world_of (record {
        world = after_noting cores world actor next;
        given = with_sends watched.given actor (set_number (world.actors actor).endpoint + count_noted next)
            (step_at cores (world.actors actor) actor next).step.sends;
      }) ≡ after_entry cores shape (queue_world_of watched) actor next) (sym may.next)
          (noting_same cores shape size world watched.given sound actor may.entry may.lives may.next),
    )
queue_event {S} cores shape size watched (tick actor) mark sound lives =
    let before : ActingState S = watched.world.actors actor in (
      tt,
      queue_world_finished shape watched.world watched.given sound size watched.world.roster actor (after_tick before.endpoint)
          (ready_ticked shape watched.world watched.given sound actor lives)
          (unmoved before.core) None (set_number before.endpoint + 0) (omega (arith, ap length (frame-after_tick before.endpoint).noted))
          ∙ (ap (λ q. after_step q actor (unmoved before.core)) (same_ticked cores shape size watched.world watched.given sound actor)
          ∙ after_step-unmoved (queue_world_of watched) actor),
    )
queue_event {S} cores shape size watched (feed number text said) mark sound may =
    let front : ActingState S = watched.world.actors FRONT in
    let lines : ℕ = watched.world.lines + 1 in
    let stepped : CoreStep S = cores.fed FRONT (noted_in front.endpoint) front.core number text said in (
      record { next = may.next; silent = may.silent },
      ap (λ (q : QueueWorld S). record q { lines = lines })
          (queue_world_finished shape watched.world watched.given sound size watched.world.roster FRONT front.endpoint
          (ready_same shape watched.world watched.given sound FRONT (inl refl)) stepped None
          (set_number front.endpoint + 0) (omega arith)
          ∙ ap (λ q. after_step q FRONT stepped) (same_here cores shape size watched.world watched.given sound FRONT))
          ∙ ap (λ known. after_step (record (queue_world_of watched) { lines = lines }) FRONT (cores.fed FRONT known front.core number text said))
          (knows cores shape size watched.world watched.given sound FRONT),
    )
queue_event {S} cores shape size watched (stop n) mark sound all =
    (noted_all shape watched.world watched.given sound FRONT all, stopping_same cores shape size watched.world watched.given sound n all)
queue_event {S} cores shape size watched quiet mark sound may =
    let world : World S = watched.world in
    let noting : ActingState S = record (world.actors FRONT) { core = cores.quieted FRONT (world.actors FRONT).core } in (
      tt,
      same_queue_world _ _
          (map-with_at (λ (x : ActingState S). x.core) world.actors FRONT noting)
          (map-with_at_same (λ (x : ActingState S). x.endpoint.noted) world.actors FRONT noting refl)
          (λ i. queues_between (map-with_at_same (λ (x : ActingState S). x.endpoint) world.actors FRONT noting refl i)
          (sends_nothing watched.given FRONT (set_number (world.actors FRONT).endpoint + 0) i))
          refl refl refl,
    )
