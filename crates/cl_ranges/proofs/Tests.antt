-- What an unspent step needs: no number of the front or of a primary above its limit, and none of a link.
use Rattle.std.proofs.Common.{◌≡◌, ◌≢◌, ℕ, ◌≤◌, ◌&&◌, Bool, true, false, cond, inl, inr, List, [], ◌∷◌, ◌++◌, length, All, Option, Some, None, refl, sym, ap, ◌∙◌, subst, subst₂}
use Rattle.std.proofs.lemmas.Bool.{true≢false, cases_eq, cond_both, cond-true, eq-eqb, ne_eqb, or_parts}
use Rattle.std.proofs.lemmas.List.Elements.{All-head}
use Rattle.cl_steps.specs.Steps.{receivers}
use Rattle.cl_actor.specs.Acting.{noted_in, unmoved, is_now, delivery, is_handling_spent}
use Rattle.cl_cluster.proofs.Nodes.{addressed_to, node_with, node_here, primary_in_slot}
use Rattle.cl_endpoint.specs.declared.received.Received.TheVariants.{Now}
use Rattle.cl_endpoint.specs.Endpoint.{EndpointState, link_to, received, after_receive, is_spent_to}
use Rattle.cl_front.specs.Front as at_front
use Rattle.cl_link.specs.declared.link.TheConstants.{NUMBER_MAX}
use Rattle.cl_link.specs.LinkState.{last_number}
use Rattle.cl_node.specs.Members.{backed_up}
use Rattle.cl_node.specs.Node.{NodeState, replica_for, is_replica_spent, is_slot_spent}
use Rattle.cl_pairs.specs.Pairs.{PairWorld}
use Rattle.cl_ranges.proofs.Counts.{stays_few}
use Rattle.cl_ranges.proofs.Given.{IsActing}
use Rattle.cl_ranges.proofs.Steps.{now_from, AreTogether, noted_is, head_waits, noting_gives}
use Rattle.cl_ranges.proofs.Unspent.{outward_addressed, IsUnspentAmongPairs, IsUnspentPairEvent}
use Rattle.cl_ranges.specs.Spent.{is_core_delivery_spent, is_packet_spent, is_core_line_spent, is_spent}
use Rattle.cl_roster.specs.Roster.{IsClusterSize}
use Rattle.cl_runs.proofs.Events.{linked_here, emitted_faithful, faithful_here}
use Rattle.cl_runs.proofs.Linked.{linked_taken}
use Rattle.cl_runs.specs.Laws.{IsFaithful}
use Rattle.cl_runs.specs.Queues.{contents_of, tagged, sent_to, actor_of, step_on, next_entry, core_step, queue_world_of, Watched, deliver, nothing, event_on, queue_event_of}
use Rattle.cl_runs.specs.World.{Shape, World, endpoints_of, Happening, handle, note, tick, feed, packet_at, IsEnabledWidely}
use Rattle.cl_seen.specs.Seen.{is_internal}
use Rattle.cl_seen.specs.Ways.{IsPairAddressed}
use Rattle.cl_steps.specs.declared.actors.TheConstants.{FRONT}
use Rattle.cl_steps.specs.declared.steps.Outgoing.{Outgoing}
use Rattle.cl_system.proofs.Places.{receiver_below}
use Rattle.cl_system.specs.Replicas.{nothing_noted}
use Rattle.cl_system.specs.Roles.{IsAddressed}
use Rattle.cl_system.specs.System.{Core, front, delivered_core, system}
use Rattle.cl_vnode.specs.Inputs as at_vnode
use Rattle.cl_vnode.specs.Replica.{ReplicaState}
use Rattle.cl_wire.specs.Message.{Content, Message, Log}

-- ---- the tests of a step

-- a test that is made only in one case, in that case
both_false : (a b : Bool) → (a && b) ≡ false → a ≡ true → b ≡ false
both_false true b is now = is
both_false false b is now = absurd cc

-- the step of an outward message is one of a primary
primary_spent : (replica : ReplicaState) (content : Content) → is_internal content ≡ false →
    is_replica_spent replica content ≡ at_vnode.is_spent replica content
primary_spent replica (Log v number entry) out = absurd (true≢false out)
primary_spent replica content out = refl

module _ (shape : Shape) (size : IsClusterSize shape.nodes shape.spares) (watched : Watched Core) (pairs : PairWorld)
    (is : AreTogether shape watched pairs) where
  -- the system with packets
  abbrev world : World Core
  world = watched.world

  -- the test of a node is that of its primary
  node_test : (from me : ℕ) (content : Content) → me ≢ FRONT → IsPairAddressed shape.nodes from me content → is_internal content ≡ false →
      is_core_delivery_spent (nothing_noted shape) (world.actors me).core from content ≡ at_vnode.is_spent (pairs.primaries me) content
  node_test from me content apart way out =
      let alone : IsAddressed shape.nodes from me content = outward_addressed shape.nodes from me content out way in
      let below = receiver_below shape.nodes from me content size.counted apart alone in
      let standby : ReplicaState = pairs.standbys (backed_up shape.nodes me) in
      let state : NodeState = node_with shape.nodes me (pairs.primaries me) standby in
      ap (λ (core : Core). is_core_delivery_spent (nothing_noted shape) core from content)
      (node_here shape size.counted (queue_world_of watched) pairs is.alike me below)
      ∙ ap (λ (for : Option ℕ). is_slot_spent (replica_for state for) content) (addressed_to shape.nodes from me content apart alone)
      ∙ ap (λ (slot : Option ReplicaState). is_slot_spent slot content) (primary_in_slot shape.nodes me (pairs.primaries me) standby size.counted below)
      ∙ primary_spent (pairs.primaries me) content out

  -- the test of an actor is that of the front or of a primary
  actor_test : (from me : ℕ) (content : Content) → IsPairAddressed shape.nodes from me content → is_internal content ≡ false →
      is_core_delivery_spent (nothing_noted shape) (world.actors me).core from content ≡ false → IsUnspentAmongPairs shape pairs from me content
  actor_test from me content way out unspent = elim (cases_eq me FRONT) [
    | inl at_front ↦ the_front at_front
    | inr apart ↦
        let alone : at_vnode.is_spent (pairs.primaries me) content ≡ false = sym (node_test from me content apart way out) ∙ unspent in
        rw (ne_eqb me FRONT apart) alone
  ]
    where
      the_front : me ≡ FRONT → IsUnspentAmongPairs shape pairs from me content
      the_front here =
          let core : (world.actors me).core ≡ front pairs.front = ap (λ n. (world.actors n).core) here ∙ is.alike.front in
          let said : at_front.is_delivery_spent (nothing_noted shape) pairs.front from content ≡ false
          = subst (λ (c : Core). is_core_delivery_spent (nothing_noted shape) c from content ≡ false) core unspent in
          rw (eq-eqb me FRONT here) said

  -- a packet is handled
  module _ (me : ℕ) (m : Message) (mark : Bool) (faithful : IsFaithful (endpoints_of watched.world) watched.given m) (here : m.to ≡ me)
      (unspent : is_handling_spent (delivered_core me) is_core_delivery_spent (watched.world.actors me) m mark ≡ false) where
    -- what was tested of a packet that is accepted now
    tests : received (world.actors me).endpoint m.from m.seq ≡ Now →
        (is_core_delivery_spent (noted_in (world.actors me).endpoint) (world.actors me).core m.from m.content ≡ false)
        × (is_spent_to (after_receive (world.actors me).endpoint m.from m.seq m.ack)
        (receivers (delivery (delivered_core me) (world.actors me) m mark).step) ≡ false)
    tests now = or_parts _ _ (both_false _ _ unspent (ap is_now now))

    -- what is accepted now is the first message on its way
    now_unspent : received (world.actors me).endpoint m.from m.seq ≡ Now → IsUnspentPairEvent shape pairs (deliver m.from me mark)
    now_unspent now content rest waits out =
        let head = head_waits shape size watched pairs is me m faithful here now in
        let first : pairs.mail m.from me ≡ m.content ∷ head.0 = head.1 in
        let same : m.content ≡ content = cc in
        let way : IsPairAddressed shape.nodes m.from me content
        = All-head (IsPairAddressed shape.nodes m.from me) content rest (subst (All (IsPairAddressed shape.nodes m.from me)) waits (is.addressed m.from me)) in
        actor_test m.from me content way out
        (subst₂ (λ noted asked. is_core_delivery_spent noted (world.actors me).core m.from asked ≡ false) (sym (noted_is shape size watched pairs is me)) same
        (tests now).0)

    -- of any packet
    packet_unspent : IsUnspentPairEvent shape pairs (event_on world me mark (Some m))
    packet_unspent = by (is_now (received (world.actors me).endpoint m.from m.seq)) refl
      where
        by : (now : Bool) → is_now (received (world.actors me).endpoint m.from m.seq) ≡ now →
            IsUnspentPairEvent shape pairs (cond now (deliver m.from me mark) nothing)
        by true now = now_unspent (now_from (received (world.actors me).endpoint m.from m.seq) now)
        by false not_now = tt

  -- likewise in any event
  pub happening_unspent : (happening : Happening) (mark : Bool) → IsEnabledWidely shape watched.world happening →
      is_spent watched.world happening mark ≡ false →
      IsUnspentPairEvent shape pairs (queue_event_of watched.world happening mark)
  unfolding queue_event_of is_spent
  happening_unspent (handle actor id) mark may unspent =
      subst (λ (found : Option Message). is_packet_spent world actor found mark ≡ false → IsUnspentPairEvent shape pairs (event_on world actor mark found))
      (sym may.emitted)
      (packet_unspent actor may.packet mark (emitted_faithful shape world watched.given id may.packet is.links.linked may.emitted) may.addressed) unspent
  happening_unspent (feed number text said) mark may unspent =
      subst₂ (λ noted core. is_core_line_spent noted core number text said ≡ false) (sym (noted_is shape size watched pairs is FRONT)) is.alike.front
      (or_parts _ _ unspent).0
  happening_unspent other mark may unspent = tt

  -- ---- the numbers of links

  -- with what it gives an actor stays within the numbers of its links
  abbrev StaysFew : ℕ → List Outgoing → Type 0
  StaysFew me sends = (to tag : ℕ) → length (watched.given me to ++ tagged tag (sent_to to sends)) ≤ NUMBER_MAX

  module _ (few : (from to : ℕ) → length (watched.given from to) ≤ NUMBER_MAX) where
    -- nothing given needs no number
    none_spent : (end : EndpointState) → is_spent_to end [] ≡ false
    unfolding is_spent_to
    none_spent end = refl

    -- who gives nothing stays within them
    nothing_few : (me : ℕ) → StaysFew me []
    nothing_few me to tag =
        stays_few (world.actors me).endpoint to tag (watched.given me to) [] (is.links.linked.linked me to).order.numbered (few me to)
        (none_spent (world.actors me).endpoint)

    -- a packet that is accepted now
    now_few : (me : ℕ) (m : Message) (mark : Bool) → IsFaithful (endpoints_of watched.world) watched.given m → m.to ≡ me →
        is_handling_spent (delivered_core me) is_core_delivery_spent (watched.world.actors me) m mark ≡ false →
        received (watched.world.actors me).endpoint m.from m.seq ≡ Now → StaysFew me (delivery (delivered_core me) (watched.world.actors me) m mark).step.sends
    now_few me m mark faithful here unspent now to tag =
        let heard : EndpointState = after_receive (world.actors me).endpoint m.from m.seq m.ack in
        let numbered : last_number (link_to heard to) ≡ length (contents_of (watched.given me to))
        = subst (λ (end : EndpointState). last_number (link_to end to) ≡ length (contents_of (watched.given me to))) (cond-true _ _ _ (eq-eqb me me refl))
        ((linked_taken (endpoints_of world) me (world.actors me).endpoint (linked_here shape world watched.given me is.links.linked) m here
        (faithful_here shape world watched.given me m faithful)).linked me to).order.numbered in
        stays_few heard to tag (watched.given me to) (delivery (delivered_core me) (world.actors me) m mark).step.sends numbered (few me to)
        (tests me m mark faithful here unspent now).1

    -- so of any packet
    packet_few : (me : ℕ) (m : Message) (mark : Bool) → IsFaithful (endpoints_of watched.world) watched.given m → m.to ≡ me →
        is_handling_spent (delivered_core me) is_core_delivery_spent (watched.world.actors me) m mark ≡ false →
        StaysFew me (step_on (system shape.nodes) (watched.world.actors me) me mark (Some m)).step.sends
    packet_few me m mark faithful here unspent = by (is_now (received (world.actors me).endpoint m.from m.seq)) refl
      where
        by : (now : Bool) → is_now (received (world.actors me).endpoint m.from m.seq) ≡ now →
            StaysFew me (cond now (delivery (delivered_core me) (world.actors me) m mark) (unmoved (world.actors me).core)).step.sends
        by true now = now_few me m mark faithful here unspent (now_from (received (world.actors me).endpoint m.from m.seq) now)
        by false not_now = nothing_few me

    -- and in any event
    pub event_few : (happening : Happening) (mark : Bool) → IsEnabledWidely shape watched.world happening → is_spent watched.world happening mark ≡ false →
        StaysFew (actor_of happening) (core_step (system shape.nodes) watched.world happening mark).step.sends
    unfolding is_spent
    event_few (handle actor id) mark may unspent =
        subst (λ (found : Option Message). is_packet_spent world actor found mark ≡ false →
        StaysFew actor (step_on (system shape.nodes) (world.actors actor) actor mark found).step.sends) (sym may.emitted)
        (packet_few actor may.packet mark (emitted_faithful shape world watched.given id may.packet is.links.linked may.emitted) may.addressed) unspent
    event_few (note actor) mark may unspent =
        subst (λ step. StaysFew actor step.sends) (sym (noting_gives shape size watched pairs is actor (next_entry world actor))) (nothing_few actor)
    event_few (tick actor) mark may unspent = nothing_few actor
    event_few (feed number text said) mark may unspent =
        λ to tag. stays_few (world.actors FRONT).endpoint to tag (watched.given FRONT to) _ (is.links.linked.linked FRONT to).order.numbered (few FRONT to)
        (or_parts _ _ unspent).1
    event_few other mark may unspent = nothing_few FRONT

  -- who acts
  pub event_acting : (happening : Happening) (mark : Bool) → IsActing (queue_event_of watched.world happening mark) (actor_of happening)
  unfolding queue_event_of
  event_acting (handle actor id) mark = by (packet_at world id)
    where
      by : (found : Option Message) → IsActing (event_on world actor mark found) actor
      by None = tt
      by (Some m) =
          cond_both (is_now (received (world.actors actor).endpoint m.from m.seq)) (deliver m.from actor mark) nothing (λ event. IsActing event actor)
          (λ now. refl) (λ later. tt)
  event_acting (feed number text said) mark = refl
  event_acting other mark = tt
