-- The invariant of a run, kept by each stage of an actor's step: it takes a packet, notes an entry of the roster, gives messages, and emits packets.
use Rattle.std.proofs.Common.{◌≡◌, ℕ, ◌+◌, ◌-◌, ◌<◌, ◌≤◌, true, false, cond, ◌&&◌, ◌||◌, eqb, List, [], ◌∷◌, ◌++◌, length, drop, Option, Some, None, refl, ap, sym, ◌∙◌, subst, subst₂, inl, inr, arith}
use Rattle.std.specs.List.{slice_get, All}
use Rattle.std.specs.Option.{option_map}
use Rattle.std.proofs.lemmas.Bool.{eqb-true, cond_both, and_parts, or_parts}
use Rattle.std.proofs.lemmas.List.{map-append, length_push}
use Rattle.std.proofs.lemmas.List.Elements.{All-nil, All-append, All-map, All-weaker}
use Rattle.std.proofs.lemmas.Option.{slice_get-map}
use Rattle.cl_link.specs.LinkState.{LinkState, after_drop_all}
use Rattle.cl_link.specs.LinkPair.{IsGiven}
use Rattle.cl_link.proofs.Indices.{slice_get_kept, slice_get-drop, All-slice_get}
use Rattle.cl_link.proofs.LinkOrders.{order_drop_all, order_same_receiver}
use Rattle.cl_link.proofs.LinkPairs.{acks_same_sender, acks_more}
use Rattle.cl_link.proofs.LinkStates.{accepted-after_drop_all}
use Rattle.cl_roster.specs.declared.entry.RosterEntry.{RosterEntry}
use Rattle.cl_roster.specs.Roster.{is_stop_of, has_stopped}
use Rattle.cl_roster.proofs.Steps.{has_stopped-push}
use Rattle.cl_steps.specs.declared.steps.Outgoing.{Outgoing}
use Rattle.cl_wire.specs.Message.{Content, Message}
use Rattle.cl_endpoint.specs.declared.limits.TheConstants.{ACTORS}
use Rattle.cl_endpoint.specs.Endpoint.{EndpointState, link_to, received, after_receive, after_gives, after_note}
use Rattle.cl_endpoint.specs.Emission.{emitted, after_emit}
use Rattle.cl_endpoint.specs.Laws.{IsOwedToActor, IsKeptUnder, IsOf}
use Rattle.cl_endpoint.proofs.Carried.{emitted_is_kept}
use Rattle.cl_runs.specs.World.{Shape, with_at}
use Rattle.cl_runs.specs.Queues.{Tagged, Queues, sent_to, tagged, contents_of, with_sends}
use Rattle.cl_runs.specs.Laws.{CarriesGiven, IsFaithful, IsShaped, IsLinked}
use Rattle.cl_runs.proofs.Updates.{with_at-here}
use Rattle.cl_runs.proofs.Calls.{HasSameFrame, IsAlike, frame_same, alike_same, frame-after_receive, frame-after_emit, alike-after_emit, place-after_note, noted-after_note, link_to-after_note}
use Rattle.cl_runs.proofs.Giving.{frame-after_gives, link_to-after_gives, accepted-after_sends, released-after_sends, order_sends}
use Rattle.cl_runs.proofs.Taking.{AreInOrder, Carries, carries_number, order_taken, acks_taken, accepted_taken}

-- what holds between the actors' endpoints, what their links were given, and the packets that were emitted
pub record AreLinked (shape : Shape) (ends : ℕ → EndpointState) (given : Queues) (packets : List Message) : Type 0 where
  pub shaped : (actor : ℕ) → IsShaped shape actor (ends actor)
  pub linked : (from to : ℕ) → IsLinked ends given from to
  pub faithful : All (IsFaithful ends given) packets

-- in another state of an actor its link to a peer has accepted as much, and is in order where it was. It keeps no less, where the peer's stop was not noted
pub record LeavesLink (before after : EndpointState) (peer : ℕ) : Type 0 where
  pub accepted : (link_to after peer).accepted ≡ (link_to before peer).accepted
  pub order : (given : List Content) (receiver : LinkState Content) → AreInOrder given (link_to before peer) receiver →
      AreInOrder given (link_to after peer) receiver
  pub lives : has_stopped after.noted peer ≡ false → has_stopped before.noted peer ≡ false
  pub released : has_stopped after.noted peer ≡ false → (link_to after peer).released ≡ (link_to before peer).released

-- so has each of its links, and no entry of the roster is forgotten
pub record LeavesLinks (before after : EndpointState) : Type 0 where
  pub me : after.me ≡ before.me
  pub nodes : after.nodes ≡ before.nodes
  pub spares : after.spares ≡ before.spares
  pub links : length after.links ≡ length before.links
  pub noted : length before.noted ≤ length after.noted
  pub each : (peer : ℕ) → LeavesLink before after peer

-- what holds between two states of one actor holds between all actors, if only that one changes
pub lift_at : (R : EndpointState → EndpointState → Type 0) → ((e : EndpointState) → R e e) → (ends : ℕ → EndpointState) (me : ℕ) (before after : EndpointState) → R before after →
    (actor : ℕ) → R (with_at ends me before actor) (with_at ends me after actor)
lift_at R same ends me before after change actor =
    elim (eqb actor me) as (λ here. R (cond here before (ends actor)) (cond here after (ends actor))) [ true ↦ change | false ↦ same (ends actor) ]

-- what stays of an endpoint: whose it is, how large the cluster is, and how many links there are
shaped_frame : (shape : Shape) (actor : ℕ) (before after : EndpointState) → HasSameFrame before after → IsShaped shape actor before → IsShaped shape actor after
shaped_frame shape actor before after frame was = record {
  me = frame.me ∙ was.me;
  nodes = frame.nodes ∙ was.nodes;
  spares = frame.spares ∙ was.spares;
  links = frame.links ∙ was.links;
}

shaped_left : (shape : Shape) (actor : ℕ) (before after : EndpointState) → LeavesLinks before after → IsShaped shape actor before → IsShaped shape actor after
shaped_left shape actor before after leaves was = record {
  me = leaves.me ∙ was.me;
  nodes = leaves.nodes ∙ was.nodes;
  spares = leaves.spares ∙ was.spares;
  links = leaves.links ∙ was.links;
}

carries_more : (given more : Queues) (m : Message) → ((from to i : ℕ) (t : Tagged) → slice_get (given from to) i ≡ Some t → slice_get (more from to) i ≡ Some t) → CarriesGiven given m → CarriesGiven more m
carries_more given more m kept carries = record {
  numbered = carries.numbered;
  message = carries.message;
  at = kept m.from m.to (m.seq - 1) carries.message carries.at;
  content = carries.content;
  tag = carries.tag;
}

-- a packet still says what is so once more was given and accepted
faithful_more : (ends after : ℕ → EndpointState) (given more : Queues) (m : Message) →
    ((actor : ℕ) → length (ends actor).noted ≤ length (after actor).noted) →
    ((actor peer : ℕ) → (link_to (ends actor) peer).accepted ≤ (link_to (after actor) peer).accepted) →
    ((from to i : ℕ) (t : Tagged) → slice_get (given from to) i ≡ Some t → slice_get (more from to) i ≡ Some t) →
    IsFaithful ends given m → IsFaithful after more m
faithful_more ends after given more m noted accepted kept faithful = record {
  sender = faithful.sender;
  receiver = faithful.receiver;
  carries = elim (faithful.carries) [ inl bare ↦ inl bare | inr carries ↦ inr (carries_more given more m kept carries) ];
  set = omega (arith, faithful.set, noted m.from);
  ack = omega (arith, faithful.ack, accepted m.from m.to);
}

order_alike : {given : List Content} {sender receiver : LinkState Content} → AreInOrder given sender receiver → (sender' : LinkState Content) →
    IsAlike sender sender' → AreInOrder given sender' receiver
order_alike {given} order sender' alike = record {
  numbered = alike.last ∙ order.numbered;
  kept = alike.kept ∙ (order.kept ∙ ap (λ n. drop n given) (sym alike.released));
  accepted = order.accepted;
  carried = All-nil _;
}

-- links that differ in what is due alone
pub leaves_alike : (before after : EndpointState) → HasSameFrame before after → ((peer : ℕ) → IsAlike (link_to before peer) (link_to after peer)) →
    LeavesLinks before after
leaves_alike before after frame alike = record {
  me = frame.me;
  nodes = frame.nodes;
  spares = frame.spares;
  links = frame.links;
  noted = omega (arith, ap length frame.noted);
  each = λ peer. record {
    accepted = (alike peer).accepted;
    order = λ given receiver order. order_alike order (link_to after peer) (alike peer);
    lives = λ lives. ap (λ noted. has_stopped noted peer) (sym frame.noted) ∙ lives;
    released = λ lives. (alike peer).released;
  };
}

leaves_same : (e : EndpointState) → LeavesLinks e e
leaves_same e = leaves_alike e e (frame_same e) (λ peer. alike_same (link_to e peer))

-- an entry of the roster is noted
pub leaves_noted : (e : EndpointState) (entry : RosterEntry) → LeavesLinks e (after_note e entry)
leaves_noted e entry = record {
  me = (place-after_note e entry).me;
  nodes = (place-after_note e entry).nodes;
  spares = (place-after_note e entry).spares;
  links = (place-after_note e entry).links;
  noted = omega (arith, ap length (noted-after_note e entry), length_push e.noted entry);
  each = λ peer.
      let was : LinkState Content = link_to e peer in
      let split : has_stopped (after_note e entry).noted peer ≡ (has_stopped e.noted peer || is_stop_of peer entry)
      = ap (λ noted. has_stopped noted peer) (noted-after_note e entry) ∙ has_stopped-push e.noted entry peer in record {
        accepted = ap (λ link. link.accepted) (link_to-after_note e entry peer)
            ∙ cond_both (is_stop_of peer entry) (after_drop_all was) was (λ link. link.accepted ≡ was.accepted) (λ stops. accepted-after_drop_all was)
            (λ lives. refl);
        order = λ given receiver order. subst (λ link. AreInOrder given link receiver) (sym (link_to-after_note e entry peer))
            (cond_both (is_stop_of peer entry) (after_drop_all was) was (λ link. AreInOrder given link receiver) (λ stops. order_drop_all order)
            (λ lives. order));
        lives = λ lives. (or_parts (has_stopped e.noted peer) (is_stop_of peer entry) (sym split ∙ lives)).0;
        released = λ lives. ap (λ link. link.released) (link_to-after_note e entry peer)
            ∙ ap (λ stops. (cond stops (after_drop_all was) was).released) (or_parts (has_stopped e.noted peer) (is_stop_of peer entry) (sym split ∙ lives)).1;
      };
}

-- a tag that is small enough stays so
tags_more : (messages : List Tagged) (few many : ℕ) → few ≤ many → All (λ t. t.tag ≤ few) messages → All (λ t. t.tag ≤ many) messages
tags_more messages few many more tags = All-weaker (λ (t : Tagged). t.tag ≤ few) (λ (t : Tagged). t.tag ≤ many) (λ t within. omega arith) messages tags

noted_as_many : (before after : EndpointState) → HasSameFrame before after → length before.noted ≤ length after.noted
noted_as_many before after frame = omega (arith, ap length frame.noted)

-- what has this content stands at this index
tagged_at : (messages : List Tagged) (i : ℕ) (content : Content) → slice_get (contents_of messages) i ≡ Some content → (t : Tagged) × (slice_get messages i ≡ Some t) × (t.content ≡ content)
tagged_at messages i content at = go (slice_get messages i) refl (sym (slice_get-map (λ (t : Tagged). t.content) messages i) ∙ at)
  where
    go : (found : Option Tagged) → slice_get messages i ≡ found → option_map (λ (t : Tagged). t.content) found ≡ Some content → (t : Tagged) × (slice_get messages i ≡ Some t) × (t.content ≡ content)
    go None is same = absurd cc
    go (Some t) is same = (t, is, cc)

contents-tagged : (tag : ℕ) (contents : List Content) → contents_of (tagged tag contents) ≡ contents
contents-tagged tag [] = refl
contents-tagged tag (content ∷ contents) = ap (λ cs. content ∷ cs) (contents-tagged tag contents)

pub contents-append : (messages : List Tagged) (tag : ℕ) (contents : List Content) → contents_of (messages ++ tagged tag contents) ≡ contents_of messages ++ contents
contents-append messages tag contents = map-append (λ (t : Tagged). t.content) messages (tagged tag contents) ∙ ap (λ cs. contents_of messages ++ cs) (contents-tagged tag contents)

-- what the links were given once an actor gave messages
abbrev pub given_by : Queues → ℕ → EndpointState → List Outgoing → Queues
given_by given me e sends = with_sends given me (length e.noted) sends

-- an actor that took a packet
abbrev pub took : EndpointState → Message → EndpointState
took e m = after_receive e m.from m.seq m.ack

module _ {shape : Shape} (ends : ℕ → EndpointState) (me : ℕ) (e : EndpointState) {given : Queues} {packets : List Message} (are : AreLinked shape (with_at ends me e) given packets) where
  pub shaped-here : IsShaped shape me e
  shaped-here = subst (IsShaped shape me) (with_at-here ends me e) (are.shaped me)

  -- the actor's links are left as they are, but for what is due, and what is kept for a node that has stopped
  pub linked_left : (e' : EndpointState) → LeavesLinks e e' → AreLinked shape (with_at ends me e') given packets
  linked_left e' leaves =
      let leave : (actor : ℕ) → LeavesLinks (with_at ends me e actor) (with_at ends me e' actor) = lift_at LeavesLinks leaves_same ends me e e' leaves in
      record {
        shaped = λ actor. shaped_left shape actor (with_at ends me e actor) (with_at ends me e' actor) (leave actor) (are.shaped actor);
        linked = λ from to.
            let receiver : LinkState Content = link_to (with_at ends me e' to) from in record {
              order = order_same_receiver (((leave from).each to).order (contents_of (given from to)) _ (are.linked from to).order) receiver
                  ((leave to).each from).accepted;
              acks = λ lives. acks_more (acks_same_sender ((are.linked from to).acks (((leave from).each to).lives lives))
                  (link_to (with_at ends me e' from) to) (((leave from).each to).released lives))
                  receiver (omega (arith, ((leave to).each from).accepted));
              tags = tags_more (given from to) _ _ (leave from).noted (are.linked from to).tags;
            };
        faithful = All-weaker (IsFaithful (with_at ends me e) given) (IsFaithful (with_at ends me e') given)
            (λ m. faithful_more (with_at ends me e) (with_at ends me e') given given m (λ actor. (leave actor).noted)
            (λ actor peer. omega (arith, ((leave actor).each peer).accepted)) (λ from to i t at. at))
            packets are.faithful;
      }

  pub linked_alike : (e' : EndpointState) → HasSameFrame e e' → ((peer : ℕ) → IsAlike (link_to e peer) (link_to e' peer)) →
      AreLinked shape (with_at ends me e') given packets
  linked_alike e' frame alike = linked_left e' (leaves_alike e e' frame alike)

  -- the actor takes a packet
  module _ (m : Message) (here : m.to ≡ me) (faithful : IsFaithful (with_at ends me e) given m) where
    sender_within : m.from < length e.links
    sender_within = omega (arith, faithful.sender, shaped-here.links)

    acknowledged : (actor peer : ℕ) → (eqb actor me && eqb peer m.from) ≡ true → m.ack ≤ (link_to (with_at ends me e peer) actor).accepted
    acknowledged actor peer at =
        let parts : (eqb actor me ≡ true) × (eqb peer m.from ≡ true) = and_parts (eqb actor me) (eqb peer m.from) at in
        subst₂ (λ sender receiver. m.ack ≤ (link_to (with_at ends me e sender) receiver).accepted) (sym (eqb-true peer m.from parts.1)) (here ∙ sym (eqb-true actor me parts.0)) faithful.ack

    pub carried : Carries (received e m.from m.seq) → CarriesGiven given m
    carried carries = elim (faithful.carries) [ inl bare ↦ absurd (carries_number e m.from m.seq bare.number carries) | inr given ↦ given ]

    was_given : (actor peer : ℕ) → (eqb peer me && eqb actor m.from) ≡ true → Carries (received e m.from m.seq) → IsGiven (contents_of (given actor peer)) (Some (m.seq, m.content))
    was_given actor peer at carries =
        let parts : (eqb peer me ≡ true) × (eqb actor m.from ≡ true) = and_parts (eqb peer me) (eqb actor m.from) at in
        let found : CarriesGiven given m = carried carries in
        subst₂ (λ from to. IsGiven (contents_of (given from to)) (Some (m.seq, m.content))) (sym (eqb-true actor m.from parts.1)) (here ∙ sym (eqb-true peer me parts.0)) (
          found.numbered,
          slice_get-map (λ (t : Tagged). t.content) (given m.from m.to) (m.seq - 1) ∙ (ap (option_map (λ (t : Tagged). t.content)) found.at ∙ ap Some found.content),
        )

    pub linked_taken : AreLinked shape (with_at ends me (took e m)) given packets
    linked_taken =
        let frames : (actor : ℕ) → HasSameFrame (with_at ends me e actor) (with_at ends me (took e m) actor) = lift_at HasSameFrame frame_same ends me e (took e m) (frame-after_receive e m.from m.seq m.ack) in
        record {
          shaped = λ actor. shaped_frame shape actor (with_at ends me e actor) (with_at ends me (took e m) actor) (frames actor) (are.shaped actor);
          linked = λ from to. record {
            order = order_taken ends me e m.from m.seq m.ack sender_within (contents_of (given from to)) m.content from to (are.linked from to).order
                (was_given from to);
            acks = λ lives. acks_taken ends me e m.from m.seq m.ack sender_within m.content from to
                ((are.linked from to).acks (ap (λ noted. has_stopped noted to) (sym (frames from).noted) ∙ lives)) (acknowledged from to);
            tags = tags_more (given from to) _ _ (noted_as_many _ _ (frames from)) (are.linked from to).tags;
          };
          faithful = All-weaker (IsFaithful (with_at ends me e) given) (IsFaithful (with_at ends me (took e m)) given)
              (λ p. faithful_more (with_at ends me e) (with_at ends me (took e m)) given given p (λ actor. noted_as_many _ _ (frames actor))
              (λ actor peer. accepted_taken ends me e m.from m.seq m.ack sender_within m.content actor peer) (λ from to i t at. at))
              packets are.faithful;
        }

  -- the actor gives messages
  module _ (sends : List Outgoing) where
    pub accepted_given : (actor peer : ℕ) → (link_to (with_at ends me (after_gives e sends) actor) peer).accepted ≡ (link_to (with_at ends me e actor) peer).accepted
    accepted_given = lift_at (λ x y. (peer : ℕ) → (link_to y peer).accepted ≡ (link_to x peer).accepted) (λ x peer. refl) ends me e (after_gives e sends)
        (λ peer. ap (λ link. link.accepted) (link_to-after_gives sends e peer shaped-here.links) ∙ accepted-after_sends (sent_to peer sends) (link_to e peer))

    kept_given : (from to i : ℕ) (t : Tagged) → slice_get (given from to) i ≡ Some t → slice_get ((given_by given me e sends) from to) i ≡ Some t
    kept_given from to i t at = cond_both (eqb from me) (given from to ++ tagged (length e.noted) (sent_to to sends)) (given from to) (λ all. slice_get all i ≡ Some t)
        (λ here. slice_get_kept (given from to) (tagged (length e.noted) (sent_to to sends)) i t at) (λ elsewhere. at)

    released_given : (actor peer : ℕ) → (link_to (with_at ends me (after_gives e sends) actor) peer).released
        ≡ (link_to (with_at ends me e actor) peer).released
    released_given = lift_at (λ x y. (peer : ℕ) → (link_to y peer).released ≡ (link_to x peer).released) (λ x peer. refl) ends me e (after_gives e sends)
        (λ peer. ap (λ link. link.released) (link_to-after_gives sends e peer shaped-here.links) ∙ released-after_sends (sent_to peer sends) (link_to e peer))

    order_given : (from to : ℕ) → AreInOrder (contents_of ((given_by given me e sends) from to)) (link_to (with_at ends me (after_gives e sends) from) to)
        (link_to (with_at ends me (after_gives e sends) to) from)
    order_given from to =
        let receiver : LinkState Content = link_to (with_at ends me (after_gives e sends) to) from in
        (elim (eqb from me) as (λ here. AreInOrder (contents_of (given from to)) (link_to (cond here e (ends from)) to) receiver →
        AreInOrder (contents_of (cond here (given from to ++ tagged (length e.noted) (sent_to to sends)) (given from to)))
        (link_to (cond here (after_gives e sends) (ends from)) to) receiver) [
          | true ↦ λ order. subst₂ (λ all sender. AreInOrder all sender receiver) (sym (contents-append (given from to) (length e.noted) (sent_to to sends)))
              (sym (link_to-after_gives sends e to shaped-here.links))
              (order_sends (sent_to to sends) (contents_of (given from to)) (link_to e to) receiver order)
          | false ↦ λ order. order
        ]) (order_same_receiver (are.linked from to).order receiver (accepted_given to from))

    tags_given : (from to : ℕ) → All (λ t. t.tag ≤ length (with_at ends me (after_gives e sends) from).noted) ((given_by given me e sends) from to)
    tags_given from to =
        (elim (eqb from me) as (λ here. All (λ t. t.tag ≤ length (cond here e (ends from)).noted) (given from to) →
        All (λ t. t.tag ≤ length (cond here (after_gives e sends) (ends from)).noted) (cond here (given from to ++ tagged (length e.noted) (sent_to to sends)) (given from to))) [
          | true ↦ λ tags. tags_more _ (length e.noted) (length (after_gives e sends).noted)
              (noted_as_many e (after_gives e sends) (frame-after_gives sends e)) (All-append (λ (t : Tagged). t.tag ≤ length e.noted) (given from to) _ tags
              (All-map (λ (t : Tagged). t.tag ≤ length e.noted) (λ content. record { content = content; tag = length e.noted }) (sent_to to sends) (λ i content within. omega arith)))
          | false ↦ λ tags. tags
        ]) (are.linked from to).tags

    pub linked_given : AreLinked shape (with_at ends me (after_gives e sends)) (given_by given me e sends) packets
    linked_given =
        let frames : (actor : ℕ) → HasSameFrame (with_at ends me e actor) (with_at ends me (after_gives e sends) actor) = lift_at HasSameFrame frame_same ends me e (after_gives e sends) (frame-after_gives sends e) in
        record {
          shaped = λ actor. shaped_frame shape actor (with_at ends me e actor) (with_at ends me (after_gives e sends) actor) (frames actor) (are.shaped actor);
          linked = λ from to. record {
            order = order_given from to;
            acks = λ lives. acks_more (acks_same_sender ((are.linked from to).acks (ap (λ noted. has_stopped noted to) (sym (frames from).noted) ∙ lives))
                (link_to (with_at ends me (after_gives e sends) from) to) (released_given from to)) (link_to (with_at ends me (after_gives e sends) to) from)
                (omega (arith, accepted_given to from));
            tags = tags_given from to;
          };
          faithful = All-weaker (IsFaithful (with_at ends me e) given) (IsFaithful (with_at ends me (after_gives e sends)) (given_by given me e sends))
              (λ p. faithful_more (with_at ends me e) (with_at ends me (after_gives e sends)) given (given_by given me e sends) p
              (λ actor. noted_as_many _ _ (frames actor)) (λ actor peer. omega (arith, accepted_given actor peer)) kept_given)
              packets are.faithful;
        }

  -- what the actor emits

  -- what it keeps was given
  kept_is_given : (to seq : ℕ) (content : Content) → IsKeptUnder (link_to e to) seq content → slice_get (contents_of (given me to)) (seq - 1) ≡ Some content
  kept_is_given to seq content kept =
      let s : LinkState Content = link_to e to in
      let order : AreInOrder (contents_of (given me to)) (link_to e to) (link_to (with_at ends me e to) me)
      = subst (λ x. AreInOrder (contents_of (given me to)) (link_to x to) (link_to (with_at ends me e to) me)) (with_at-here ends me e)
      (are.linked me to).order in
      let index : s.released + (seq - s.released - 1) ≡ seq - 1 = omega (arith, kept.0) in
      ap (slice_get (contents_of (given me to))) (sym index)
      ∙ (sym (slice_get-drop s.released (contents_of (given me to)) (seq - s.released - 1))
      ∙ (ap (λ (all : List Content). slice_get all (seq - s.released - 1)) (sym order.kept) ∙ kept.1))

  carries_own : (m : Message) → m.from ≡ me → m.set ≡ length e.noted → IsKeptUnder (link_to e m.to) m.seq m.content → CarriesGiven given m
  carries_own m from set kept =
      let found = tagged_at (given me m.to) (m.seq - 1) m.content (kept_is_given m.to m.seq m.content kept) in
      let tags : All (λ (t : Tagged). t.tag ≤ length e.noted) (given me m.to)
      = subst (λ x. All (λ (t : Tagged). t.tag ≤ length x.noted) (given me m.to)) (with_at-here ends me e) (are.linked me m.to).tags in
      record {
        numbered = omega (arith, kept.0);
        message = found.0;
        at = subst (λ n. slice_get (given n m.to) (m.seq - 1) ≡ Some found.0) (sym from) found.1;
        content = found.2;
        tag = omega (arith, set, All-slice_get (λ (t : Tagged). t.tag ≤ length e.noted) (given me m.to) (m.seq - 1) found.0 tags found.1);
      }

  faithful_own : me < ACTORS → (m : Message) → IsOf e m → IsFaithful (with_at ends me e) given m
  faithful_own actor m own =
      let from : m.from ≡ me = own.from ∙ shaped-here.me in
      let sender : with_at ends me e m.from ≡ e = ap (with_at ends me e) from ∙ with_at-here ends me e in
      record {
        sender = omega (arith, from);
        receiver = omega (arith, own.to, shaped-here.links);
        carries = elim (own.carried) [ inl bare ↦ inl (record { number = bare.0; content = bare.1 }) | inr kept ↦ inr (carries_own m from own.set kept) ];
        set = omega (arith, own.set, ap (λ x. length x.noted) sender);
        ack = omega (arith, own.ack, ap (λ x. (link_to x m.to).accepted) sender);
      }

-- the actor emits packets
pub linked_emitted : {shape : Shape} (ends : ℕ → EndpointState) (me : ℕ) (e : EndpointState) {given : Queues} {packets : List Message} → AreLinked shape (with_at ends me e) given packets → me < ACTORS →
    (owed : Option ℕ) → IsOwedToActor e owed → AreLinked shape (with_at ends me (after_emit e owed)) given (packets ++ emitted e owed)
linked_emitted ends me e {given} {packets} are actor owed known =
    linked_alike ends me e (record {
      shaped = are.shaped;
      linked = are.linked;
      faithful = All-append (IsFaithful (with_at ends me e) given) packets (emitted e owed) are.faithful
          (All-weaker (IsOf e) (IsFaithful (with_at ends me e) given) (faithful_own ends me e are actor) (emitted e owed) (emitted_is_kept e owed known));
    }) (after_emit e owed) (frame-after_emit e owed) (alike-after_emit e owed)
