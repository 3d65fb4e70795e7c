-- Emission, packet by packet and actor by actor.
use Rattle.std.proofs.Common.{true, false, ◌≡◌, ◌≢◌, ℕ, ◌+◌, ◌-◌, ◌<◌, ◌≤◌, List, [], ◌∷◌, ◌++◌, length, map, take, Option, Some, None, is_some, refl, ap, sym, ◌∙◌, arith, append_assoc, add-zero, zero-add, add-one, zero, suc}
use Rattle.std.proofs.lemmas.List.{append-nil, length-append, take_all, length-take}
use Rattle.std.proofs.lemmas.List.Sums.{fold-append}
use Rattle.std.proofs.lemmas.List.Concat.{flat_map-append}
use Rattle.std.proofs.lemmas.List.{take-map}
use Rattle.std.proofs.Math.Seq.{take-append_seam}
use Rattle.std.specs.List.{fold, flat_map, range_with_len}
use Rattle.cl_link.specs.LinkState.{LinkState, due_of, after_sent}
use Rattle.cl_link.proofs.LinkStates.{accepted-after_sent}
use Rattle.cl_steps.specs.declared.packets.TheConstants.{PACKETS_MAX}
use Rattle.cl_wire.specs.Message.{Content, Message}
use Rattle.cl_endpoint.specs.Endpoint.{EndpointState, link_to, with_link, set_number}
use Rattle.cl_endpoint.specs.Emission.{due_in, message_to, due_to, all_due, or_bare, packet_to, after_packet, owed_packets, to_emit, emitted, after_emit}
use Rattle.cl_endpoint.proofs.Links.{link_to-with_link, link_to-with_other, links-with_link}
use Rattle.cl_endpoint.proofs.DueMessages.{due_in-none, due_in-some}

-- messages with these numbers and contents to an actor, with this acknowledgement
abbrev due_by : EndpointState → ℕ → ℕ → List (ℕ × Content) → List Message
due_by state peer ack messages = map (λ numbered. record {
  from = state.me;
  to = peer;
  set = set_number state;
  seq = numbered.0;
  ack = ack;
  content = numbered.1;
}) messages

pub links-after_packet : (state : EndpointState) (m : Message) → length (after_packet state m).links ≡ length state.links
unfolding after_packet
links-after_packet state m = links-with_link state m.to _

-- a packet to one actor leaves what is due to another
pub due_to-other : (state : EndpointState) (m : Message) (other : ℕ) → other ≢ m.to → due_to (after_packet state m) other ≡ due_to state other
unfolding after_packet due_to
due_to-other state m other apart =
    let same : link_to (after_packet state m) other ≡ link_to state other = link_to-with_other state m.to other _ apart in
    ap (λ link. due_by state other link.accepted (due_in link)) same

-- where nothing is due to an actor, the packet to it is bare, and leaves all as it is
pub due_to-none : (state : EndpointState) (peer : ℕ) → due_of (link_to state peer) ≡ None → due_to state peer ≡ []
unfolding due_to
due_to-none state peer none = ap (map (message_to state peer)) (due_in-none (link_to state peer) none)

-- the least due message is emitted: those that are left are due after it
pub due_to-some : (state : EndpointState) (peer : ℕ) (numbered : ℕ × Content) → peer < length state.links → due_of (link_to state peer) ≡ Some numbered →
    due_to state peer ≡ packet_to state peer ∷ due_to (after_packet state (packet_to state peer)) peer
unfolding due_to packet_to after_packet
due_to-some state peer numbered within due =
    let link : LinkState Content = link_to state peer in
    let sent : LinkState Content = after_sent link numbered.0 in
    let now : link_to (with_link state peer sent) peer ≡ sent = link_to-with_link state peer sent within in
    let ack : sent.accepted ≡ link.accepted = accepted-after_sent link numbered.0 in
    let rest : due_to (with_link state peer sent) peer ≡ map (message_to state peer) (due_in sent) =
    ap (λ after. due_by state peer after.accepted (due_in after)) now ∙ ap (λ a. due_by state peer a (due_in sent)) ack in
    rw (due, due_in-some link numbered due, rest)

-- the same by whether a message is due
pub due_to-no : (state : EndpointState) (peer : ℕ) → is_some (due_of (link_to state peer)) ≡ false → due_to state peer ≡ []
due_to-no state peer nothing =
    elim (due_of (link_to state peer)) as (λ o. due_of (link_to state peer) ≡ o → is_some o ≡ false → due_to state peer ≡ [])
    [ None ↦ λ e h. due_to-none state peer e | Some m ↦ λ e h. cc ] refl nothing

pub due_to-yes : (state : EndpointState) (peer : ℕ) → peer < length state.links → is_some (due_of (link_to state peer)) ≡ true →
    due_to state peer ≡ packet_to state peer ∷ due_to (after_packet state (packet_to state peer)) peer
due_to-yes state peer within some =
    elim (due_of (link_to state peer)) as (λ o. due_of (link_to state peer) ≡ o → is_some o ≡ true → due_to state peer ≡ packet_to state peer ∷ due_to (after_packet state (packet_to state peer)) peer)
    [ None ↦ λ e h. cc | Some m ↦ λ e h. due_to-some state peer m within e ] refl some

-- the packet to an actor, field by field
pub packet_to-made : (state : EndpointState) (peer me set seq ack : ℕ) (content : Content) (link sent : LinkState Content) →
    me ≡ state.me → set ≡ set_number state → (seq, content) ≡ or_bare (due_of (link_to state peer)) →
    link ≡ link_to state peer → sent ≡ after_sent link seq → ack ≡ sent.accepted →
    record { from = me; to = peer; set = set; seq = seq; ack = ack; content = content } ≡ packet_to state peer
unfolding packet_to
packet_to-made state peer me set seq ack content link sent me_is set_is due_is link_is sent_is ack_is =
    let accepted : ack ≡ (link_to state peer).accepted = ack_is ∙ ap (λ l. l.accepted) sent_is ∙ accepted-after_sent link seq ∙ ap (λ l. l.accepted) link_is in
    let from_due : message_to state peer (seq, content) ≡ message_to state peer (or_bare (due_of (link_to state peer))) = ap (message_to state peer) due_is in
    rw (me_is, set_is, accepted) from_due

-- what has been emitted to an actor, from one state of the endpoint to another: the first k due messages
pub record HasEmitted (start now : EndpointState) (peer k : ℕ) (before after : List Message) : Type 0 where
  pub done : List Message
  pub packets : after ≡ before ++ done
  pub state : now ≡ fold after_packet start done
  pub rest : done ++ due_to now peer ≡ due_to start peer
  pub count : length done ≡ k

pub HasEmitted-none : (state : EndpointState) (peer : ℕ) (packets : List Message) → HasEmitted state state peer 0 packets packets
HasEmitted-none state peer packets = record { done = []; packets = sym (append-nil packets); state = refl; rest = refl; count = refl }

-- one packet more
pub HasEmitted-one : (start now new : EndpointState) (peer k : ℕ) (before after : List Message) (packet : Message) → HasEmitted start now peer k before after →
    peer < length now.links → is_some (due_of (link_to now peer)) ≡ true → packet ≡ packet_to now peer → new ≡ after_packet now (packet_to now peer) →
    HasEmitted start new peer (k + 1) before (after ++ packet ∷ [])
HasEmitted-one start now new peer k before after packet emitted in_links due is step =
    let due_now : due_to now peer ≡ packet_to now peer ∷ due_to (after_packet now (packet_to now peer)) peer = due_to-yes now peer in_links due in
    record {
      done = emitted.done ++ packet ∷ [];
      packets = rw (emitted.packets) (append_assoc before emitted.done (packet ∷ []));
      state = rw (fold-append, ← emitted.state, is) step;
      rest = rw (append_assoc, step, is, ← due_now) emitted.rest;
      count = rw (length-append, emitted.count) refl;
    }

-- no more is due
pub HasEmitted-all : (start now : EndpointState) (peer k room : ℕ) (before after : List Message) → HasEmitted start now peer k before after → is_some (due_of (link_to now peer)) ≡ false → k ≤ room →
    (after ≡ before ++ take room (due_to start peer)) × (now ≡ fold after_packet start (take room (due_to start peer)))
HasEmitted-all start now peer k room before after emitted none within =
    let no_rest : due_to now peer ≡ [] = due_to-no now peer none in
    let all : emitted.done ≡ due_to start peer = sym (append-nil emitted.done) ∙ ap (λ rest. emitted.done ++ rest) (sym no_rest) ∙ emitted.rest in
    let whole : take room (due_to start peer) ≡ emitted.done = rw (← all) (take_all room emitted.done (omega (arith, emitted.count))) in
    rw whole ((emitted.packets, emitted.state))

-- no more fits
pub HasEmitted-full : (start now : EndpointState) (peer k : ℕ) (before after : List Message) → HasEmitted start now peer k before after →
    (after ≡ before ++ take k (due_to start peer)) × (now ≡ fold after_packet start (take k (due_to start peer)))
HasEmitted-full start now peer k before after emitted =
    let whole : take k (due_to start peer) ≡ emitted.done = rw (← emitted.rest, ← emitted.count) (take-append_seam emitted.done (due_to now peer)) in
    rw whole ((emitted.packets, emitted.state))

-- packets to one actor leave what is due to another
due_to-after_packets : (messages : List (ℕ × Content)) (state from : EndpointState) (peer other : ℕ) → other ≢ peer →
    due_to (fold after_packet state (map (message_to from peer) messages)) other ≡ due_to state other
due_to-after_packets [] state from peer other apart = refl
due_to-after_packets (m ∷ messages) state from peer other apart =
    due_to-after_packets messages (after_packet state (message_to from peer m)) from peer other apart ∙ due_to-other state (message_to from peer m) other apart

pub due_to-after_first : (k : ℕ) (state : EndpointState) (peer other : ℕ) → other ≢ peer → due_to (fold after_packet state (take k (due_to state peer))) other ≡ due_to state other
unfolding due_to
due_to-after_first k state peer other apart =
    rw (take-map (message_to state peer) k (due_in (link_to state peer))) (due_to-after_packets (take k (due_in (link_to state peer))) state state peer other apart)

pub due_to-after_all : (state : EndpointState) (peer other : ℕ) → other ≢ peer → due_to (fold after_packet state (due_to state peer)) other ≡ due_to state other
unfolding due_to
due_to-after_all state peer other apart = due_to-after_packets (due_in (link_to state peer)) state state peer other apart

pub links-after_packets : (messages : List Message) (state : EndpointState) → length (fold after_packet state messages).links ≡ length state.links
links-after_packets [] state = refl
links-after_packets (m ∷ messages) state = links-after_packets messages (after_packet state m) ∙ links-after_packet state m

range_with_len-push : (n a : ℕ) → range_with_len a (suc n) ≡ range_with_len a n ++ (a + n) ∷ []
range_with_len-push zero a = rw add-zero refl
range_with_len-push (suc n) a =
    let index : a + 1 + n ≡ a + suc n = omega arith in
    ap (λ rest. a ∷ rest) (range_with_len-push n (a + 1) ∙ ap (λ last. range_with_len (a + 1) n ++ last ∷ []) index)

take-nil : {X : Type 0} (n : ℕ) → take {A = X} n [] ≡ []
take-nil {X} n = take_all n [] (omega arith)

-- the first of one list, and then as many of another as there is room left
take-append_room : {X : Type 0} (room : ℕ) (xs ys : List X) → take room (xs ++ ys) ≡ take room xs ++ take (room - length (take room xs)) ys
take-append_room zero xs ys = refl
take-append_room (suc room) [] ys =
    let whole : suc room - 0 ≡ suc room = omega arith in
    rw whole refl
take-append_room (suc room) (x ∷ xs) ys =
    let left : suc room - suc (length (take room xs)) ≡ room - length (take room xs) = omega arith in
    rw left (ap (λ rest. x ∷ rest) (take-append_room room xs ys))

-- what is due to the actors below a number
unfoldable pub due_below : EndpointState → ℕ → List Message
due_below state p = flat_map (due_to state) (range_with_len 0 p)

due_below-push : (state : EndpointState) (p : ℕ) → due_below state (p + 1) ≡ due_below state p ++ due_to state p
unfolding due_below
due_below-push state p =
    rw add-one
    (ap (flat_map (due_to state)) (range_with_len-push p 0 ∙ ap (λ last. range_with_len 0 p ++ last ∷ []) (zero-add p))
    ∙ flat_map-append (due_to state) (range_with_len 0 p) (p ∷ []) ∙ ap (λ last. due_below state p ++ last) (append-nil (due_to state p)))

-- what has been emitted to the actors below a number, as much as there is room for
pub record HasEmittedBelow (start now : EndpointState) (p room : ℕ) (before after : List Message) : Type 0 where
  pub packets : after ≡ before ++ take room (due_below start p)
  pub state : now ≡ fold after_packet start (take room (due_below start p))
  pub others : (other : ℕ) → p ≤ other → due_to now other ≡ due_to start other

pub HasEmittedBelow-none : (state : EndpointState) (room : ℕ) (packets : List Message) → HasEmittedBelow state state 0 room packets packets
unfolding due_below
HasEmittedBelow-none state room packets =
    let nothing : take room (due_below state 0) ≡ [] = take-nil room in
    record { packets = rw nothing (sym (append-nil packets)); state = rw nothing refl; others = λ other h. refl }

-- one actor more
pub HasEmittedBelow-one : (start now new : EndpointState) (p limit room left : ℕ) (before after more : List Message) → HasEmittedBelow start now p room before after → room ≡ limit - length before → left ≡ limit - length after →
    more ≡ after ++ take left (due_to now p) → new ≡ fold after_packet now (take left (due_to now p)) → HasEmittedBelow start new (p + 1) room before more
HasEmittedBelow-one start now new p limit room left before after more emitted room_is left_is packets state =
    let here : due_to now p ≡ due_to start p = emitted.others p (omega arith) in
    let first : List Message = take room (due_below start p) in
    let fits : left ≡ room - length first = omega (arith, ap length emitted.packets, length-append before first, length-take room (due_below start p)) in
    let whole : take room (due_below start (p + 1)) ≡ first ++ take left (due_to start p) = rw (due_below-push, fits) (take-append_room room (due_below start p) (due_to start p)) in
    record {
      packets = rw (whole, packets, here, emitted.packets) (append_assoc before first (take left (due_to start p)));
      state = rw (whole, fold-append, ← emitted.state, ← here) state;
      others = λ other above. rw state (due_to-after_first left now p other (omega arith)) ∙ emitted.others other (omega arith);
    }

-- all of them: with a link to each actor
pub HasEmittedBelow-all : (start now : EndpointState) (p room : ℕ) (before after : List Message) → p ≡ length start.links → HasEmittedBelow start now p room before after →
    (after ≡ before ++ take room (all_due start)) × (now ≡ fold after_packet start (take room (all_due start)))
unfolding all_due due_below
HasEmittedBelow-all start now p room before after all emitted = rw (← all) ((emitted.packets, emitted.state))

-- the whole emission: from no packet on, the packet that is owed, and then as many due messages as fit
pub emission_whole : (state mid now : EndpointState) (owed : Option ℕ) (count : ℕ) (before after : List Message) →
    before ≡ owed_packets state owed → count ≡ length before → mid ≡ fold after_packet state (owed_packets state owed) →
    after ≡ before ++ take (PACKETS_MAX - count) (all_due mid) → now ≡ fold after_packet mid (take (PACKETS_MAX - count) (all_due mid)) →
    (after ≡ emitted state owed) × (now ≡ after_emit state owed)
unfolding emitted to_emit after_emit
emission_whole state mid now None count before after before_is count_is mid_is packets state_is =
    let none : count ≡ 0 = count_is ∙ ap length before_is in
    ((rw (before_is, none, mid_is) at packets), (rw (none, mid_is) at state_is))
emission_whole state mid now (Some peer) count before after before_is count_is mid_is packets state_is =
    let one : count ≡ 1 = count_is ∙ ap length before_is in
    ((rw (before_is, one, mid_is) at packets), (rw (one, mid_is) at state_is))
