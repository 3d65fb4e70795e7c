-- Emission packet by packet.
use Rattle.std.proofs.Common.{◌≡◌, ◌≢◌, ℕ, zero, suc, ◌+◌, ◌<◌, ◌≤◌, true, false, nat_lt, ◌&&◌, cond, eqb, List, [], ◌∷◌, ◌++◌, length, map, take, Option, Some, None, refl, ap, sym, ◌∙◌, arith, rules, inl, inr}
use Rattle.std.proofs.lemmas.Bool.{eq-eqb, ne_eqb}
use Rattle.std.proofs.lemmas.Bool.Decides.{eqb_tells}
use Rattle.std.proofs.lemmas.List.{length-take}
use Rattle.std.specs.List.{fold, flat_map, range_with_len}
use Rattle.cl_link.specs.LinkState.{LinkState, due_of, after_sent}
use Rattle.cl_link.proofs.LinkStates.{due_of-kept}
use Rattle.cl_steps.specs.declared.packets.TheConstants.{PACKETS_MAX}
use Rattle.cl_wire.specs.Message.{Content, Message}
use Rattle.cl_endpoint.specs.Endpoint.{EndpointState, link_to, with_link}
use Rattle.cl_endpoint.specs.Emission.{due_to, all_due, or_bare, packet_to, after_packet, to_emit, emitted, after_emit}
use Rattle.cl_endpoint.specs.Laws.{IsInTurn, IsOwedToActor, EmissionIsInTurn, EmittedAreFew, DueIsEmittedOrStays, EmissionMarksSent, messages_to}
use Rattle.cl_endpoint.proofs.Links.{link_to-with_link, link_to-with_other, with_link-link_to}
use Rattle.cl_endpoint.proofs.Emissions.{links-after_packet, links-after_packets, due_to-after_all, due_to-other, due_to-none, due_to-some}

-- the packet to an actor goes to that actor
packet_to-to : (state : EndpointState) (peer : ℕ) → (packet_to state peer).to ≡ peer
unfolding packet_to
packet_to-to state peer = refl

-- the first packets go in turn where all do
IsInTurn-take : (n : ℕ) (state : EndpointState) (ms : List Message) → IsInTurn state ms → IsInTurn state (take n ms)
IsInTurn-take zero state ms turn = tt
IsInTurn-take (suc n) state [] turn = tt
IsInTurn-take (suc n) state (m ∷ ms) turn = (turn.0, turn.1, IsInTurn-take n (after_packet state m) ms turn.2)

-- the due messages to an actor go in turn, before others that do after them
IsInTurn-due : (ms rest : List Message) (state : EndpointState) (peer : ℕ) → peer < length state.links → due_to state peer ≡ ms →
    IsInTurn (fold after_packet state ms) rest → IsInTurn state (ms ++ rest)
IsInTurn-due [] rest state peer within due later = later
IsInTurn-due (m ∷ ms) rest state peer within due later =
    elim (due_of (link_to state peer)) as (λ o. due_of (link_to state peer) ≡ o → IsInTurn state (m ∷ ms ++ rest)) [
      | None ↦ λ e. (let none : due_to state peer ≡ [] = due_to-none state peer e in cc)
      | Some numbered ↦ λ e.
          (let next : due_to state peer ≡ packet_to state peer ∷ due_to (after_packet state (packet_to state peer)) peer = due_to-some state peer numbered within e in
          let first : m ≡ packet_to state peer = cc in
          let others : due_to (after_packet state (packet_to state peer)) peer ≡ ms = cc in
          let to_is : m.to ≡ peer = ap (λ (x : Message). x.to) first ∙ packet_to-to state peer in
          let links : peer < length (after_packet state m).links = rw links-after_packet within in (
            rw to_is within,
            first ∙ ap (packet_to state) (sym to_is),
            IsInTurn-due ms rest (after_packet state m) peer links (ap (λ x. due_to (after_packet state x) peer) first ∙ others) later,
          ))
    ] refl

-- the due messages to one actor after another go in turn
IsInTurn-range : (n a : ℕ) (state start : EndpointState) → a + n ≤ length state.links → ((other : ℕ) → a ≤ other → due_to state other ≡ due_to start other) →
    IsInTurn state (flat_map (due_to start) (range_with_len a n))
IsInTurn-range zero a state start within same = tt
IsInTurn-range (suc n) a state start within same =
    let next : EndpointState = fold after_packet state (due_to state a) in
    let later : IsInTurn next (flat_map (due_to start) (range_with_len (a + 1) n)) =
    IsInTurn-range n (a + 1) next start (rw links-after_packets (omega arith))
    (λ other above. due_to-after_all state a other (omega arith) ∙ same other (omega arith)) in
    rw (← same a (omega arith)) (IsInTurn-due (due_to state a) _ state a (omega arith) refl later)

IsInTurn-all_due : (state : EndpointState) → IsInTurn state (all_due state)
unfolding all_due
IsInTurn-all_due state = IsInTurn-range (length state.links) 0 state state (omega arith) (λ other above. refl)

IsInTurn-to_emit : (state : EndpointState) (owed : Option ℕ) → IsOwedToActor state owed → IsInTurn state (to_emit state owed)
unfolding to_emit
IsInTurn-to_emit state None owed = IsInTurn-all_due state
IsInTurn-to_emit state (Some peer) owed = (rw packet_to-to owed, ap (packet_to state) (sym (packet_to-to state peer)), IsInTurn-all_due (after_packet state (packet_to state peer)))

pub emission_is_in_turn : EmissionIsInTurn
unfolding emitted
emission_is_in_turn state owed known = IsInTurn-take PACKETS_MAX state (to_emit state owed) (IsInTurn-to_emit state owed known)

pub emitted_are_few : EmittedAreFew
unfolding emitted
emitted_are_few state owed = rw length-take (omega arith)

-- a bare packet changes nothing
after_sent-bare : (link : LinkState Content) → after_sent link 0 ≡ link
unfolding after_sent
after_sent-bare link = let no_number : nat_lt link.released 0 ≡ false = search rules in rw no_number refl

after_packet-bare : (state : EndpointState) (peer : ℕ) → due_of (link_to state peer) ≡ None → after_packet state (packet_to state peer) ≡ state
unfolding after_packet packet_to
after_packet-bare state peer none =
    rw none (ap (with_link state peer) (after_sent-bare (link_to state peer)) ∙ with_link-link_to state peer)

packet_to-bare : (state : EndpointState) (peer : ℕ) → due_of (link_to state peer) ≡ None → (packet_to state peer).seq ≡ 0
unfolding packet_to
packet_to-bare state peer none = ap (λ o. (or_bare o).0) none

packet_to-numbered : (state : EndpointState) (peer : ℕ) (numbered : ℕ × Content) → due_of (link_to state peer) ≡ Some numbered → (packet_to state peer).seq ≢ 0
unfolding packet_to
packet_to-numbered state peer numbered due bare =
    let number : (or_bare (due_of (link_to state peer))).0 ≡ numbered.0 = ap (λ o. (or_bare o).0) due in
    omega (arith, number, (due_of-kept (link_to state peer) numbered due).0, bare)

messages_to-other : (m : Message) (ms : List Message) (peer : ℕ) → m.to ≢ peer → messages_to peer (m ∷ ms) ≡ messages_to peer ms
messages_to-other m ms peer apart = let away : eqb m.to peer ≡ false = ne_eqb _ _ apart in rw away refl

messages_to-bare : (m : Message) (ms : List Message) (peer : ℕ) → m.seq ≡ 0 → messages_to peer (m ∷ ms) ≡ messages_to peer ms
messages_to-bare m ms peer bare =
    let none : eqb m.seq 0 ≡ true = eq-eqb _ _ bare in
    rw none (elim (eqb m.to peer) as (λ b. cond (b && false) (m ∷ messages_to peer ms) (messages_to peer ms) ≡ messages_to peer ms) [ true ↦ refl | false ↦ refl ])

messages_to-numbered : (m : Message) (ms : List Message) (peer : ℕ) → m.to ≡ peer → m.seq ≢ 0 → messages_to peer (m ∷ ms) ≡ m ∷ messages_to peer ms
messages_to-numbered m ms peer here numbered =
    let there : eqb m.to peer ≡ true = eq-eqb _ _ here in
    let some : eqb m.seq 0 ≡ false = ne_eqb _ _ numbered in
    rw (there, some) refl

-- what was due to an actor is what packets that go in turn carry to it, and then what stays due: at the first packet
due_first : (m : Message) (ms : List Message) (state : EndpointState) (peer : ℕ) (stays : List Message) → peer < length state.links → m ≡ packet_to state m.to →
    due_to (after_packet state m) peer ≡ messages_to peer ms ++ stays → due_to state peer ≡ messages_to peer (m ∷ ms) ++ stays
due_first m ms state peer stays within is later =
    elim (eqb_tells m.to peer) [
      | inr apart ↦ rw (messages_to-other m ms peer apart.1) (sym (due_to-other state m peer (λ e. apart.1 (sym e))) ∙ later)
      | inl here ↦ (
          let packet : m ≡ packet_to state peer = is ∙ ap (packet_to state) here.1 in
          let next : due_to (after_packet state (packet_to state peer)) peer ≡ messages_to peer ms ++ stays = ap (λ x. due_to (after_packet state x) peer) (sym packet) ∙ later in
          elim (due_of (link_to state peer)) as (λ o. due_of (link_to state peer) ≡ o → due_to state peer ≡ messages_to peer (m ∷ ms) ++ stays) [
            | None ↦ λ e. rw (messages_to-bare m ms peer (ap (λ (x : Message). x.seq) packet ∙ packet_to-bare state peer e))
                (ap (λ now. due_to now peer) (sym (after_packet-bare state peer e)) ∙ next)
            | Some numbered ↦ λ e. rw (messages_to-numbered m ms peer here.1 (λ bare. packet_to-numbered state peer numbered e (ap (λ (x : Message). x.seq) (sym packet) ∙ bare)), packet)
                (due_to-some state peer numbered within e ∙ ap (λ rest. packet_to state peer ∷ rest) next)
          ] refl)
    ]

due_in_turn : (ms : List Message) (state : EndpointState) (peer : ℕ) → peer < length state.links → IsInTurn state ms →
    due_to state peer ≡ messages_to peer ms ++ due_to (fold after_packet state ms) peer
due_in_turn [] state peer within turn = refl
due_in_turn (m ∷ ms) state peer within turn =
    let next : EndpointState = after_packet state m in
    let links : peer < length next.links = rw links-after_packet within in
    due_first m ms state peer (due_to (fold after_packet next ms) peer) within turn.1 (due_in_turn ms next peer links turn.2)

pub due_is_emitted_or_stays : DueIsEmittedOrStays
unfolding after_emit
due_is_emitted_or_stays state owed peer known within = due_in_turn (emitted state owed) state peer within (emission_is_in_turn state owed known)

-- a packet marks its message as sent on the link to its receiver alone
marks_first : (m : Message) (ms : List Message) (state : EndpointState) (peer : ℕ) → peer < length state.links →
    fold after_sent (link_to (after_packet state m) peer) (map (λ x. x.seq) (messages_to peer ms)) ≡ fold after_sent (link_to state peer) (map (λ x. x.seq) (messages_to peer (m ∷ ms)))
unfolding after_packet
marks_first m ms state peer within =
    let rest : LinkState Content → LinkState Content = λ (link : LinkState Content). fold after_sent link (map (λ (x : Message). x.seq) (messages_to peer ms)) in
    elim (eqb_tells m.to peer) [
      | inr apart ↦ rw (messages_to-other m ms peer apart.1) (ap rest (link_to-with_other state m.to peer _ (λ e. apart.1 (sym e))))
      | inl here ↦ (
          let link : link_to (after_packet state m) peer ≡ after_sent (link_to state peer) m.seq = rw here.1 (link_to-with_link state peer _ within) in
          elim (eqb_tells m.seq 0) [
            | inl bare ↦ rw (messages_to-bare m ms peer bare.1) (ap rest (link ∙ ap (after_sent (link_to state peer)) bare.1 ∙ after_sent-bare (link_to state peer)))
            | inr numbered ↦ rw (messages_to-numbered m ms peer here.1 numbered.1) (ap rest link)
          ])
    ]

marks_sent : (ms : List Message) (state : EndpointState) (peer : ℕ) → peer < length state.links →
    link_to (fold after_packet state ms) peer ≡ fold after_sent (link_to state peer) (map (λ x. x.seq) (messages_to peer ms))
marks_sent [] state peer within = refl
marks_sent (m ∷ ms) state peer within =
    marks_sent ms (after_packet state m) peer (rw links-after_packet within) ∙ marks_first m ms state peer within

pub emission_marks_sent : EmissionMarksSent
unfolding after_emit
emission_marks_sent state owed peer within = marks_sent (emitted state owed) state peer within
