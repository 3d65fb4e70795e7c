-- Each list of events keeps each link in order.
use Rattle.std.proofs.Common.{◌≡◌, ℕ, ◌≤◌, Bool, true, false, cond, eqb, List, [], ◌∷◌, ◌++◌, length, take, drop, Option, Some, None, refl, ap, sym, ◌∙◌, arith}
use Rattle.std.specs.List.{slice_get, All, fold}
use Rattle.std.proofs.lemmas.List.{take-append-drop, take-append-le, length-take-le}
use Rattle.std.proofs.lemmas.List.Elements.{All-weaker}
use Rattle.std.proofs.lemmas.List.Sums.{fold-append}
use Rattle.cl_link.specs.declared.link.TheConstants.{NUMBER_MAX}
use Rattle.cl_link.specs.declared.link.Taken.{Taken}
use Rattle.cl_link.specs.declared.link.Taken.TheVariants.{Now, Old, Gap}
use Rattle.cl_link.specs.LinkState.{LinkState, last_number, taken_of, count_after, after_send}
use Rattle.cl_link.specs.LinkPair.{LinkPacket, IsGiven, LinkOrder, LinkAcks, LinkPair, after_packet}
use Rattle.cl_link.specs.Network.{LinkEnd, Network, LinkAct, Give, Mark, Tick, Emit, Comes, Lose, Drop, packet_of, took_after, took_with, after_coming, after_act, LinkEvent, after_event, quiet_network, after_events, InOrderAndOnce}
use Rattle.cl_link.proofs.Indices.{All-slice_get, All-remove}
use Rattle.cl_link.proofs.LinkStates.{accepted-after_send, accepted-after_sent, accepted-after_again, accepted-after_heard, accepted-after_accept, accepted-after_drop_all, released-after_send, released-after_sent, released-after_again}
use Rattle.cl_link.proofs.LinkOrders.{order-start, order-due, order_send, order_sent, order_again, order_drop_all, order_same_receiver, order_packet, order_packet_back, order_emitted, took_next, accepted-after_packet}
use Rattle.cl_link.proofs.LinkPairs.{pair-start, acks_same_sender, acks_packet_back, acks_more, acks_emitted}

-- between the end of a sender and that of a receiver
pub record EndsHold {B : Type 0} (sender receiver : LinkEnd B) : Type 0 where
  pub order : LinkOrder sender.given sender.link receiver.link sender.out
  pub acks : sender.dropped ≡ false → LinkAcks sender.link receiver.link receiver.out
  pub took : receiver.took ≡ take receiver.link.accepted sender.given

accepted-after_coming : {B : Type 0} (end : LinkEnd B) (packet : Option (LinkPacket B)) → end.link.accepted ≤ (after_coming end packet).link.accepted
accepted-after_coming end None = omega arith
accepted-after_coming end (Some p) = accepted-after_packet end.link p.message p.ack

-- no act takes back what was accepted
pub accepted-after_act : {B : Type 0} (act : LinkAct B) (end peer : LinkEnd B) → end.link.accepted ≤ (after_act act end peer).link.accepted
unfolding after_act
accepted-after_act (Give body) end peer =
    elim (eqb (last_number end.link) NUMBER_MAX) as (λ spent. end.link.accepted ≤ (cond spent end (record end { link = after_send end.link body; given = end.given ++ body ∷ [] })).link.accepted)
    [ true ↦ omega arith | false ↦ omega (arith, accepted-after_send end.link body) ]
accepted-after_act (Mark number) end peer = omega (arith, accepted-after_sent end.link number)
accepted-after_act Tick end peer = omega (arith, accepted-after_again end.link)
accepted-after_act Emit end peer = omega arith
accepted-after_act (Comes index) end peer = accepted-after_coming end (slice_get peer.out index)
accepted-after_act (Lose index) end peer = omega arith
accepted-after_act Drop end peer = omega (arith, accepted-after_drop_all end.link)

-- what was accepted is still the beginning of what was given once a message has come
took_accept : {B : Type 0} {given : List B} {sender receiver : LinkState B} {there : List (LinkPacket B)} → LinkOrder given sender receiver there → (m : ℕ × B) → IsGiven given (Some m) → (taken : Taken) → taken_of receiver m.0 ≡ taken → (took : List B) → took ≡ take receiver.accepted given → took_after taken took m.1 ≡ take (count_after taken receiver.accepted) given
took_accept order m is Now now took was = ap (λ (xs : List _). xs ++ m.1 ∷ []) was ∙ took_next order m is now
took_accept order m is Old old took was = was
took_accept order m is Gap gap took was = was

-- between two ends at which nothing has happened
ends-start : {B : Type 0} (a b c d : ℕ) → EndsHold {B = B} (quiet_network a b) (quiet_network c d)
ends-start a b c d = record { order = order-start; acks = λ _. pair-start.acks; took = refl }

module _ {B : Type 0} {sender receiver : LinkEnd B} (ends : EndsHold sender receiver) where
  -- the receiver acts

  receiver_same : (link : LinkState B) (given : List B) (dropped : Bool) → link.accepted ≡ receiver.link.accepted → EndsHold sender (record receiver { link = link; given = given; dropped = dropped })
  receiver_same link given dropped same = record {
    order = order_same_receiver ends.order link same;
    acks = λ alive. acks_more (ends.acks alive) link (omega (arith, same));
    took = ends.took ∙ ap (λ n. take n sender.given) (sym same);
  }

  receiver_took : (message : Option (ℕ × B)) (ack : ℕ) → IsGiven sender.given message → took_with receiver message ≡ take (after_packet receiver.link message ack).accepted sender.given
  receiver_took None ack is = ends.took ∙ ap (λ n. take n sender.given) (sym (accepted-after_heard receiver.link ack))
  receiver_took (Some m) ack is =
      took_accept ends.order m is (taken_of receiver.link m.0) refl receiver.took ends.took
      ∙ ap (λ n. take n sender.given) (sym (accepted-after_accept receiver.link m.0 ack))

  receiver_comes : (packet : Option (LinkPacket B)) → ((p : LinkPacket B) → packet ≡ Some p → IsGiven sender.given p.message) → EndsHold sender (after_coming receiver packet)
  receiver_comes None is = ends
  receiver_comes (Some p) is = record {
    order = order_packet ends.order p.message p.ack (is p refl);
    acks = λ alive. acks_more (ends.acks alive) _ (accepted-after_packet receiver.link p.message p.ack);
    took = receiver_took p.message p.ack (is p refl);
  }

  receiver_acts : (act : LinkAct B) → EndsHold sender (after_act act receiver sender)
  unfolding after_act
  receiver_acts (Give body) =
      elim (eqb (last_number receiver.link) NUMBER_MAX) as (λ spent. EndsHold sender (cond spent receiver (record receiver { link = after_send receiver.link body; given = receiver.given ++ body ∷ [] })))
      [ true ↦ ends | false ↦ receiver_same _ _ _ (accepted-after_send receiver.link body) ]
  receiver_acts (Mark number) = receiver_same _ _ _ (accepted-after_sent receiver.link number)
  receiver_acts Tick = receiver_same _ _ _ (accepted-after_again receiver.link)
  receiver_acts Emit = record {
    order = ends.order;
    acks = λ alive. acks_emitted (ends.acks alive) (packet_of receiver.link) (omega arith);
    took = ends.took;
  }
  receiver_acts (Comes index) =
      receiver_comes (slice_get sender.out index)
      (λ p at. All-slice_get (λ q. IsGiven sender.given q.message) sender.out index p ends.order.carried at)
  receiver_acts (Lose index) = record {
    order = ends.order;
    acks = λ alive. record {
      released = (ends.acks alive).released;
      carried = All-remove (λ q. q.ack ≤ receiver.link.accepted) receiver.out index (ends.acks alive).carried;
    };
    took = ends.took;
  }
  receiver_acts Drop = receiver_same _ _ _ (accepted-after_drop_all receiver.link)

  -- the sender acts

  sender_same : (link : LinkState B) (took : List B) → LinkOrder sender.given link receiver.link sender.out → (sender.dropped ≡ false → LinkAcks link receiver.link receiver.out) → EndsHold (record sender { link = link; took = took }) receiver
  sender_same link took order acks = record { order = order; acks = acks; took = ends.took }

  sender_comes : (packet : Option (LinkPacket B)) → ((p : LinkPacket B) → packet ≡ Some p → sender.dropped ≡ false → p.ack ≤ receiver.link.accepted) → EndsHold (after_coming sender packet) receiver
  sender_comes None within = ends
  sender_comes (Some p) within =
      sender_same _ _ (order_packet_back ends.order p.message p.ack)
      (λ alive. acks_packet_back (ends.acks alive) p.message p.ack (within p refl alive))

  -- a packet of the peer comes, whose end was then this one: it may have accepted more by now
  sender_acts : (act : LinkAct B) (peer : LinkEnd B) → (sender.dropped ≡ false → All (λ q. q.ack ≤ receiver.link.accepted) peer.out) → EndsHold (after_act act sender peer) receiver
  unfolding after_act
  sender_acts (Give body) peer acked =
      elim (eqb (last_number sender.link) NUMBER_MAX) as (λ spent. EndsHold (cond spent sender (record sender { link = after_send sender.link body; given = sender.given ++ body ∷ [] })) receiver) [
        | true ↦ ends
        | false ↦ record {
          order = order_send ends.order body;
          acks = λ alive. acks_same_sender (ends.acks alive) _ (released-after_send sender.link body);
          took = ends.took ∙ sym (take-append-le receiver.link.accepted sender.given (body ∷ []) ends.order.accepted);
        }
      ]
  sender_acts (Mark number) peer acked =
      sender_same _ _ (order_sent ends.order number) (λ alive. acks_same_sender (ends.acks alive) _ (released-after_sent sender.link number))
  sender_acts Tick peer acked =
      sender_same _ _ (order_again ends.order) (λ alive. acks_same_sender (ends.acks alive) _ (released-after_again sender.link))
  sender_acts Emit peer acked = record {
    order = order_emitted ends.order (packet_of sender.link) (order-due ends.order);
    acks = ends.acks;
    took = ends.took;
  }
  sender_acts (Comes index) peer acked =
      sender_comes (slice_get peer.out index)
      (λ p at alive. All-slice_get (λ q. q.ack ≤ receiver.link.accepted) peer.out index p (acked alive) at)
  sender_acts (Lose index) peer acked = record {
    order = record {
      numbered = ends.order.numbered;
      kept = ends.order.kept;
      accepted = ends.order.accepted;
      carried = All-remove (λ q. IsGiven sender.given q.message) sender.out index ends.order.carried;
    };
    acks = ends.acks;
    took = ends.took;
  }
  sender_acts Drop peer acked = record {
    order = order_drop_all ends.order;
    acks = λ alive. absurd cc;
    took = ends.took;
  }

-- both ends, or one, or none of them acts: of a link of an actor to itself both are the same end
either_acts : {B : Type 0} {sender receiver : LinkEnd B} → EndsHold sender receiver → (act : LinkAct B) (sends receives : Bool) → EndsHold (cond sends (after_act act sender receiver) sender) (cond receives (after_act act receiver sender) receiver)
either_acts {B} {sender} {receiver} ends act true true =
    sender_acts (receiver_acts ends act) act receiver
    (λ alive. All-weaker (λ q. q.ack ≤ receiver.link.accepted) (λ q. q.ack ≤ (after_act act receiver sender).link.accepted)
    (λ p within. omega (arith, accepted-after_act act receiver sender)) receiver.out (ends.acks alive).carried)
either_acts ends act true false = sender_acts ends act _ (λ alive. (ends.acks alive).carried)
either_acts ends act false true = receiver_acts ends act
either_acts ends act false false = ends

-- every pair of ends of a network
pub NetworkHolds : {B : Type 0} → Network B → Type 0
NetworkHolds network = (actor peer : ℕ) → EndsHold (network peer actor) (network actor peer)

network-start : (B : Type 0) → NetworkHolds {B = B} quiet_network
unfolding NetworkHolds
network-start B actor peer = ends-start peer actor actor peer

network-event : {B : Type 0} (network : Network B) (event : LinkEvent B) → NetworkHolds network → NetworkHolds (after_event network event)
unfolding NetworkHolds after_event
network-event network event holds actor peer = either_acts (holds actor peer) event.act _ _

network-fold : {B : Type 0} (network : Network B) (events : List (LinkEvent B)) → NetworkHolds network → NetworkHolds (fold after_event network events)
network-fold network [] holds = holds
network-fold network (event ∷ events) holds = network-fold (after_event network event) events (network-event network event holds)

pub network-holds : {B : Type 0} (events : List (LinkEvent B)) → NetworkHolds (after_events events)
unfolding after_events
network-holds {B} events = network-fold quiet_network events (network-start B)

-- one event more
pub after_events-push : {B : Type 0} (events : List (LinkEvent B)) (event : LinkEvent B) → after_events (events ++ event ∷ []) ≡ after_event (after_events events) event
unfolding after_events
after_events-push events event = fold-append after_event quiet_network events (event ∷ [])

-- each link keeps its order, also after drops
pub links_keep_order : {B : Type 0} (events : List (LinkEvent B)) (actor peer : ℕ) → LinkOrder (after_events events peer actor).given (after_events events peer actor).link (after_events events actor peer).link (after_events events peer actor).out
unfolding NetworkHolds
links_keep_order events actor peer = (network-holds events actor peer).order

-- the invariant of each link whose sender never dropped what it kept
pub links_are_pairs : {B : Type 0} (events : List (LinkEvent B)) (actor peer : ℕ) → (after_events events peer actor).dropped ≡ false → LinkPair (after_events events peer actor).given (after_events events peer actor).link (after_events events actor peer).link (after_events events peer actor).out (after_events events actor peer).out
unfolding NetworkHolds
links_are_pairs events actor peer alive =
    let ends = network-holds events actor peer in record { order = ends.order; acks = ends.acks alive }

pub in_order_and_once : {B : Type 0} (events : List (LinkEvent B)) → InOrderAndOnce (after_events events)
unfolding NetworkHolds
in_order_and_once events = record {
  in_order = λ actor peer.
      let ends = network-holds events actor peer in (
        drop (after_events events actor peer).link.accepted (after_events events peer actor).given,
        ap (λ (xs : List _). xs ++ drop (after_events events actor peer).link.accepted (after_events events peer actor).given) ends.took
            ∙ take-append-drop (after_events events actor peer).link.accepted (after_events events peer actor).given,
      );
  counted = λ actor peer.
      let ends = network-holds events actor peer in ap length ends.took ∙ length-take-le _ _ ends.order.accepted;
  acknowledged = λ actor peer alive.
      let ends = network-holds events actor peer in
      omega (arith, (ends.acks alive).released, ap length ends.took, length-take-le _ _ ends.order.accepted);
  kept = λ actor peer. (network-holds events actor peer).order.kept;
}
