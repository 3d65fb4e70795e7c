-- The invariant of a link: true at the start, and kept by each call at either end and by whatever the network does.
use Rattle.std.proofs.Common.{◌≡◌, ℕ, ◌+◌, ◌-◌, ◌≤◌, List, [], ◌∷◌, ◌++◌, length, take, drop, Option, Some, None, ap, sym, ◌∙◌, arith}
use Rattle.std.specs.List.{Contains, remove}
use Rattle.std.specs.List.Sorted.{IsPermutation}
use Rattle.std.proofs.lemmas.List.Sorted.{Contains-permutation}
use Rattle.std.proofs.lemmas.List.{drop-drop}
use Rattle.std.proofs.lemmas.List.Elements.{All-push, All-nil, All-weaker, All-contains}
use Rattle.cl_link.specs.declared.link.Taken.TheVariants.{Now}
use Rattle.cl_link.specs.LinkState.{LinkState, no_message, last_number, unacknowledged, due_of, taken_of, after_send, after_sent, after_again, after_heard, after_accept, after_drop_all}
use Rattle.cl_link.specs.LinkPair.{LinkPacket, IsGiven, LinkAcks, LinkPair, after_packet}
use Rattle.cl_link.proofs.Indices.{All-among, Contains-remove, Contains-again}
use Rattle.cl_link.proofs.LinkStates.{released-after_send, released-after_sent, released-after_again, released-after_heard, released-after_accept, accepted-after_send, accepted-after_sent, accepted-after_again, accepted-after_heard, accepted-after_accept, accepted-after_drop_all}
use Rattle.cl_link.proofs.LinkOrders.{order-start, order-due, order_send, order_sent, order_again, order_heard, order_accept_back, order_same_receiver, order_accept, order_emitted, order_among, order_packet, order_packet_back, took_next, count_after-le, accepted-after_packet}

module _ {B : Type 0} {sender receiver : LinkState B} {back : List (LinkPacket B)} (acks : LinkAcks sender receiver back) where
  -- another sender that released as many
  pub acks_same_sender : (other : LinkState B) → other.released ≡ sender.released → LinkAcks other receiver back
  acks_same_sender other same = record { released = omega (arith, same, acks.released); carried = acks.carried }

  -- an acknowledgement comes that covers what was accepted
  pub acks_heard : (ack : ℕ) → ack ≤ receiver.accepted → LinkAcks (after_heard sender ack) receiver back
  acks_heard ack within = record { released = omega (arith, released-after_heard sender ack, acks.released); carried = acks.carried }

  pub acks_accept_back : (number ack : ℕ) → ack ≤ receiver.accepted → LinkAcks (after_accept sender number ack) receiver back
  acks_accept_back number ack within = record {
    released = omega (arith, released-after_accept sender number ack, released-after_heard sender ack, acks.released);
    carried = acks.carried;
  }

  -- a packet comes back to the sender, maybe with a message of the other way
  pub acks_packet_back : (message : Option (ℕ × B)) (ack : ℕ) → ack ≤ receiver.accepted → LinkAcks (after_packet sender message ack) receiver back
  acks_packet_back None ack within = acks_heard ack within
  acks_packet_back (Some m) ack within = acks_accept_back m.0 ack within

  -- another receiver that accepted as many, or more
  pub acks_more : (other : LinkState B) → receiver.accepted ≤ other.accepted → LinkAcks sender other back
  acks_more other more = record {
    released = omega (arith, acks.released);
    carried = All-weaker (λ p. p.ack ≤ receiver.accepted) (λ p. p.ack ≤ other.accepted) (λ p within. omega arith) back acks.carried;
  }

  -- a packet goes on its way back
  pub acks_emitted : (p : LinkPacket B) → p.ack ≤ receiver.accepted → LinkAcks sender receiver (back ++ p ∷ [])
  acks_emitted p within = record {
    released = acks.released;
    carried = All-push (λ x. x.ack ≤ receiver.accepted) back p acks.carried within;
  }

  -- packets are lost, repeated or reordered
  pub acks_among : (others : List (LinkPacket B)) → ((p : LinkPacket B) → Contains others p → Contains back p) → LinkAcks sender receiver others
  acks_among others among = record {
    released = acks.released;
    carried = All-among (λ x. x.ack ≤ receiver.accepted) back others among acks.carried;
  }

-- at the start
pub pair-start : {B : Type 0} → LinkPair {B = B} [] no_message no_message [] []
pair-start = record { order = order-start; acks = record { released = omega arith; carried = All-nil _ } }

module _ {B : Type 0} {given : List B} {sender receiver : LinkState B} {there back : List (LinkPacket B)} (pair : LinkPair given sender receiver there back) where
  -- what follows from the invariant

  -- a numbered packet on its way carries the message given under its number
  pub pair_given : (p : LinkPacket B) → Contains there p → IsGiven given p.message
  pair_given p on_its_way = All-contains (λ x. IsGiven given x.message) there p pair.order.carried on_its_way

  -- an acknowledgement on its way covers what was accepted
  pub pair_acked : (p : LinkPacket B) → Contains back p → p.ack ≤ receiver.accepted
  pair_acked p on_its_way = All-contains (λ x. x.ack ≤ receiver.accepted) back p pair.acks.carried on_its_way

  -- none comes that is above what was given
  pub pair_acked_given : (p : LinkPacket B) → Contains back p → p.ack ≤ last_number sender
  pair_acked_given p on_its_way = omega (arith, pair_acked p on_its_way, pair.order.numbered, pair.order.accepted)

  -- what is accepted now is the next of what was given
  pub pair_next : (m : ℕ × B) → IsGiven given (Some m) → taken_of receiver m.0 ≡ Now → take receiver.accepted given ++ m.1 ∷ [] ≡ take (receiver.accepted + 1) given
  pair_next m is now = took_next pair.order m is now

  -- what was not accepted is kept
  pub pair_rest : drop receiver.accepted given ≡ drop (receiver.accepted - sender.released) (unacknowledged sender)
  pair_rest =
      let sum : sender.released + (receiver.accepted - sender.released) ≡ receiver.accepted = omega (arith, pair.acks.released) in
      ap (λ n. drop n given) (sym sum)
      ∙ (sym (drop-drop (receiver.accepted - sender.released) sender.released given)
      ∙ ap (drop (receiver.accepted - sender.released)) (sym pair.order.kept))

  -- where nothing is kept, all that was given was accepted
  pub pair_all : sender.kept ≡ [] → receiver.accepted ≡ length given
  pair_all none = omega (arith, ap length none, pair.order.numbered, pair.order.accepted, pair.acks.released)

  -- calls of the sender

  pub sender_send : (body : B) → LinkPair (given ++ body ∷ []) (after_send sender body) receiver there back
  sender_send body = record {
    order = order_send pair.order body;
    acks = acks_same_sender pair.acks _ (released-after_send sender body);
  }

  pub sender_sent : (number : ℕ) → LinkPair given (after_sent sender number) receiver there back
  sender_sent number = record {
    order = order_sent pair.order number;
    acks = acks_same_sender pair.acks _ (released-after_sent sender number);
  }

  pub sender_again : LinkPair given (after_again sender) receiver there back
  sender_again = record { order = order_again pair.order; acks = acks_same_sender pair.acks _ (released-after_again sender) }

  pub sender_heard : (ack : ℕ) → ack ≤ receiver.accepted → LinkPair given (after_heard sender ack) receiver there back
  sender_heard ack within = record { order = order_heard pair.order ack; acks = acks_heard pair.acks ack within }

  pub sender_accept : (number ack : ℕ) → ack ≤ receiver.accepted → LinkPair given (after_accept sender number ack) receiver there back
  sender_accept number ack within = record {
    order = order_accept_back pair.order number ack;
    acks = acks_accept_back pair.acks number ack within;
  }

  -- calls of the receiver

  receiver_same : (other : LinkState B) → other.accepted ≡ receiver.accepted → LinkPair given sender other there back
  receiver_same other same = record {
    order = order_same_receiver pair.order other same;
    acks = acks_more pair.acks other (omega (arith, same));
  }

  pub receiver_send : (body : B) → LinkPair given sender (after_send receiver body) there back
  receiver_send body = receiver_same _ (accepted-after_send receiver body)

  pub receiver_sent : (number : ℕ) → LinkPair given sender (after_sent receiver number) there back
  receiver_sent number = receiver_same _ (accepted-after_sent receiver number)

  pub receiver_again : LinkPair given sender (after_again receiver) there back
  receiver_again = receiver_same _ (accepted-after_again receiver)

  pub receiver_heard : (ack : ℕ) → LinkPair given sender (after_heard receiver ack) there back
  receiver_heard ack = receiver_same _ (accepted-after_heard receiver ack)

  pub receiver_drop_all : LinkPair given sender (after_drop_all receiver) there back
  receiver_drop_all = receiver_same _ (accepted-after_drop_all receiver)

  -- a message that was given comes
  pub receiver_accept : (message : ℕ × B) (ack : ℕ) → IsGiven given (Some message) → LinkPair given sender (after_accept receiver message.0 ack) there back
  receiver_accept message ack is = record {
    order = order_accept pair.order message ack is;
    acks = acks_more pair.acks _ (rw (accepted-after_accept receiver message.0 ack) (count_after-le (taken_of receiver message.0) receiver.accepted));
  }

  -- what the network does

  -- a packet on its way comes to the receiver
  pub receiver_gets : (p : LinkPacket B) → Contains there p → LinkPair given sender (after_packet receiver p.message p.ack) there back
  receiver_gets p on_its_way = record {
    order = order_packet pair.order p.message p.ack (pair_given p on_its_way);
    acks = acks_more pair.acks _ (accepted-after_packet receiver p.message p.ack);
  }

  -- a packet on its way back comes to the sender
  pub sender_gets : (p : LinkPacket B) → Contains back p → LinkPair given (after_packet sender p.message p.ack) receiver there back
  sender_gets p on_its_way = record {
    order = order_packet_back pair.order p.message p.ack;
    acks = acks_packet_back pair.acks p.message p.ack (pair_acked p on_its_way);
  }

  -- the sender emits a packet with its due message, or with none
  pub sender_emits : (ack : ℕ) → LinkPair given sender receiver (there ++ record { message = due_of sender; ack = ack } ∷ []) back
  sender_emits ack = record { order = order_emitted pair.order _ (order-due pair.order); acks = pair.acks }

  pub sender_emits_bare : (ack : ℕ) → LinkPair given sender receiver (there ++ record { message = None; ack = ack } ∷ []) back
  sender_emits_bare ack = record { order = order_emitted pair.order _ tt; acks = pair.acks }

  -- the receiver emits a packet, which carries its acknowledgement
  pub receiver_emits : (message : Option (ℕ × B)) → LinkPair given sender receiver there (back ++ record { message = message; ack = receiver.accepted } ∷ [])
  receiver_emits message = record { order = pair.order; acks = acks_emitted pair.acks _ (omega arith) }

  -- each packet on its way to the receiver was on its way before
  pub there_among : (others : List (LinkPacket B)) → ((p : LinkPacket B) → Contains others p → Contains there p) → LinkPair given sender receiver others back
  there_among others among = record { order = order_among pair.order others among; acks = pair.acks }

  -- each packet on its way back was on its way before
  pub back_among : (others : List (LinkPacket B)) → ((p : LinkPacket B) → Contains others p → Contains back p) → LinkPair given sender receiver there others
  back_among others among = record { order = pair.order; acks = acks_among pair.acks others among }

  -- the packet at an index is lost
  pub there_lost : (index : ℕ) → LinkPair given sender receiver (remove there index) back
  there_lost index = there_among _ (Contains-remove there index)

  pub back_lost : (index : ℕ) → LinkPair given sender receiver there (remove back index)
  back_lost index = back_among _ (Contains-remove back index)

  -- a packet is repeated
  pub there_repeated : (p : LinkPacket B) → Contains there p → LinkPair given sender receiver (there ++ p ∷ []) back
  there_repeated p on_its_way = there_among _ (Contains-again there p on_its_way)

  pub back_repeated : (p : LinkPacket B) → Contains back p → LinkPair given sender receiver there (back ++ p ∷ [])
  back_repeated p on_its_way = back_among _ (Contains-again back p on_its_way)

  -- packets are reordered
  pub there_reordered : (others : List (LinkPacket B)) → IsPermutation others there → LinkPair given sender receiver others back
  there_reordered others moved = there_among others (λ p left. Contains-permutation others there p moved left)

  pub back_reordered : (others : List (LinkPacket B)) → IsPermutation others back → LinkPair given sender receiver there others
  back_reordered others moved = back_among others (λ p left. Contains-permutation others back p moved left)
