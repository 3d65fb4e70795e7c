-- What is accepted is a beginning of what was given: kept by each call at either end, and by whatever the network does.
use Rattle.std.proofs.Common.{◌≡◌, ℕ, ◌+◌, ◌-◌, ◌<◌, ◌≤◌, List, [], ◌∷◌, ◌++◌, length, get_or, take, drop, Option, Some, None, refl, ap, sym, ◌∙◌, arith}
use Rattle.std.specs.List.{slice_get, Contains}
use Rattle.std.proofs.lemmas.List.{drop-drop, drop-append-le, length_push, drop_all, take_more}
use Rattle.std.proofs.lemmas.List.Elements.{All-push, All-nil, All-weaker}
use Rattle.std.proofs.lemmas.Option.{slice_get_within, get_or_from_slice_get}
use Rattle.cl_link.specs.declared.link.Taken.{Taken}
use Rattle.cl_link.specs.declared.link.Taken.TheVariants.{Now, Old, Gap}
use Rattle.cl_link.specs.LinkState.{LinkState, no_message, last_number, unacknowledged, due_of, covered, taken_of, count_after, after_send, after_sent, after_again, after_heard, after_accept, after_drop_all}
use Rattle.cl_link.specs.LinkPair.{LinkPacket, IsGiven, LinkOrder, after_packet}
use Rattle.cl_link.proofs.Indices.{slice_get_kept, slice_get-drop, All-among}
use Rattle.cl_link.proofs.LinkStates.{last_number-after_send, last_number-after_sent, last_number-after_again, last_number-after_heard, last_number-after_accept, last_number-after_drop_all, released-after_send, released-after_sent, released-after_again, released-after_heard, released-after_accept, released-after_drop_all, unacknowledged-after_send, unacknowledged-after_sent, unacknowledged-after_again, unacknowledged-after_heard, unacknowledged-after_accept, unacknowledged-after_drop_all, accepted-after_heard, accepted-after_accept, number_of_taken, due_of-kept}

-- what was given stays given
pub IsGiven_more : {B : Type 0} (given : List B) (message : Option (ℕ × B)) (body : B) → IsGiven given message → IsGiven (given ++ body ∷ []) message
IsGiven_more given None body is = tt
IsGiven_more given (Some m) body is = (is.0, slice_get_kept given (body ∷ []) (m.0 - 1) m.1 is.1)

IsGiven_by : {B : Type 0} (given : List B) (message : Option (ℕ × B)) → ((m : ℕ × B) → message ≡ Some m → IsGiven given (Some m)) → IsGiven given message
IsGiven_by given None each = tt
IsGiven_by given (Some m) each = each m refl

-- no number is accepted twice, and none is taken back
pub count_after-le : (taken : Taken) (accepted : ℕ) → accepted ≤ count_after taken accepted
count_after-le Now accepted = omega arith
count_after-le Old accepted = omega arith
count_after-le Gap accepted = omega arith

-- what is accepted now was given
count_within : {B : Type 0} (s : LinkState B) (number count : ℕ) (taken : Taken) → taken_of s number ≡ taken → s.accepted ≤ count → number - 1 < count → count_after taken s.accepted ≤ count
count_within s number count Now is within given = omega (arith, number_of_taken s number is)
count_within s number count Old is within given = within
count_within s number count Gap is within given = within

pub accepted-after_packet : {B : Type 0} (s : LinkState B) (message : Option (ℕ × B)) (ack : ℕ) → s.accepted ≤ (after_packet s message ack).accepted
accepted-after_packet s None ack = omega (arith, accepted-after_heard s ack)
accepted-after_packet s (Some m) ack = omega (arith, accepted-after_accept s m.0 ack, count_after-le (taken_of s m.0) s.accepted)

-- at the start
pub order-start : {B : Type 0} → LinkOrder {B = B} [] no_message no_message []
order-start = record { numbered = refl; kept = refl; accepted = omega arith; carried = All-nil _ }

module _ {B : Type 0} {given : List B} {sender receiver : LinkState B} {there : List (LinkPacket B)} (order : LinkOrder given sender receiver there) where
  pub released_within : sender.released ≤ length given
  released_within = omega (arith, order.numbered)

  -- the due message is one that was given
  pub order-due : IsGiven given (due_of sender)
  order-due =
      IsGiven_by given (due_of sender)
      (λ m found.
      let kept = due_of-kept sender m found in
      let index : sender.released + (m.0 - sender.released - 1) ≡ m.0 - 1 = omega (arith, kept.0) in (
        omega (arith, kept.0),
        ap (slice_get given) (sym index)
            ∙ (sym (slice_get-drop sender.released given (m.0 - sender.released - 1))
            ∙ (ap (λ (bs : List B). slice_get bs (m.0 - sender.released - 1)) (sym order.kept) ∙ kept.1)),
      ))

  pub order_send : (body : B) → LinkOrder (given ++ body ∷ []) (after_send sender body) receiver there
  order_send body = record {
    numbered = last_number-after_send sender body ∙ (ap (λ n. n + 1) order.numbered ∙ sym (length_push given body));
    kept =
        unacknowledged-after_send sender body
        ∙ (ap (λ (bs : List B). bs ++ body ∷ []) order.kept
        ∙ (sym (drop-append-le sender.released given (body ∷ []) released_within)
        ∙ ap (λ n. drop n (given ++ body ∷ [])) (sym (released-after_send sender body))));
    accepted = omega (arith, order.accepted, length_push given body);
    carried = All-weaker _ _ (λ p is. IsGiven_more given p.message body is) there order.carried;
  }

  -- another sender with the same messages
  order_same_sender : (other : LinkState B) → last_number other ≡ last_number sender → other.released ≡ sender.released → unacknowledged other ≡ unacknowledged sender → LinkOrder given other receiver there
  order_same_sender other last released same = record {
    numbered = last ∙ order.numbered;
    kept = same ∙ (order.kept ∙ ap (λ n. drop n given) (sym released));
    accepted = order.accepted;
    carried = order.carried;
  }

  pub order_sent : (number : ℕ) → LinkOrder given (after_sent sender number) receiver there
  order_sent number =
      order_same_sender _ (last_number-after_sent sender number) (released-after_sent sender number) (unacknowledged-after_sent sender number)

  pub order_again : LinkOrder given (after_again sender) receiver there
  order_again = order_same_sender _ (last_number-after_again sender) (released-after_again sender) (unacknowledged-after_again sender)

  pub order_heard : (ack : ℕ) → LinkOrder given (after_heard sender ack) receiver there
  order_heard ack = record {
    numbered = last_number-after_heard sender ack ∙ order.numbered;
    kept =
        unacknowledged-after_heard sender ack
        ∙ (ap (drop (covered sender ack)) order.kept
        ∙ (drop-drop (covered sender ack) sender.released given
        ∙ ap (λ n. drop n given) (sym (released-after_heard sender ack))));
    accepted = order.accepted;
    carried = order.carried;
  }

  pub order_drop_all : LinkOrder given (after_drop_all sender) receiver there
  order_drop_all = record {
    numbered = last_number-after_drop_all sender ∙ order.numbered;
    kept = unacknowledged-after_drop_all sender ∙ sym (drop_all _ given (omega (arith, order.numbered, released-after_drop_all sender)));
    accepted = order.accepted;
    carried = order.carried;
  }

  -- another receiver that accepted as many
  pub order_same_receiver : (other : LinkState B) → other.accepted ≡ receiver.accepted → LinkOrder given sender other there
  order_same_receiver other same = record {
    numbered = order.numbered;
    kept = order.kept;
    accepted = omega (arith, same, order.accepted);
    carried = order.carried;
  }

  -- a message that was given comes to the receiver
  pub order_accept : (message : ℕ × B) (ack : ℕ) → IsGiven given (Some message) → LinkOrder given sender (after_accept receiver message.0 ack) there
  order_accept message ack is = record {
    numbered = order.numbered;
    kept = order.kept;
    accepted =
        rw (accepted-after_accept receiver message.0 ack)
        (count_within receiver message.0 (length given) (taken_of receiver message.0) refl order.accepted (slice_get_within given _ _ is.1));
    carried = order.carried;
  }

  -- what is accepted now is the next of what was given
  pub took_next : (message : ℕ × B) → IsGiven given (Some message) → taken_of receiver message.0 ≡ Now → take receiver.accepted given ++ message.1 ∷ [] ≡ take (receiver.accepted + 1) given
  took_next message is now =
      let next : message.0 - 1 ≡ receiver.accepted = omega (arith, number_of_taken receiver message.0 now) in
      let at : slice_get given receiver.accepted ≡ Some message.1 = rw (← next) is.1 in
      let more : take (receiver.accepted + 1) given ≡ take receiver.accepted given ++ get_or given receiver.accepted message.1 ∷ [] = take_more given receiver.accepted message.1 (slice_get_within given _ _ at) in
      sym (more ∙ ap (λ (b : B). take receiver.accepted given ++ b ∷ []) (get_or_from_slice_get given _ _ message.1 at))

  -- a packet goes on its way
  pub order_emitted : (p : LinkPacket B) → IsGiven given p.message → LinkOrder given sender receiver (there ++ p ∷ [])
  order_emitted p is = record {
    numbered = order.numbered;
    kept = order.kept;
    accepted = order.accepted;
    carried = All-push (λ x. IsGiven given x.message) there p order.carried is;
  }

  -- packets are lost, repeated or reordered
  pub order_among : (others : List (LinkPacket B)) → ((p : LinkPacket B) → Contains others p → Contains there p) → LinkOrder given sender receiver others
  order_among others among = record {
    numbered = order.numbered;
    kept = order.kept;
    accepted = order.accepted;
    carried = All-among (λ x. IsGiven given x.message) there others among order.carried;
  }

module _ {B : Type 0} {given : List B} {sender receiver : LinkState B} {there : List (LinkPacket B)} (order : LinkOrder given sender receiver there) where
  -- a packet comes to the receiver
  pub order_packet : (message : Option (ℕ × B)) (ack : ℕ) → IsGiven given message → LinkOrder given sender (after_packet receiver message ack) there
  order_packet None ack is = order_same_receiver order _ (accepted-after_heard receiver ack)
  order_packet (Some m) ack is = order_accept order m ack is

  -- a packet comes back to the sender, maybe with a message of the other way
  pub order_accept_back : (number ack : ℕ) → LinkOrder given (after_accept sender number ack) receiver there
  order_accept_back number ack =
      order_same_sender (order_heard order ack) (after_accept sender number ack)
      (last_number-after_accept sender number ack ∙ sym (last_number-after_heard sender ack))
      (released-after_accept sender number ack) (unacknowledged-after_accept sender number ack)

  pub order_packet_back : (message : Option (ℕ × B)) (ack : ℕ) → LinkOrder given (after_packet sender message ack) receiver there
  order_packet_back None ack = order_heard order ack
  order_packet_back (Some m) ack = order_accept_back m.0 ack
