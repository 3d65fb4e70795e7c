-- Taking a packet: both ends of a link agree as before, be they the ends of two actors or of one.
use Rattle.std.proofs.Common.{◌≡◌, ℕ, ◌<◌, ◌≤◌, Bool, true, false, cond, ◌&&◌, eqb, List, [], length, Some, refl, sym, subst, subst₂, arith}
use Rattle.std.proofs.lemmas.Bool.{cond_both}
use Rattle.cl_roster.specs.Roster.{has_stopped}
use Rattle.cl_link.specs.LinkState.{LinkState, taken_of}
use Rattle.cl_link.specs.LinkPair.{IsGiven, LinkOrder, LinkAcks}
use Rattle.cl_link.proofs.LinkOrders.{accepted-after_packet, order_heard, order_accept, order_accept_back, order_same_receiver}
use Rattle.cl_link.proofs.LinkPairs.{acks_heard, acks_accept_back, acks_more}
use Rattle.cl_link.proofs.LinkStates.{accepted-after_heard}
use Rattle.cl_wire.specs.Message.{Content}
use Rattle.cl_endpoint.specs.declared.received.Received.{Received}
use Rattle.cl_endpoint.specs.declared.received.Received.TheVariants.{Dropped, Bare, Now, Old, Gap}
use Rattle.cl_endpoint.specs.Endpoint.{EndpointState, link_to, received, received_as, link_after, after_receive}
use Rattle.cl_runs.specs.World.{with_at}
use Rattle.cl_runs.proofs.Calls.{link_to-after_receive}

-- the receiver accepts in order what was given, where nothing lies between
abbrev pub AreInOrder : List Content → LinkState Content → LinkState Content → Type 0
AreInOrder given sender receiver = LinkOrder given sender receiver []

-- nothing counts as acknowledged that was not accepted
abbrev pub AreAcked : LinkState Content → LinkState Content → Type 0
AreAcked sender receiver = LinkAcks sender receiver []

-- a packet is received as one that carries a message
abbrev pub Carries : Received → Type 0
Carries Dropped = ⊥
Carries Bare = ⊥
Carries Now = Unit {0}
Carries Old = Unit {0}
Carries Gap = Unit {0}

-- whatever is received, no message is taken back
pub accepted-link_after : (kind : Received) (s : LinkState Content) (seq ack : ℕ) (content : Content) → s.accepted ≤ (link_after kind s seq ack).accepted
accepted-link_after Dropped s seq ack content = omega arith
accepted-link_after Bare s seq ack content = omega (arith, accepted-after_heard s ack)
accepted-link_after Now s seq ack content = accepted-after_packet s (Some (seq, content)) ack
accepted-link_after Old s seq ack content = accepted-after_packet s (Some (seq, content)) ack
accepted-link_after Gap s seq ack content = accepted-after_packet s (Some (seq, content)) ack

receiver_takes : {given : List Content} {sender receiver : LinkState Content} → AreInOrder given sender receiver →
    (kind : Received) (seq ack : ℕ) (content : Content) →
    (Carries kind → IsGiven given (Some (seq, content))) → AreInOrder given sender (link_after kind receiver seq ack)
receiver_takes order Dropped seq ack content is = order
receiver_takes {receiver = receiver} order Bare seq ack content is = order_same_receiver order _ (accepted-after_heard receiver ack)
receiver_takes order Now seq ack content is = order_accept order (seq, content) ack (is tt)
receiver_takes order Old seq ack content is = order_accept order (seq, content) ack (is tt)
receiver_takes order Gap seq ack content is = order_accept order (seq, content) ack (is tt)

sender_takes : {given : List Content} {sender receiver : LinkState Content} → AreInOrder given sender receiver → (kind : Received) (seq ack : ℕ) →
    AreInOrder given (link_after kind sender seq ack) receiver
sender_takes order Dropped seq ack = order
sender_takes order Bare seq ack = order_heard order ack
sender_takes order Now seq ack = order_accept_back order seq ack
sender_takes order Old seq ack = order_accept_back order seq ack
sender_takes order Gap seq ack = order_accept_back order seq ack

sender_hears : {sender receiver : LinkState Content} → AreAcked sender receiver → (kind : Received) (seq ack : ℕ) → ack ≤ receiver.accepted →
    AreAcked (link_after kind sender seq ack) receiver
sender_hears acks Dropped seq ack within = acks
sender_hears acks Bare seq ack within = acks_heard acks ack within
sender_hears acks Now seq ack within = acks_accept_back acks seq ack within
sender_hears acks Old seq ack within = acks_accept_back acks seq ack within
sender_hears acks Gap seq ack within = acks_accept_back acks seq ack within

-- the packet comes to either end, or to both

either_takes : {given : List Content} {sender receiver : LinkState Content} → AreInOrder given sender receiver →
    (kind : Received) (seq ack : ℕ) (content : Content) (sends receives : Bool) →
    (receives ≡ true → Carries kind → IsGiven given (Some (seq, content))) →
    AreInOrder given (cond sends (link_after kind sender seq ack) sender) (cond receives (link_after kind receiver seq ack) receiver)
either_takes order kind seq ack content true true is = sender_takes (receiver_takes order kind seq ack content (is refl)) kind seq ack
either_takes order kind seq ack content true false is = sender_takes order kind seq ack
either_takes order kind seq ack content false true is = receiver_takes order kind seq ack content (is refl)
either_takes order kind seq ack content false false is = order

either_hears : {sender receiver : LinkState Content} → AreAcked sender receiver →
    (kind : Received) (seq ack : ℕ) (content : Content) (sends receives : Bool) → (sends ≡ true → ack ≤ receiver.accepted) →
    AreAcked (cond sends (link_after kind sender seq ack) sender) (cond receives (link_after kind receiver seq ack) receiver)
either_hears {receiver = receiver} acks kind seq ack content true true within =
    let more : receiver.accepted ≤ (link_after kind receiver seq ack).accepted = accepted-link_after kind receiver seq ack content in
    sender_hears (acks_more acks _ more) kind seq ack (omega (arith, within refl, more))
either_hears acks kind seq ack content true false within = sender_hears acks kind seq ack (within refl)
either_hears {receiver = receiver} acks kind seq ack content false true within = acks_more acks _ (accepted-link_after kind receiver seq ack content)
either_hears acks kind seq ack content false false within = acks

-- what carries a message has a number
pub carries_number : (e : EndpointState) (from seq : ℕ) → seq ≡ 0 → Carries (received e from seq) → ⊥
unfolding received
carries_number e from seq none carries =
    (elim (has_stopped e.noted from) as (λ stopped. Carries (cond stopped Dropped (cond (eqb 0 0) Bare (received_as (taken_of (link_to e from) 0)))) → ⊥)
    [ true ↦ λ never. never | false ↦ λ never. never ])
    (subst (λ n. Carries (cond (has_stopped e.noted from) Dropped (cond (eqb n 0) Bare (received_as (taken_of (link_to e from) n))))) none carries)

module _ (ends : ℕ → EndpointState) (me : ℕ) (e : EndpointState) (from seq ack : ℕ) (within : from < length e.links) where
  -- the link of an actor to a peer, once one actor has received a packet
  pub link_to-taken : (actor peer : ℕ) → link_to (with_at ends me (after_receive e from seq ack) actor) peer
      ≡ cond (eqb actor me && eqb peer from) (link_after (received e from seq) (link_to (with_at ends me e actor) peer) seq ack) (link_to (with_at ends me e actor) peer)
  link_to-taken actor peer =
      elim (eqb actor me) as (λ here. link_to (cond here (after_receive e from seq ack) (ends actor)) peer
      ≡ cond (here && eqb peer from) (link_after (received e from seq) (link_to (cond here e (ends actor)) peer) seq ack) (link_to (cond here e (ends actor)) peer))
      [ true ↦ link_to-after_receive e from seq ack peer within | false ↦ refl ]

  -- both ends of a link, once one actor has received a packet

  pub order_taken : (given : List Content) (content : Content) (actor peer : ℕ) →
      AreInOrder given (link_to (with_at ends me e actor) peer) (link_to (with_at ends me e peer) actor) →
      ((eqb peer me && eqb actor from) ≡ true → Carries (received e from seq) → IsGiven given (Some (seq, content))) →
      AreInOrder given (link_to (with_at ends me (after_receive e from seq ack) actor) peer)
      (link_to (with_at ends me (after_receive e from seq ack) peer) actor)
  order_taken given content actor peer order is =
      subst₂ (AreInOrder given) (sym (link_to-taken actor peer)) (sym (link_to-taken peer actor))
      (either_takes order (received e from seq) seq ack content (eqb actor me && eqb peer from) (eqb peer me && eqb actor from) is)

  pub acks_taken : (content : Content) (actor peer : ℕ) → AreAcked (link_to (with_at ends me e actor) peer) (link_to (with_at ends me e peer) actor) →
      ((eqb actor me && eqb peer from) ≡ true → ack ≤ (link_to (with_at ends me e peer) actor).accepted) →
      AreAcked (link_to (with_at ends me (after_receive e from seq ack) actor) peer) (link_to (with_at ends me (after_receive e from seq ack) peer) actor)
  acks_taken content actor peer acks acknowledged =
      subst₂ AreAcked (sym (link_to-taken actor peer)) (sym (link_to-taken peer actor))
      (either_hears acks (received e from seq) seq ack content (eqb actor me && eqb peer from) (eqb peer me && eqb actor from) acknowledged)

  -- no actor takes back what it accepted
  pub accepted_taken : (content : Content) (actor peer : ℕ) → (link_to (with_at ends me e actor) peer).accepted ≤ (link_to (with_at ends me (after_receive e from seq ack) actor) peer).accepted
  accepted_taken content actor peer =
      let was : LinkState Content = link_to (with_at ends me e actor) peer in
      subst (λ link. was.accepted ≤ link.accepted) (sym (link_to-taken actor peer))
      (cond_both (eqb actor me && eqb peer from) (link_after (received e from seq) was seq ack) was (λ link. was.accepted ≤ link.accepted)
      (λ here. accepted-link_after (received e from seq) was seq ack content) (λ elsewhere. omega arith))
