-- Both ends of a link, with what is on its way between them.
use Rattle.std.specs.Prelude.{◌≡◌, ℕ, ◌-◌, ◌≤◌, ⊤, List, length, drop, All, Option, Some, None, slice_get}
use Rattle.cl_link.specs.LinkState.{LinkState, last_number, unacknowledged, after_heard, after_accept}

-- what a packet carries for a link: a message with its number, or none, and how many of the receiver's messages its sender has accepted
pub record LinkPacket (B : Type 0) : Type 0 where
  pub message : Option (ℕ × B)
  pub ack : ℕ

-- one end of a link after a packet came: one with a message, or one with an acknowledgement alone
abbrev pub after_packet : {B : Type 0} → LinkState B → Option (ℕ × B) → ℕ → LinkState B
after_packet s None ack = after_heard s ack
after_packet s (Some m) ack = after_accept s m.0 ack

-- the message, if there is one, is that which was given under its number
abbrev pub IsGiven : {B : Type 0} → List B → Option (ℕ × B) → Type 0
IsGiven given None = ⊤
IsGiven given (Some m) = (1 ≤ m.0) × (slice_get given (m.0 - 1) ≡ Some m.1)

-- the receiver accepts what was given, in order: messages bear their indices in what was given
pub record LinkOrder {B : Type 0} (given : List B) (sender receiver : LinkState B) (there : List (LinkPacket B)) : Type 0 where
  -- the last number is how many messages were given
  pub numbered : last_number sender ≡ length given
  -- what is kept is the end of what was given, after what is no longer kept
  pub kept : unacknowledged sender ≡ drop sender.released given
  -- no more was accepted than was given
  pub accepted : receiver.accepted ≤ length given
  -- a numbered packet on its way carries the message given under its number
  pub carried : All (λ p. IsGiven given p.message) there

-- nothing counts as acknowledged that was not accepted
pub record LinkAcks {B : Type 0} (sender receiver : LinkState B) (back : List (LinkPacket B)) : Type 0 where
  -- what is no longer kept was accepted
  pub released : sender.released ≤ receiver.accepted
  -- so was what an acknowledgement on its way covers
  pub carried : All (λ p. p.ack ≤ receiver.accepted) back

-- between a sender that was given these messages and a receiver, with the packets on their way to the receiver and back
pub record LinkPair {B : Type 0} (given : List B) (sender receiver : LinkState B) (there back : List (LinkPacket B)) : Type 0 where
  pub order : LinkOrder given sender receiver there
  pub acks : LinkAcks sender receiver back
