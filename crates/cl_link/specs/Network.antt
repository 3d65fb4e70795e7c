-- Actors that give each other messages over links, while their packets are lost, repeated and reordered.
use Rattle.std.specs.Prelude.{◌≡◌, ℕ, ◌≤◌, Bool, true, false, ◌&&◌, ◌==◌, if◌then◌else◌, List, [], ◌∷◌, ◌++◌, length, drop, remove, fold, Option, Some, None, slice_get}
use Rattle.cl_link.specs.declared.link.TheConstants.{NUMBER_MAX}
use Rattle.cl_link.specs.declared.link.Taken.{Taken}
use Rattle.cl_link.specs.declared.link.Taken.TheVariants.{Now, Old, Gap}
use Rattle.cl_link.specs.LinkState.{LinkState, no_message, last_number, unacknowledged, due_of, taken_of, after_send, after_sent, after_again, after_drop_all}
use Rattle.cl_link.specs.LinkPair.{LinkPacket, LinkOrder, LinkPair, after_packet}

-- one end of a link, and what happened there so far
pub record LinkEnd (B : Type 0) : Type 0 where
  pub link : LinkState B
  -- what was given to the link, and what was accepted from the peer, each in order
  pub given : List B
  pub took : List B
  -- the packets that are on their way to the peer
  pub out : List (LinkPacket B)
  -- whether the end ever dropped what it kept, be it nothing
  pub dropped : Bool

-- the link of each actor to each peer, itself included
abbrev pub Network : Type 0 → Type 0
Network B = ℕ → ℕ → LinkEnd B

-- what may happen at an end of a link
pub data LinkAct (B : Type 0) : Type 0 where
  -- the message is given, unless the numbers are at their end
  Give : B → LinkAct B
  -- the message of this number is no longer due
  Mark : ℕ → LinkAct B
  -- each message that is kept is due again
  Tick : LinkAct B
  -- a packet goes on its way with the least due message, or with none
  Emit : LinkAct B
  -- the packet that is at this index of those on their way from the peer comes. It may come again, and before others
  Comes : ℕ → LinkAct B
  -- the packet that is at this index of those on their way to the peer is lost
  Lose : ℕ → LinkAct B
  -- what is kept is dropped
  Drop : LinkAct B

-- the packet that the end emits now
abbrev pub packet_of : {B : Type 0} → LinkState B → LinkPacket B
packet_of s = record { message = due_of s; ack = s.accepted }

-- exactly what is accepted now comes after what was accepted before
abbrev pub took_after : {B : Type 0} → Taken → List B → B → List B
took_after Now took body = took ++ body ∷ []
took_after Old took body = took
took_after Gap took body = took

-- what was accepted, once a message has come, or none
abbrev pub took_with : {B : Type 0} → LinkEnd B → Option (ℕ × B) → List B
took_with end None = end.took
took_with end (Some m) = took_after (taken_of end.link m.0) end.took m.1

-- a packet comes, if there is one
abbrev pub after_coming : {B : Type 0} → LinkEnd B → Option (LinkPacket B) → LinkEnd B
after_coming end None = end
after_coming end (Some p) = record end { link = after_packet end.link p.message p.ack; took = took_with end p.message }

-- an end after an act there, with the end of the peer
unfoldable pub after_act : {B : Type 0} → LinkAct B → LinkEnd B → LinkEnd B → LinkEnd B
after_act (Give body) end peer =
    if last_number end.link == NUMBER_MAX then end else record end { link = after_send end.link body; given = end.given ++ body ∷ [] }
after_act (Mark number) end peer = record end { link = after_sent end.link number }
after_act Tick end peer = record end { link = after_again end.link }
after_act Emit end peer = record end { out = end.out ++ packet_of end.link ∷ [] }
after_act (Comes index) end peer = after_coming end (slice_get peer.out index)
after_act (Lose index) end peer = record end { out = remove end.out index }
after_act Drop end peer = record end { link = after_drop_all end.link; dropped = true }

-- an act at the end that an actor has of its link to a peer
pub record LinkEvent (B : Type 0) : Type 0 where
  pub actor : ℕ
  pub peer : ℕ
  pub act : LinkAct B

-- only that end changes
unfoldable pub after_event : {B : Type 0} → Network B → LinkEvent B → Network B
after_event network event a b =
    if (a == event.actor) && (b == event.peer) then after_act event.act (network a b) (network b a) else network a b

-- nothing has happened
abbrev pub quiet_network : {B : Type 0} → Network B
quiet_network a b = record { link = no_message; given = []; took = []; out = []; dropped = false }

-- after a list of events, first to last
unfoldable pub after_events : {B : Type 0} → List (LinkEvent B) → Network B
after_events events = fold after_event quiet_network events

-- the first list is a beginning of the second
abbrev pub IsPrefixOf : {B : Type 0} → List B → List B → Type 0
IsPrefixOf {B} xs ys = (rest : List B) × (xs ++ rest ≡ ys)

-- each link is in order and once, whatever the network does
pub record InOrderAndOnce {B : Type 0} (network : Network B) : Type 0 where
  -- what an actor accepted from a peer, in order, is a beginning of what the peer gave its link to it
  pub in_order : (actor peer : ℕ) → IsPrefixOf (network actor peer).took (network peer actor).given
  -- the link's count, which each packet emitted carries as its acknowledgement, is how many messages were accepted
  pub counted : (actor peer : ℕ) → length (network actor peer).took ≡ (network actor peer).link.accepted
  -- where the sender never dropped what it kept, a message that counts as acknowledged was accepted
  pub acknowledged : (actor peer : ℕ) → (network peer actor).dropped ≡ false → (network peer actor).link.released ≤ length (network actor peer).took
  -- each message after those that were acknowledged or dropped is kept
  pub kept : (actor peer : ℕ) → unacknowledged (network peer actor).link ≡ drop (network peer actor).link.released (network peer actor).given

-- whatever is given, marked, due again, dropped, emitted, lost, repeated or reordered, each link is in order and once
abbrev pub LinksInOrderAndOnce : Type 0 → Type 0
LinksInOrderAndOnce B = (events : List (LinkEvent B)) → InOrderAndOnce (after_events events)

-- both ends of each link keep the order with the packets on their way to the receiver, also after drops
abbrev pub LinksKeepOrder : Type 0 → Type 0
LinksKeepOrder B =
    (events : List (LinkEvent B)) (actor peer : ℕ) →
    LinkOrder (after_events events peer actor).given (after_events events peer actor).link (after_events events actor peer).link (after_events events peer actor).out

-- and where the sender never dropped what it kept, they are a pair with the packets on their way to the receiver and back
abbrev pub LinksArePairs : Type 0 → Type 0
LinksArePairs B =
    (events : List (LinkEvent B)) (actor peer : ℕ) → (after_events events peer actor).dropped ≡ false →
    LinkPair (after_events events peer actor).given (after_events events peer actor).link (after_events events actor peer).link (after_events events peer actor).out (after_events events actor peer).out
