-- What holds of every endpoint.
use Rattle.std.specs.Prelude.{◌≡◌, ◌≢◌, ◌⊎◌, ◌↔◌, ℕ, ◌+◌, ◌-◌, ◌^◌, ◌<◌, ◌≤◌, ◌==◌, ◌&&◌, not, false, ⊤, List, [], ◌∷◌, ◌++◌, length, map, Option, Some, IfSome, slice_get}
use Rattle.std.specs.List.{All, filter, fold}
use Rattle.cl_link.specs.declared.link.TheConstants.{NUMBER_MAX}
use Rattle.cl_link.specs.LinkState.{LinkState, last_number, unacknowledged, after_send, after_sent}
use Rattle.cl_roster.specs.Roster.{has_stopped}
use Rattle.cl_steps.specs.declared.packets.TheConstants.{PACKETS_MAX}
use Rattle.cl_steps.specs.declared.steps.Outgoing.{Outgoing}
use Rattle.cl_wire.specs.Message.{Content, Message, Bare}
use Rattle.cl_wire.specs.Range.{IsContent, IsInRange}
use Rattle.cl_endpoint.specs.declared.limits.TheConstants.{ACTORS}
use Rattle.cl_endpoint.specs.declared.received.Received.TheVariants.{Now}
use Rattle.cl_endpoint.specs.Endpoint.{EndpointState, link_to, set_number, received, after_gives}
use Rattle.cl_endpoint.specs.Emission.{due_to, packet_to, after_packet, emitted, after_emit}

-- a packet is accepted now exactly where its sender has not stopped and it carries the next message
abbrev pub AcceptedIsNext : Type 0
AcceptedIsNext = (state : EndpointState) (from seq : ℕ) →
    (received state from seq ≡ Now) ↔ ((has_stopped state.noted from ≡ false) × (seq ≡ (link_to state from).accepted + 1))

-- the contents of the messages to an actor, in order
abbrev pub contents_to : ℕ → List Outgoing → List Content
contents_to peer sends = map (λ send. send.payload) (filter (λ send. send.to == peer) sends)

-- messages that are given reach the link to each actor in the order in which they were given
abbrev pub GivingIsSending : Type 0
GivingIsSending = (state : EndpointState) (sends : List Outgoing) (peer : ℕ) → peer < length state.links →
    link_to (after_gives state sends) peer ≡ fold after_send (link_to state peer) (contents_to peer sends)

-- whom an acknowledgement is owed, if anyone, is an actor
abbrev pub IsOwedToActor : EndpointState → Option ℕ → Type 0
IsOwedToActor state owed = IfSome owed (λ peer. peer < length state.links)

-- each packet is the one to its receiver as things stand after those before it
abbrev pub IsInTurn : EndpointState → List Message → Type 0
IsInTurn state [] = ⊤
IsInTurn state (m ∷ ms) = (m.to < length state.links) × (m ≡ packet_to state m.to) × IsInTurn (after_packet state m) ms

-- emission goes packet by packet
abbrev pub EmissionIsInTurn : Type 0
EmissionIsInTurn = (state : EndpointState) (owed : Option ℕ) → IsOwedToActor state owed → IsInTurn state (emitted state owed)

-- the message of this number is kept, with this content
abbrev pub IsKeptUnder : LinkState Content → ℕ → Content → Type 0
IsKeptUnder link seq content = (link.released < seq) × (slice_get (unacknowledged link) (seq - link.released - 1) ≡ Some content)

-- the packet goes from the endpoint's actor to one that it has a link to; it carries a message that is kept, or none
pub record IsOf (state : EndpointState) (m : Message) : Type 0 where
  pub from : m.from ≡ state.me
  pub to : m.to < length state.links
  pub set : m.set ≡ set_number state
  pub ack : m.ack ≡ (link_to state m.to).accepted
  pub carried : ((m.seq ≡ 0) × (m.content ≡ Bare)) ⊎ IsKeptUnder (link_to state m.to) m.seq m.content

-- each packet that is emitted says what the endpoint had before
abbrev pub EmittedIsKept : Type 0
EmittedIsKept = (state : EndpointState) (owed : Option ℕ) → IsOwedToActor state owed → All (IsOf state) (emitted state owed)

-- the numbers of a link fit on the wire, and so does what it keeps
pub record IsLinkInRange (link : LinkState Content) : Type 0 where
  pub given : last_number link ≤ NUMBER_MAX
  pub accepted : link.accepted < 2 ^ 64
  pub kept : All (λ content. IsContent content × (content ≢ Bare)) (unacknowledged link)

-- what an endpoint emits fits on the wire
pub record IsEndpointInRange (state : EndpointState) : Type 0 where
  pub me : state.me < ACTORS
  pub actors : length state.links ≡ ACTORS
  pub set : set_number state < 2 ^ 32
  pub links : All IsLinkInRange state.links

-- each packet that is emitted has a spelling
abbrev pub EmittedIsInRange : Type 0
EmittedIsInRange = (state : EndpointState) (owed : Option ℕ) → IsEndpointInRange state → IsOwedToActor state owed → All IsInRange (emitted state owed)

-- an event emits no more than the limit
abbrev pub EmittedAreFew : Type 0
EmittedAreFew = (state : EndpointState) (owed : Option ℕ) → length (emitted state owed) ≤ PACKETS_MAX

-- those of the packets that carry a message to an actor
abbrev pub messages_to : ℕ → List Message → List Message
messages_to peer packets = filter (λ m. (m.to == peer) && not (m.seq == 0)) packets

-- what was due to an actor is what is emitted to it, and then what stays due
abbrev pub DueIsEmittedOrStays : Type 0
DueIsEmittedOrStays = (state : EndpointState) (owed : Option ℕ) (peer : ℕ) → IsOwedToActor state owed → peer < length state.links →
    due_to state peer ≡ messages_to peer (emitted state owed) ++ due_to (after_emit state owed) peer

-- a link after emission is that link with the messages that were emitted marked as sent
abbrev pub EmissionMarksSent : Type 0
EmissionMarksSent = (state : EndpointState) (owed : Option ℕ) (peer : ℕ) → peer < length state.links →
    link_to (after_emit state owed) peer ≡ fold after_sent (link_to state peer) (map (λ m. m.seq) (messages_to peer (emitted state owed)))
