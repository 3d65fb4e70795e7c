-- Which packets an endpoint emits, and what is left due.
use Rattle.std.specs.Prelude.{ℕ, ◌+◌, if◌then◌else◌, List, [], ◌∷◌, ◌++◌, length, map, take, Option, Some, None}
use Rattle.std.specs.List.{fold, flat_map, range_with_len}
use Rattle.cl_link.specs.declared.kept.Kept.{Kept}
use Rattle.cl_link.specs.LinkState.{LinkState, due_of, after_sent}
use Rattle.cl_steps.specs.declared.packets.TheConstants.{PACKETS_MAX}
use Rattle.cl_wire.specs.Message.{Content, Message, Bare}
use Rattle.cl_endpoint.specs.Endpoint.{EndpointState, link_to, with_link, set_number}

-- the due messages with their numbers, where the first of the messages has this number
abbrev pub due_from : ℕ → List (Kept Content) → List (ℕ × Content)
due_from number [] = []
due_from number (m ∷ ms) = if m.due then (number, m.body) ∷ due_from (number + 1) ms else due_from (number + 1) ms

-- the due messages of a link, by number
unfoldable pub due_in : LinkState Content → List (ℕ × Content)
due_in link = due_from (link.released + 1) link.kept

-- a message to an actor, with its number; it acknowledges what was accepted from there
abbrev pub message_to : EndpointState → ℕ → ℕ × Content → Message
message_to state peer numbered = record {
  from = state.me;
  to = peer;
  set = set_number state;
  seq = numbered.0;
  ack = (link_to state peer).accepted;
  content = numbered.1;
}

-- the due messages to an actor, by number
unfoldable pub due_to : EndpointState → ℕ → List Message
due_to state peer = map (message_to state peer) (due_in (link_to state peer))

-- all due messages, by receiver and then by number
unfoldable pub all_due : EndpointState → List Message
all_due state = flat_map (due_to state) (range_with_len 0 (length state.links))

-- the least due message, or a bare acknowledgement, which has the number 0
abbrev pub or_bare : Option (ℕ × Content) → ℕ × Content
or_bare None = (0, Bare)
or_bare (Some numbered) = numbered

-- the packet to an actor to whom an acknowledgement is owed
unfoldable pub packet_to : EndpointState → ℕ → Message
packet_to state peer = message_to state peer (or_bare (due_of (link_to state peer)))

-- the message is emitted: it is no longer due
unfoldable pub after_packet : EndpointState → Message → EndpointState
after_packet state m = with_link state m.to (after_sent (link_to state m.to) m.seq)

-- the packet to the actor to whom an acknowledgement is owed, if there is one
abbrev pub owed_packets : EndpointState → Option ℕ → List Message
owed_packets state None = []
owed_packets state (Some peer) = packet_to state peer ∷ []

-- what is to be emitted: the packet that is owed, and then the other due messages
unfoldable pub to_emit : EndpointState → Option ℕ → List Message
to_emit state owed = owed_packets state owed ++ all_due (fold after_packet state (owed_packets state owed))

-- what is emitted: as much of it as fits
unfoldable pub emitted : EndpointState → Option ℕ → List Message
emitted state owed = take PACKETS_MAX (to_emit state owed)

-- what is emitted is no longer due; what did not fit stays due
unfoldable pub after_emit : EndpointState → Option ℕ → EndpointState
after_emit state owed = fold after_packet state (emitted state owed)
