-- What an endpoint knows, and what each call but emission makes of it.
use Rattle.std.specs.Prelude.{ℕ, ◌+◌, ◌==◌, nat_lt, Bool, if◌then◌else◌, not, List, [], ◌∷◌, ◌++◌, length, map, replicate, Option, Some, None, slice_index_or, slice_set}
use Rattle.std.specs.List.{fold, count_by, list_any}
use Rattle.cl_link.specs.declared.link.TheConstants.{NUMBER_MAX}
use Rattle.cl_link.specs.declared.link.Taken.{Taken}
use Rattle.cl_link.specs.declared.link.Taken.TheVariants as takes
use Rattle.cl_link.specs.LinkState.{LinkState, no_message, last_number, taken_of, after_send, after_accept, after_heard, after_again, after_drop_all}
use Rattle.cl_roster.specs.declared.entry.RosterEntry.{RosterEntry}
use Rattle.cl_roster.specs.declared.entry.RosterEntry.TheVariants.{Stopped, Repaired}
use Rattle.cl_roster.specs.Roster.{has_stopped}
use Rattle.cl_steps.specs.declared.steps.Outgoing.{Outgoing}
use Rattle.cl_wire.specs.Message.{Content}
use Rattle.cl_endpoint.specs.declared.limits.TheConstants.{ACTORS}
use Rattle.cl_endpoint.specs.declared.received.Received.{Received}
use Rattle.cl_endpoint.specs.declared.received.Received.TheVariants.{Dropped, Bare, Now, Old, Gap}

-- what an actor knows that has to do with packets
pub record EndpointState : Type 0 where
  -- its own number, and how many nodes and spares the cluster has
  pub me : ℕ
  pub nodes : ℕ
  pub spares : ℕ
  -- the entries of the roster that it has noted
  pub noted : List RosterEntry
  -- its link to each actor, by the actor's number
  pub links : List (LinkState Content)

-- nothing was noted, given or accepted
unfoldable pub new_endpoint : ℕ → ℕ → ℕ → EndpointState
new_endpoint me nodes spares = record { me = me; nodes = nodes; spares = spares; noted = []; links = replicate ACTORS no_message }

-- the link to an actor
abbrev pub link_to : EndpointState → ℕ → LinkState Content
link_to state peer = slice_index_or state.links peer no_message

-- the link to an actor is another one
abbrev pub with_link : EndpointState → ℕ → LinkState Content → EndpointState
with_link state peer link = record state { links = slice_set state.links peer link }

-- how many entries of the roster were noted
abbrev pub set_number : EndpointState → ℕ
set_number state = length state.noted

-- a message that came, by what its link takes it for
abbrev pub received_as : Taken → Received
received_as takes.Now = Now
received_as takes.Old = Old
received_as takes.Gap = Gap

-- what becomes of a packet of this sender that comes with this message number, which is 0 where it carries none
unfoldable pub received : EndpointState → ℕ → ℕ → Received
received state from seq =
    if has_stopped state.noted from then Dropped
    else (if seq == 0 then Bare else received_as (taken_of (link_to state from) seq))

-- the link to the sender after a packet that was received so: a dropped one changes nothing
abbrev pub link_after : Received → LinkState Content → ℕ → ℕ → LinkState Content
link_after Dropped link seq ack = link
link_after Bare link seq ack = after_heard link ack
link_after carries link seq ack = after_accept link seq ack

-- a packet of this sender comes, with its message number and its acknowledgement
unfoldable pub after_receive : EndpointState → ℕ → ℕ → ℕ → EndpointState
after_receive state from seq ack = with_link state from (link_after (received state from seq) (link_to state from) seq ack)

-- to whom an acknowledgement is owed after a packet of this sender: to the sender, where the packet carries a message and is not dropped
abbrev pub owed_to : Received → ℕ → Option ℕ
owed_to Dropped from = None
owed_to Bare from = None
owed_to carries from = Some from

-- a message for this actor is given
unfoldable pub after_give : EndpointState → ℕ → Content → EndpointState
after_give state to content = with_link state to (after_send (link_to state to) content)

-- messages are given, first to last
unfoldable pub after_gives : EndpointState → List Outgoing → EndpointState
after_gives state sends = fold (λ before send. after_give before send.to send.payload) state sends

-- messages to these actors do not fit: the link to one of them would need a number above the last
unfoldable pub is_spent_to : EndpointState → List ℕ → Bool
is_spent_to state receivers =
    list_any (λ to. nat_lt NUMBER_MAX (last_number (link_to state to) + count_by (λ other. other == to) receivers)) receivers

-- these messages do not fit; it depends on their receivers alone
abbrev pub is_spent_by : EndpointState → List Outgoing → Bool
is_spent_by state sends = is_spent_to state (map (λ send. send.to) sends)

-- each message that is kept is due again
unfoldable pub after_tick : EndpointState → EndpointState
after_tick state = record state { links = map after_again state.links }

-- what is kept for a node that has stopped is dropped
abbrev pub dropped_for : EndpointState → RosterEntry → EndpointState
dropped_for state (Stopped n) = with_link state n (after_drop_all (link_to state n))
dropped_for state (Repaired v n) = state

-- an entry of the roster is noted
unfoldable pub after_note : EndpointState → RosterEntry → EndpointState
after_note state entry = dropped_for (record state { noted = state.noted ++ entry ∷ [] }) entry

-- some message is kept: given, and neither acknowledged nor dropped
unfoldable pub is_waiting : EndpointState → Bool
is_waiting state = list_any (λ link. not (length link.kept == 0)) state.links
