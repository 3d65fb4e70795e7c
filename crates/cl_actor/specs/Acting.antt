-- How a core and an endpoint make an actor.
use Rattle.std.specs.Prelude.{◌≡◌, ℕ, ◌<◌, Bool, true, false, ◌&&◌, ◌||◌, if◌then◌else◌, List, Option, None, Some}
use Rattle.std.specs.List.{All}
use Rattle.cl_endpoint.specs.declared.limits.TheConstants.{ACTORS}
use Rattle.cl_endpoint.specs.declared.received.Received.{Received}
use Rattle.cl_endpoint.specs.declared.received.Received.TheVariants.{Now}
use Rattle.cl_endpoint.specs.Emission.{emitted, after_emit}
use Rattle.cl_endpoint.specs.Endpoint.{EndpointState, received, after_receive, owed_to, after_gives, is_spent_to, after_tick, after_note}
use Rattle.cl_lines.specs.declared.out.Out.{Out}
use Rattle.cl_post.specs.Steps.{Input, handle, tick, feed, quiet, OutsData, no_outs}
use Rattle.cl_roster.specs.declared.entry.RosterEntry.{RosterEntry}
use Rattle.cl_steps.specs.Steps.{Step, nothing_done, receivers}
use Rattle.cl_wire.specs.Message.{Message, Content}
use Rattle.cl_actor.specs.Core.{Noted, CoreStep}
use Rattle.cl_actor.specs.declared.acting.Acting.{Acting}

-- the core of an actor
abbrev pub core_of : {C : Type 0} → Acting C → C
core_of acting = acting.core

-- the endpoint of an actor
abbrev pub endpoint_of : {C : Type 0} → Acting C → EndpointState
endpoint_of acting = acting.endpoint

-- the actor with another core
abbrev pub with_core : {C : Type 0} → Acting C → C → Acting C
with_core acting core = record acting { core = core }

-- what an actor has: a state of its core, and its endpoint
pub record ActingState (S : Type 0) : Type 0 where
  pub core : S
  pub endpoint : EndpointState

-- what an endpoint has noted of the roster
abbrev pub noted_in : EndpointState → Noted
noted_in endpoint = record { nodes = endpoint.nodes; spares = endpoint.spares; entries = endpoint.noted }

-- the core stays as it is and gives nothing
abbrev pub unmoved : {S : Type 0} → S → CoreStep S
unmoved state = record { state = state; step = nothing_done }

-- an endpoint after it was given what a step sends, and emitted
abbrev pub endpoint_after : EndpointState → Step → Option ℕ → EndpointState
endpoint_after endpoint step owed = after_emit (after_gives endpoint step.sends) owed

-- what an actor gives: what the endpoint then emits, and what the step gives beside messages
abbrev pub outs_after : EndpointState → Step → Option ℕ → OutsData
outs_after endpoint step owed =
    record { packets = emitted (after_gives endpoint step.sends) owed; firm = step.firm; entry = step.entry; short = step.short }

-- the end of every step: what the core sends is given to the links, and then the endpoint emits
abbrev pub finished : {S : Type 0} → CoreStep S → EndpointState → Option ℕ → ActingState S × OutsData
finished stepped endpoint owed =
    (record { core = stepped.state; endpoint = endpoint_after endpoint stepped.step owed }, outs_after endpoint stepped.step owed)

-- the message of a packet is accepted now
abbrev pub is_now : Received → Bool
is_now Now = true
is_now other = false

-- each receiver of a step is an actor
abbrev pub SendsToActors : {S : Type 0} → CoreStep S → Type 0
SendsToActors stepped = All (λ to. to < ACTORS) (receivers stepped.step)

-- by the steps that a core makes on messages
module _ {S : Type 0} (delivered : Noted → S → ℕ → Content → Bool → CoreStep S) where
  -- the core's step on the message of a packet
  abbrev pub delivery : ActingState S → Message → Bool → CoreStep S
  delivery before m mark = delivered (noted_in before.endpoint) before.core m.from m.content mark

  -- the core's step where the message is accepted now, and else none
  abbrev pub accepted_step : ActingState S → Message → Bool → CoreStep S
  accepted_step before m mark = if is_now (received before.endpoint m.from m.seq) then delivery before m mark else unmoved before.core

  -- a packet is handled: the endpoint receives it, and the core takes its message, where it is accepted now
  abbrev pub handled : ActingState S → Message → Bool → ActingState S × OutsData
  handled before m mark =
      finished (accepted_step before m mark) (after_receive before.endpoint m.from m.seq m.ack) (owed_to (received before.endpoint m.from m.seq) m.from)

  -- handling with this mark would need a number above its limit: one of the core, or that of a message which the core sends
  abbrev pub is_handling_spent : (Noted → S → ℕ → Content → Bool) → ActingState S → Message → Bool → Bool
  is_handling_spent is_delivery_spent before m mark =
      is_now (received before.endpoint m.from m.seq)
      && (is_delivery_spent (noted_in before.endpoint) before.core m.from m.content
      || is_spent_to (after_receive before.endpoint m.from m.seq m.ack) (receivers (delivery before m mark).step))

-- the actor can handle a packet: an actor sends it, and the core can take its message, where it is accepted now, and sends to actors alone
pub record HandlingFits {S : Type 0} (delivered : Noted → S → ℕ → Content → Bool → CoreStep S) (DeliveryFits : Noted → S → ℕ → Content → Type 0) (before : ActingState S) (m : Message) : Type 0 where
  pub sender : m.from < ACTORS
  pub core : received before.endpoint m.from m.seq ≡ Now → DeliveryFits (noted_in before.endpoint) before.core m.from m.content
  pub sends : received before.endpoint m.from m.seq ≡ Now → SendsToActors (delivery delivered before m false)

-- after a tick each message that is kept is due again
abbrev pub ticked : {S : Type 0} → ActingState S → ActingState S × OutsData
ticked before = finished (unmoved before.core) (after_tick before.endpoint) None

-- an entry of the roster is noted: the core takes its step by what was noted before
abbrev pub entry_noted : {S : Type 0} → (Noted → S → RosterEntry → CoreStep S) → ActingState S → RosterEntry → ActingState S × OutsData
entry_noted noted before entry = finished (noted (noted_in before.endpoint) before.core entry) (after_note before.endpoint entry) None

-- an endpoint notes the entry that is offered, if there is one
abbrev pub after_offer : EndpointState → Option RosterEntry → EndpointState
after_offer endpoint None = endpoint
after_offer endpoint (Some entry) = after_note endpoint entry

-- a node is to stop: what the core offers is noted in the same step
abbrev pub stop_asked : {S : Type 0} → (Noted → S → ℕ → CoreStep S) → ActingState S → ℕ → ActingState S × OutsData
stop_asked stopped before n =
    let stepped = stopped (noted_in before.endpoint) before.core n in
    finished stepped (after_offer before.endpoint stepped.step.entry) None

-- by the steps that a core makes on lines
module _ {S : Type 0} (fed : Noted → S → ℕ → List ℕ → List Out → CoreStep S) where
  -- a line is fed
  abbrev pub fed_line : ActingState S → ℕ → List ℕ → List Out → ActingState S × OutsData
  fed_line before line text said = finished (fed (noted_in before.endpoint) before.core line text said) before.endpoint None

  -- feeding would need a number above its limit: one of the core, or that of a message which the core sends
  abbrev pub is_feeding_spent : (Noted → S → ℕ → List ℕ → List Out → Bool) → ActingState S → ℕ → List ℕ → List Out → Bool
  is_feeding_spent is_line_spent before line text said =
      is_line_spent (noted_in before.endpoint) before.core line text said
      || is_spent_to before.endpoint (receivers (fed (noted_in before.endpoint) before.core line text said).step)

-- the actor can be fed a line: the core can take it, and sends to actors alone
pub record FeedingFits {S : Type 0} (fed : Noted → S → ℕ → List ℕ → List Out → CoreStep S) (LineFits : Noted → S → ℕ → List ℕ → List Out → Type 0) (before : ActingState S) (line : ℕ) (text : List ℕ) (said : List Out) : Type 0 where
  pub core : LineFits (noted_in before.endpoint) before.core line text said
  pub sends : SendsToActors (fed (noted_in before.endpoint) before.core line text said)

-- by the steps that a core makes
module _ {S : Type 0} (delivered : Noted → S → ℕ → Content → Bool → CoreStep S) (fed : Noted → S → ℕ → List ℕ → List Out → CoreStep S) where
  -- the actor after a step, and what the step gives; nothing comes of a quiet moment
  abbrev pub acted : ActingState S → Input → Bool → ActingState S × OutsData
  acted before (handle m) mark = handled delivered before m mark
  acted before tick mark = ticked before
  acted before (feed line text said) mark = fed_line fed before line text said
  acted before quiet mark = (before, no_outs)

  -- the step with this mark would need a number above its limit
  abbrev pub is_acting_spent : (Noted → S → ℕ → Content → Bool) → (Noted → S → ℕ → List ℕ → List Out → Bool) → ActingState S → Input → Bool → Bool
  is_acting_spent is_delivery_spent is_line_spent before (handle m) mark = is_handling_spent delivered is_delivery_spent before m mark
  is_acting_spent is_delivery_spent is_line_spent before tick mark = false
  is_acting_spent is_delivery_spent is_line_spent before (feed line text said) mark = is_feeding_spent fed is_line_spent before line text said
  is_acting_spent is_delivery_spent is_line_spent before quiet mark = false

  -- the state meets the conditions of each call that the step makes
  abbrev pub ActingFits : (Noted → S → ℕ → Content → Type 0) → (Noted → S → ℕ → List ℕ → List Out → Type 0) → ActingState S → Input → Type 0
  ActingFits DeliveryFits LineFits before (handle m) = HandlingFits delivered DeliveryFits before m
  ActingFits DeliveryFits LineFits before tick = Unit {0}
  ActingFits DeliveryFits LineFits before (feed line text said) = FeedingFits fed LineFits before line text said
  ActingFits DeliveryFits LineFits before quiet = Unit {0}
