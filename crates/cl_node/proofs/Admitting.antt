-- Which packets a node can handle.
use Rattle.std.proofs.Common.{◌≡◌, ◌<◌, false, refl, sym, ap, subst, ◌∙◌}
use Rattle.cl_actor.specs.Acting.{HandlingFits, noted_in}
use Rattle.cl_actor.specs.Core.{Noted, noted_of}
use Rattle.cl_actor.specs.Laws.{IsLawfullyNoted}
use Rattle.cl_endpoint.specs.declared.limits.TheConstants.{ACTORS}
use Rattle.cl_endpoint.specs.declared.received.Received.TheVariants.{Now}
use Rattle.cl_endpoint.specs.Endpoint.{EndpointState, received}
use Rattle.cl_node.specs.Laws.{EveryNodeHasState}
use Rattle.cl_node.specs.Machine.{NodeMachineState, endpoint_in}
use Rattle.cl_node.specs.Node.{delivered_node, DeliveryFits}
use Rattle.cl_node.proofs.Sends.{node_sends}
use Rattle.cl_node.proofs.Slots.{node_has_state}
use Rattle.cl_roster.specs.Roster.{IsClusterSize, IsLawfulRoster}
use Rattle.cl_roster.specs.View.{RosterView}
use Rattle.cl_wire.specs.Message.{Message}

-- each node has a state
pub every_node_has_state : EveryNodeHasState
every_node_has_state node =
    let core = node_has_state node.acting.core.replicas in (record { core = core.0; endpoint = endpoint_in node }, (core.1, refl))

-- one whose message fits
pub handling_fits : (view : RosterView) (before : NodeMachineState) (m : Message) → noted_of view ≡ noted_in before.endpoint → IsClusterSize view.nodes view.spares →
    IsLawfulRoster view.nodes view.spares view.entries → m.from < ACTORS → DeliveryFits (noted_of view) before.core m.from m.content → HandlingFits delivered_node DeliveryFits before m
handling_fits view before m same size lawful sender fit =
    let is : IsLawfullyNoted (noted_in before.endpoint) = subst IsLawfullyNoted same (let seen : IsLawfullyNoted (noted_of view) = record { size = size; lawful = lawful } in seen) in
    let here : DeliveryFits (noted_in before.endpoint) before.core m.from m.content = subst (λ (noted : Noted). DeliveryFits noted before.core m.from m.content) same fit in
    record { sender = sender; core = λ now. here; sends = λ now. node_sends (noted_in before.endpoint) before.core m.from m.content false is sender here }

-- one whose message is not accepted now
pub unexpected_fits : (before : NodeMachineState) (m : Message) → m.from < ACTORS → (received before.endpoint m.from m.seq ≡ Now → ⊥) → HandlingFits delivered_node DeliveryFits before m
unexpected_fits before m sender other = record { sender = sender; core = λ now. absurd (other now); sends = λ now. absurd (other now) }

-- and the other way round, where its message is accepted now
pub delivery_fits : (view : RosterView) (endpoint : EndpointState) (state : NodeMachineState) (m : Message) → noted_of view ≡ noted_in endpoint → endpoint ≡ state.endpoint → received endpoint m.from m.seq ≡ Now →
    HandlingFits delivered_node DeliveryFits state m → DeliveryFits (noted_of view) state.core m.from m.content
delivery_fits view endpoint state m noted same now fits =
    subst (λ (one : Noted). DeliveryFits one state.core m.from m.content) (sym (noted ∙ ap noted_in same))
    (fits.core (subst (λ (one : EndpointState). received one m.from m.seq ≡ Now) same now))
