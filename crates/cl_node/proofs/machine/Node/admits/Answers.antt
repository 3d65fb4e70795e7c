-- The node's state is one of its core, with its endpoint.
use Rattle.std.proofs.Common.{refl, sym, subst, ◌∙◌}
use Rattle.cl_node.specs.Machine.{NodeMachineState, endpoint_in}
use Rattle.cl_node.specs.NodeCore.{IsNodeState}
use Rattle.cl_node.proofs.Admitting.{delivery_fits, handling_fits, unexpected_fits}
use Rattle.cl_node.proofs.Slots.{node_has_state}
use Rattle.cl_node.proofs.machine.Node.admits.Goals as goal
use Rattle.cl_wire.specs.Message.{message_of}

pub returns-in-Now-clause-admitted : goal.returns-in-Now-clause-admitted
returns-in-Now-clause-admitted c is =
    let core = c.admits.ensures.admitted is in
    let before : NodeMachineState = record { core = core.0; endpoint = endpoint_in c.args.self.now } in (
      before,
      (subst (λ one. IsNodeState one core.0) c.core.ensures core.1, refl),
      handling_fits c.roster-roster.result.now before (message_of c.args.packet.now) c.roster-roster.ensures c.rosters_are_lawful.ensures.size c.rosters_are_lawful.ensures.lawful
          c.if-packet-ge-ACTORS.false core.2,
    )

pub returns-in-Now-clause-refused : goal.returns-in-Now-clause-refused
returns-in-Now-clause-refused c state is fits =
    c.admits.ensures.refused state.core (subst (λ one. IsNodeState one state.core) (sym c.core.ensures) is.0)
    (delivery_fits c.roster-roster.result.now (endpoint_in c.args.self.now) state (message_of c.args.packet.now) c.roster-roster.ensures is.1 (sym c.received.ensures ∙ c.in-Now.is) fits)

pub returns-in_default-clause-admitted : goal.returns-in_default-clause-admitted
returns-in_default-clause-admitted c is =
    let core = node_has_state c.args.self.now.acting.core.replicas in
    let before : NodeMachineState = record { core = core.0; endpoint = endpoint_in c.args.self.now } in
    (before, (core.1, refl), unexpected_fits before (message_of c.args.packet.now) c.if-packet-ge-ACTORS.false (λ now. c.in_default.not-Now (c.received.ensures ∙ now)))
