-- The replica that the message is for has a state in which it may come. There is none beyond the replicas.
use Rattle.std.proofs.Common.{◌≡◌, ◌<◌, ◌≤◌, length, Some, arith, sym, ap, ◌∙◌}
use Rattle.cl_actor.specs.Core.{noted_of}
use Rattle.cl_node.specs.Addressing.{addressed}
use Rattle.cl_node.specs.Node.{replica_for}
use Rattle.cl_node.proofs.Slots.{at_index, node_has_state_with, nothing_fits_beyond, nothing_fits_for_none, where_it_fits}
use Rattle.cl_node.proofs.node_core.NodeCore.admits.Goals as goal
use Rattle.cl_node.proofs.node_core.NodeCore.admits.Goals.{In-Some}
use Rattle.cl_wire.specs.Message.{content_of}

-- the virtual node that it is for
for : (c : In-Some) → addressed (noted_of c.args.roster.now).nodes (content_of c.args.body.now) ≡ Some c.in-Some.v
for c = ap (λ nodes. addressed nodes (content_of c.args.body.now)) (sym c.nodes.ensures.nodes) ∙ sym c.addressed.ensures ∙ c.in-Some.is

pub returns-clause-admitted : goal.returns-clause-admitted
returns-clause-admitted c is =
    let admitted = c.admits.ensures.admitted is in
    let within : c.in-Some.v < length c.args.self.now.replicas = omega (arith, c.args.self.now.counted) in
    let state = node_has_state_with c.args.self.now.replicas c.in-Some.v _ admitted.0 within admitted.1 in
    (state.0, state.1, record { replica = admitted.0; here = ap (replica_for state.0) (for (goal.at.returns-clause-admitted c).In-Some) ∙ state.2; fits = admitted.2 })

pub returns-clause-refused : goal.returns-clause-refused
returns-clause-refused c state is fit =
    let within : c.in-Some.v < length c.args.self.now.replicas = omega (arith, c.args.self.now.counted) in
    where_it_fits (noted_of c.args.roster.now) c.args.self.now.replicas state c.args.from c.in-Some.v (content_of c.args.body.now) is
    (for (goal.at.returns-clause-refused c).In-Some) _ c.admits.ensures.refused (at_index c.args.self.now.replicas state c.in-Some.v _ is within) fit

pub returns-then-index-ge-VIRTUAL_NODES_MAX-clause-refused : goal.returns-then-index-ge-VIRTUAL_NODES_MAX-clause-refused
returns-then-index-ge-VIRTUAL_NODES_MAX-clause-refused c state is fit =
    let beyond : length c.args.self.now.replicas ≤ c.in-Some.v = omega (arith, c.args.self.now.counted) in
    absurd (nothing_fits_beyond (noted_of c.args.roster.now) c.args.self.now.replicas state c.args.from c.in-Some.v (content_of c.args.body.now) is
    (for (goal.at.returns-then-index-ge-VIRTUAL_NODES_MAX-clause-refused c).In-Some) beyond fit)

pub returns-in_default-clause-refused : goal.returns-in_default-clause-refused
returns-in_default-clause-refused c state is fit =
    absurd (nothing_fits_for_none (noted_of c.args.roster.now) state c.args.from (content_of c.args.body.now)
    (ap (λ nodes. addressed nodes (content_of c.args.body.now)) (sym c.nodes.ensures.nodes) ∙ sym c.addressed.ensures ∙ c.in_default.is) fit)
