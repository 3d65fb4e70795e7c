-- A message is handed to the replica that it is for.
use Rattle.std.proofs.Common.{◌≡◌, ◌<◌, ◌≤◌, length, Some, arith, sym, ap, subst, ◌∙◌}
use Rattle.cl_actor.specs.Core.{noted_of}
use Rattle.cl_node.specs.Addressing.{addressed}
use Rattle.cl_node.specs.Node.{replica_at}
use Rattle.cl_node.specs.NodeCore.{IsNodeState}
use Rattle.cl_node.proofs.Slots.{at_index, delivered, delivered_nowhere, delivered_spent, fits_there, nowhere_unspent}
use Rattle.cl_node.proofs.deciding.NodeCoreCore.deliver.Goals as goal
use Rattle.cl_node.proofs.deciding.NodeCoreCore.deliver.Goals.{In-Some}
use Rattle.cl_wire.specs.Message.{content_of}
use Rattle.cl_steps.specs.Steps.{step_of}

-- the virtual node that it is for
for : (c : In-Some) → addressed (noted_of c.args.roster.now).nodes (content_of c.args.body.now) ≡ Some c.in-Some.v
for c = ap (λ nodes. addressed nodes (content_of c.args.body.now)) (sym c.nodes.ensures.nodes) ∙ sym c.addressed.ensures ∙ c.in-Some.is

pub returns-then-index-ge-VIRTUAL_NODES_MAX-clause-step : goal.returns-then-index-ge-VIRTUAL_NODES_MAX-clause-step
returns-then-index-ge-VIRTUAL_NODES_MAX-clause-step c before is =
    let beyond : length c.args.self.now.replicas ≤ c.in-Some.v = omega (arith, c.args.self.now.counted) in
    let nothing = delivered_nowhere (noted_of c.args.roster.now) c.args.self.now.replicas before c.args.from c.in-Some.v (content_of c.args.body.now) is
    (for (goal.at.returns-then-index-ge-VIRTUAL_NODES_MAX-clause-step c).In-Some) c.new-then-index-ge-VIRTUAL_NODES_MAX.result.short beyond in
    subst (λ stepped. IsNodeState c.args.self.now stepped.state × (step_of c.new-then-index-ge-VIRTUAL_NODES_MAX.result ≡ stepped.step)) (sym nothing)
    (is, c.new-then-index-ge-VIRTUAL_NODES_MAX.ensures)

pub returns-then-index-ge-VIRTUAL_NODES_MAX-clause-spent : goal.returns-then-index-ge-VIRTUAL_NODES_MAX-clause-spent
returns-then-index-ge-VIRTUAL_NODES_MAX-clause-spent c before is =
    let beyond : length c.args.self.now.replicas ≤ c.in-Some.v = omega (arith, c.args.self.now.counted) in
    nowhere_unspent (noted_of c.args.roster.now) c.args.self.now.replicas before c.args.from c.in-Some.v (content_of c.args.body.now) is
    (for (goal.at.returns-then-index-ge-VIRTUAL_NODES_MAX-clause-spent c).In-Some) beyond

pub hand_over-requires : goal.hand_over-requires
hand_over-requires c =
    let within : c.in-Some.v < length c.args.self.now.replicas = omega (arith, c.args.self.now.counted) in
    let fit = c.requires.fits in
    fits_there (noted_of c.args.roster.now) c.args.self.now.replicas fit.0 c.args.from c.in-Some.v (content_of c.args.body.now) fit.1
    (for (goal.at.hand_over-requires c).In-Some) _ (at_index c.args.self.now.replicas fit.0 c.in-Some.v _ fit.1 within) fit.2

pub returns-clause-step : goal.returns-clause-step
returns-clause-step c before is =
    let within : c.in-Some.v < length c.args.self.now.replicas = omega (arith, c.args.self.now.counted) in
    delivered (noted_of c.args.roster.now) c.args.self.now.replicas before c.args.from c.in-Some.v (content_of c.args.body.now) is
    (for (goal.at.returns-clause-step c).In-Some) _ c.hand_over.result
    (c.hand_over.ensures.step (replica_at before c.in-Some.v) (at_index c.args.self.now.replicas before c.in-Some.v _ is within))

pub returns-clause-spent : goal.returns-clause-spent
returns-clause-spent c before is =
    let within : c.in-Some.v < length c.args.self.now.replicas = omega (arith, c.args.self.now.counted) in
    delivered_spent (noted_of c.args.roster.now) c.args.self.now.replicas before c.args.from c.in-Some.v (content_of c.args.body.now) is
    (for (goal.at.returns-clause-spent c).In-Some) c.hand_over.result
    (c.hand_over.ensures.spent (replica_at before c.in-Some.v) (at_index c.args.self.now.replicas before c.in-Some.v _ is within))
