use Rattle.std.proofs.Common.{◌+◌, ◌<◌, sym, subst, arith}
use Rattle.cl_steps.specs.declared.actors.TheConstants.{FRONT}
use Rattle.cl_types.proofs.PlacementLaws.{node_count-bounds}
use Rattle.cl_world.specs.Actors.{AreFirstMembers}
use Rattle.cl_world.proofs.Moves.{first_more}
use Rattle.cl_world.proofs.actors.first_members.Goals as goal

pub loop-actor-preserved : goal.loop-actor-preserved
loop-actor-preserved c =
    let below : c.loop-actor.actor < FRONT = omega (arith, node_count-bounds c.args.nodes c.requires.counted, c.requires.few_spares) in
    subst (λ items. AreFirstMembers c.args.nodes c.args.spares (c.loop-actor.actor + 1) items) (sym c.in_ok-push.ensures.items)
    (first_more c.args.nodes c.args.spares c.loop-actor.actor c.loop-actor.members.items c.in_ok-node.node c.loop-actor.invariant below c.in_ok-node.ensures)
