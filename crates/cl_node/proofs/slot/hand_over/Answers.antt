-- The step is that of the replica.
use Rattle.std.proofs.Common.{subst}
use Rattle.cl_actor.specs.Core.{noted_of}
use Rattle.cl_node.specs.Slot.{IsReplicaAt}
use Rattle.cl_node.proofs.Slots.{handed, handed_spent}
use Rattle.cl_node.proofs.slot.hand_over.Goals as goal

pub returns-in-Some-clause-step : goal.returns-in-Some-clause-step
returns-in-Some-clause-step c before is =
    handed (noted_of c.args.roster.now) _ _ before _ _ c.step.result c.step.ensures.step (subst (λ slot. IsReplicaAt slot before) c.in-Some.is is)

pub returns-in-Some-clause-spent : goal.returns-in-Some-clause-spent
returns-in-Some-clause-spent c before is =
    handed_spent _ before _ c.step.result c.step.ensures.spent (subst (λ slot. IsReplicaAt slot before) c.in-Some.is is)
