-- Where the replica answers false, the message fits no state that it has.
use Rattle.std.proofs.Common.{Some, subst}
use Rattle.cl_node.specs.Slot.{IsReplicaAt}
use Rattle.cl_node.proofs.slot.admits.Goals as goal

pub returns-in-Some-clause-refused : goal.returns-in-Some-clause-refused
returns-in-Some-clause-refused c before is fits =
    c.may_come.ensures.refused before (subst (λ slot. IsReplicaAt slot (Some before)) c.in-Some.is is) fits
