use Rattle.cl_log.proofs.Settled.{settled_after_undo}
use Rattle.cl_log.proofs.laws.undo_keeps_settled.Goals as goal

pub returns : goal.returns
returns c = λ entries n txn first others entry numbers step opened apart history out place.
    settled_after_undo entries n numbers txn first others step.rest entry step.now step.undoes history opened out apart place
